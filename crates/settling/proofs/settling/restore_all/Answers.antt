use Rattle.std.proofs.Common.{◌≡◌, ℕ, ◌-◌, ◌<◌, ◌≤◌, List, take, get_or, Ok, sym, subst, arith}
use Rattle.std.proofs.lemmas.List.{get_or-take}
use Rattle.survey.specs.declared.report.Found.{Found}
use Rattle.survey.specs.declared.report.Found.TheVariants.{None as FoundNone}
use Rattle.survey.specs.Seen.{Seen, FoundOf, found_at}
use Rattle.set_files.proofs.Looks.{passed_up}
use Rattle.steps.specs.Tasks.{Went}
use Rattle.steps.proofs.Went.{went_up}
use Rattle.names.specs.Files.{how_many, file_of}
use Rattle.settling.specs.Settled.{all_tasks}
use Rattle.steps.proofs.UpTo.{up_none, up_more, up_stop}
use Rattle.settling.proofs.Restored.{still_stands}
use Rattle.settling.proofs.settling.restore_all.Goals as goal

-- what was found of a database that the set has
found_here : (found : List Found) (s : Seen) (m d : ℕ) → d < m → FoundOf s (found_at found d) → FoundOf s (get_or (take (m - 0) found) d FoundNone)
found_here found s m d lt f = subst (FoundOf s) (sym (get_or-take (m - 0) found d FoundNone (omega arith))) f

pub loop-d-init : goal.loop-d-init
loop-d-init g c = λ seen all. up_none _ _ _

pub restore-requires-clause-seen : goal.restore-requires-clause-seen
restore-requires-clause-seen g c =
    let lt : c.loop-d.d < how_many c.args.names.now = omega arith in
    let few : how_many c.args.names.now ≤ 4 = omega arith in
    let seen = c.requires.0 in
    let all = c.requires.1 in
    let here = all c.loop-d.d lt in
    let stands = still_stands _ c.args.names.now seen _ _ _ lt few here.0 (c.loop-d.invariant seen all) in
    (seen c.loop-d.d, stands, found_here c.args.found.now (seen c.loop-d.d) c.count.result c.loop-d.d (omega arith) here.1)

pub returns-in_err-restore : goal.returns-in_err-restore
returns-in_err-restore g c =
    let failed = passed_up _ _ c.from_residual.ensures.1 in
    let lt : c.loop-d.d < how_many c.args.names.now = omega arith in
    let few : how_many c.args.names.now ≤ 4 = omega arith in
    λ seen all.
    let old = c.loop-d.invariant seen all in
    let here = all c.loop-d.d lt in
    went_up _ {V = Unit {0}} _ _ _ _ _ failed
    (up_stop _ _ _ _ _ _ _ _ lt old (c.in_err-restore.ensures (seen c.loop-d.d) (still_stands _ c.args.names.now seen _ _ _ lt few here.0 old) (found_here c.args.found.now (seen c.loop-d.d) c.count.result c.loop-d.d (omega arith) here.1)))

pub loop-d-preserved : goal.loop-d-preserved
loop-d-preserved g c =
    let lt : c.loop-d.d < how_many c.args.names.now = omega arith in
    let few : how_many c.args.names.now ≤ 4 = omega arith in
    λ seen all.
    let old = c.loop-d.invariant seen all in
    let here = all c.loop-d.d lt in
    up_more _ _ _ _ _ _ (Ok tt) old (c.in_ok-restore.ensures (seen c.loop-d.d) (still_stands _ c.args.names.now seen _ _ _ lt few here.0 old) (found_here c.args.found.now (seen c.loop-d.d) c.count.result c.loop-d.d (omega arith) here.1))

pub returns : goal.returns
returns g c =
    let end : c.loop-d.d ≡ how_many c.args.names.now = omega arith in
    λ seen all. subst (λ (k : ℕ). Went g.C.Card.meaning {V = Unit {0}} (all_tasks (file_of c.args.names.now) k seen) c.args.card.now (Ok tt) c.loop-d.card) end (c.loop-d.invariant seen all)
