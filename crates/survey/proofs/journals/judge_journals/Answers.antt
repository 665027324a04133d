use Rattle.std.proofs.Common.{◌≡◌, ℕ, ◌+◌, ◌<◌, length, subst, arith}
use Rattle.names.specs.Files.{how_many, file_of}
use Rattle.set_files.specs.Files.{Holds}
use Rattle.set_files.specs.Looked.{never}
use Rattle.set_files.proofs.Looks.{looked_end, looked_then, looked_same, looked_up, told_up}
use Rattle.survey.specs.Finds.{DamagedAt}
use Rattle.survey.specs.Linked.{LookedAs}
use Rattle.survey.specs.Asks.{AsksJournal, Damaged}
use Rattle.survey.specs.Seen.{Seen, SeenAs}
use Rattle.survey.proofs.Asked.{gone_none, gone_more, gone_ends, gone_all, asked_up, asked_at, said}
use Rattle.survey.proofs.Judging.{seen_undamaged}
use Rattle.survey.proofs.Searched.{looked_more, all_looked}
use Rattle.survey.proofs.journals.judge_journals.Goals as goal

pub loop-d-init : goal.loop-d-init
loop-d-init g c = (looked_end _ _ _ _ _, gone_none _ (AsksJournal (g.C.Card.meaning.holds c.args.card.now) (file_of c.args.names.now) (how_many c.args.names.now)) _, λ k lt. absurd (omega arith))

pub returns-in_err-look-clause-looked : goal.returns-in_err-look-clause-looked
returns-in_err-look-clause-looked g c = looked_up _ _ _ _ _ _ _ _ _ c.from_residual.ensures.1 c.loop-d.invariant.0 c.in_err-look.ensures.looked

pub returns-in_err-look-clause-told : goal.returns-in_err-look-clause-told
returns-in_err-look-clause-told g c =
    let file = file_of c.args.names.now in
    let files = g.C.Card.meaning.holds c.args.card.now in
    let old = c.loop-d.invariant in
    let same = looked_same _ _ _ _ _ _ old.0 in
    let lt : c.loop-d.d < how_many c.args.names.now = omega arith in
    let bad = λ (f k : ℕ). (d : ℕ) × (f ≡ 4 + d) × (d < how_many c.args.names.now) × ((i : ℕ) → i < d → (s : Seen) × SeenAs files file i s) × DamagedAt files file d k in
    told_up c.from_residual.result _ _ _ bad _ never _ never c.from_residual.ensures.1
    (λ f k h. (c.loop-d.d, h.0, lt, λ i less. ((old.2 i less).0, (old.2 i less).1), subst (λ (x : Holds). DamagedAt x file c.loop-d.d k) same h.1)) (λ f h. h) (λ f h. h) c.in_err-look.ensures.told

pub returns-in_err-look-clause-asked : goal.returns-in_err-look-clause-asked
returns-in_err-look-clause-asked g c =
    let file = file_of c.args.names.now in
    let n = how_many c.args.names.now in
    let files = g.C.Card.meaning.holds c.args.card.now in
    let d = c.loop-d.d in
    let old = c.loop-d.invariant in
    let same = looked_same _ _ _ _ _ _ old.0 in
    asked_up _ _ _ _ _ _ c.from_residual.ensures.1
    (gone_ends _ (AsksJournal files file n) (Damaged files file) n d _ _ _ _ (omega arith) (λ i lt. seen_undamaged files file i (old.2 i lt).0 (old.2 i lt).1)
    (said _ _ never never (Damaged files file d) (λ f k h. (k, subst (λ (x : Holds). DamagedAt x file d k) same h.1)) (λ f h. absurd h) (λ f h. absurd h) c.in_err-look.ensures.told) old.1
    (asked_at _ (λ (h : Holds). AsksJournal h file n d) _ _ _ _ _ same c.in_err-look.ensures.asked))

pub returns-clause-asked : goal.returns-clause-asked
returns-clause-asked g c =
    let file = file_of c.args.names.now in
    let n = how_many c.args.names.now in
    let files = g.C.Card.meaning.holds c.args.card.now in
    let old = c.loop-d.invariant in
    let all : c.loop-d.d ≡ n = omega arith in
    gone_all _ (AsksJournal files file n) (Damaged files file) n c.loop-d.d _ _ all (λ i lt. let looked = old.2 i (omega arith) in seen_undamaged files file i looked.0 looked.1) old.1

pub loop-d-preserved : goal.loop-d-preserved
loop-d-preserved g c =
    let old = c.loop-d.invariant in
    let same = looked_same _ _ _ _ _ _ old.0 in
    let lt : c.loop-d.d < length c.loop-d.kept = omega arith in (
      looked_then _ _ _ _ _ _ _ _ old.0 c.in_ok-look.ensures.looked,
      gone_more _ (AsksJournal (g.C.Card.meaning.holds c.args.card.now) (file_of c.args.names.now) (how_many c.args.names.now)) c.loop-d.d _ _ _ old.1 (asked_at _ (λ (h : Holds). AsksJournal h (file_of c.args.names.now) (how_many c.args.names.now) c.loop-d.d) _ _ _ _ _ same c.in_ok-look.ensures.asked),
      looked_more (g.C.Card.meaning.holds c.args.card.now) (file_of c.args.names.now) c.loop-d.d c.loop-d.kept c.in_ok-look.field-0 lt old.2 (subst (λ (h : Holds). LookedAs h (file_of c.args.names.now) c.loop-d.d c.in_ok-look.field-0) same c.in_ok-look.ensures.told),
    )

pub returns-clause-told : goal.returns-clause-told
returns-clause-told g c =
    let long : length c.loop-d.kept ≡ how_many c.args.names.now = omega arith in
    all_looked _ _ _ c.count.result _ c.count.ensures long (λ k lt. c.loop-d.invariant.2 k (omega arith))
