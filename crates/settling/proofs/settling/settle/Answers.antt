use Rattle.std.proofs.Common.{◌≤◌, Option, subst, arith}
use Rattle.set_files.proofs.Looks.{passed_up}
use Rattle.card.specs.Meaning.{Bytes}
use Rattle.steps.specs.Tasks.{Went}
use Rattle.steps.proofs.Went.{went_then}
use Rattle.names.specs.Files.{how_many, file_of}
use Rattle.settling.specs.Settled.{super_tasks}
use Rattle.steps.proofs.UpTo.{went_fail}
use Rattle.settling.proofs.Restored.{super_kept}
use Rattle.settling.proofs.settling.settle.Goals as goal

pub returns-in_err-restore_all : goal.returns-in_err-restore_all
returns-in_err-restore_all g c =
    let failed = passed_up _ _ c.from_residual.ensures.1 in
    λ seen all. went_fail _ {V = Unit {0}} _ _ _ _ _ _ failed (c.in_err-restore_all.ensures seen all)

pub returns : goal.returns
returns g c =
    let few : how_many c.args.names.now ≤ 4 = omega arith in
    λ seen all.
    let first = c.in_ok-restore_all.ensures seen all in
    went_then _ _ _ _ _ _ _ _ first
    (subst (λ (f : Option Bytes). Went g.C.Card.meaning {V = Unit {0}} (super_tasks (file_of c.args.names.now) f) c.restore_all.new.card c.delete_super.result c.delete_super.new.card) (super_kept _ c.args.names.now seen _ _ few first) c.delete_super.ensures.went)
