use Rattle.std.proofs.Common.{Option, sym, ◌∙◌, subst}
use Rattle.card.specs.Meaning.{Bytes}
use Rattle.steps.specs.Tasks.{Went}
use Rattle.steps.proofs.Went.{went_up}
use Rattle.names.specs.Files.{file_of}
use Rattle.set_files.proofs.Looks.{passed_up, told_some}
use Rattle.settling.specs.Settled.{super_tasks}
use Rattle.settling.proofs.Restored.{super_stop}
use Rattle.steps.proofs.UpTo.{went_next}
use Rattle.settling.proofs.settling.delete_super.Goals as goal

pub returns-in_err-length_of-clause-went : goal.returns-in_err-length_of-clause-went
returns-in_err-length_of-clause-went g c =
    went_up _ {V = Unit {0}} _ _ _ _ _ (passed_up _ _ c.from_residual.ensures.1) (super_stop _ (file_of c.args.names.now) _ _ _ _ c.in_err-length_of.ensures.went)

pub returns-in-Some-clause-went : goal.returns-in-Some-clause-went
returns-in-Some-clause-went g c =
    let there = told_some _ _ (sym c.in-Some.is ∙ c.in_ok-length_of.ensures.told) in
    subst (λ (f : Option Bytes). Went g.C.Card.meaning (super_tasks (file_of c.args.names.now) f) c.args.card.now c.delete_file.result c.delete_file.new.card) (sym there.1)
    (went_next _ _ _ _ _ _ _ _ c.in_ok-length_of.ensures.went c.delete_file.ensures)
