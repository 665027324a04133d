use Rattle.std.proofs.Common.{ℕ, [], ◌∷◌, refl, ◌∙◌, subst}
use Rattle.card.specs.Calls.Op.{delete as deletes}
use Rattle.names.specs.Files.{file_of}
use Rattle.refusal.specs.declared.step.Step.TheVariants.{R2}
use Rattle.steps.specs.Tasks.{Went, task, at}
use Rattle.steps.proofs.Went.{went_as}
use Rattle.set_files.proofs.Looks.{passed_up}
use Rattle.steps.proofs.UpTo.{went_next, went_fail}
use Rattle.settling.proofs.playback.finish.Goals as goal

pub returns-in_err-set_length : goal.returns-in_err-set_length
returns-in_err-set_length g c =
    let name = c.bytes.ensures ∙ c.file-name.ensures in
    went_fail _ (_ ∷ []) _ _ _ _ _ (passed_up _ _ c.from_residual.ensures.1) (went_as _ _ _ _ _ _ _ _ _ _ c.new-site.ensures name refl c.in_err-set_length.ensures)

pub returns-in_err-sync : goal.returns-in_err-sync
returns-in_err-sync g c =
    let name = c.bytes.ensures ∙ c.file-name.ensures in
    let name₂ = c.bytes-2.ensures ∙ c.file-name.ensures in
    went_next _ _ _ _ _ _ _ _ (went_as _ _ _ _ _ _ _ _ _ _ c.new-site.ensures name refl c.in_ok-set_length.ensures)
    (went_fail _ (_ ∷ []) _ _ _ _ _ (passed_up _ _ c.from_residual-in_err-sync.ensures.1) (went_as _ _ _ _ _ _ _ _ _ _ c.new-site.ensures name₂ refl c.in_err-sync.ensures))

pub returns : goal.returns
returns g c =
    let name = c.bytes.ensures ∙ c.file-name.ensures in
    let name₂ = c.bytes-2.ensures ∙ c.file-name.ensures in
    went_next _ _ _ _ _ _ _ _ (went_as _ _ _ _ _ _ _ _ _ _ c.new-site.ensures name refl c.in_ok-set_length.ensures)
    (went_next _ _ _ _ _ _ _ _ (went_as _ _ _ _ _ _ _ _ _ _ c.new-site.ensures name₂ refl c.in_ok-sync.ensures)
    (subst (λ (k : ℕ). Went g.C.Card.meaning {V = Unit {0}} (task (at R2 k) (file_of c.args.names.now k) deletes ∷ []) c.sync.new.card c.delete_file.result c.delete_file.new.card) c.journal_of.ensures c.delete_file.ensures))
