use Rattle.std.proofs.Common.{ℕ, [], ◌∷◌, subst}
use Rattle.steps.specs.Tasks.{Went}
use Rattle.set_files.proofs.Looks.{passed_up}
use Rattle.names.specs.Files.{file_of}
use Rattle.settling.specs.Settled.{finish_tasks}
use Rattle.journal.specs.declared.verdict.Sound.{Sound as SoundParts}
use Rattle.steps.proofs.Went.{went_then}
use Rattle.steps.proofs.UpTo.{went_fail}
use Rattle.settling.proofs.playback.play.Goals as goal

pub returns-in_err-sound : goal.returns-in_err-sound
returns-in_err-sound g c =
    let failed = passed_up _ _ c.from_residual.ensures.1 in
    λ j whole. went_fail _ {V = SoundParts} (_ ∷ _ ∷ []) _ _ _ _ _ failed (c.in_err-sound.ensures.went j whole)

pub returns-in_err-write_records : goal.returns-in_err-write_records
returns-in_err-write_records g c =
    let failed = passed_up _ _ c.from_residual-in_err-write_records.ensures.1 in
    λ j whole.
    let told = c.in_ok-sound.ensures.told j whole in
    went_then _ (_ ∷ _ ∷ []) _ _ _ _ _ _ (c.in_ok-sound.ensures.went j whole)
    (went_fail _ _ _ _ _ _ _ failed (c.in_err-write_records.ensures j (c.journal_in.ensures j _ whole.0 told.0 told.1)))

pub returns : goal.returns
returns g c =
    λ j whole.
    let told = c.in_ok-sound.ensures.told j whole in
    let finished =
    subst (λ (k : ℕ). Went g.C.Card.meaning (finish_tasks (file_of c.args.names.now) c.args.d k) c.write_records.new.card c.finish.result c.finish.new.card) told.0.size c.finish.ensures in
    went_then _ (_ ∷ _ ∷ []) _ _ _ _ _ _ (c.in_ok-sound.ensures.went j whole)
    (went_then _ _ _ _ _ _ _ _ (c.in_ok-write_records.ensures j (c.journal_in.ensures j _ whole.0 told.0 told.1)) finished)
