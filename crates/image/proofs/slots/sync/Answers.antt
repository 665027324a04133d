use Rattle.std.proofs.Common.{sym, refl}
use Rattle.std.proofs.lemmas.Result.{err_from_is_err_and}
use Rattle.card.specs.Calls.{sync}
use Rattle.image.proofs.Files.{answer_at, done_looked, refused_passed}
use Rattle.image.proofs.slots.sync.Goals as goal

pub returns-in_err-present : goal.returns-in_err-present
returns-in_err-present c = refused_passed sync c.args.name.now c.args.image.now _ _ (err_from_is_err_and c.from_residual.result c.from_residual.ensures.1) c.in_err-present.ensures refl

pub returns : goal.returns
returns c =
    let image = c.args.image.now in
    let n = c.args.name.now in
    let found = c.in_ok-present.ensures in
    record { answer = sym (answer_at image n sync _ found); left = done_looked sync n image refl (λ k. refl) }
