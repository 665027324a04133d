use Rattle.std.proofs.Common.{sym, refl}
use Rattle.std.proofs.lemmas.Result.{err_from_is_err_and}
use Rattle.card.specs.Calls.{delete}
use Rattle.image.proofs.Files.{answer_at, refused_passed}
use Rattle.image.proofs.Freeing.{done_deleted}
use Rattle.image.proofs.slots.delete.Goals as goal

pub returns-in_err-present : goal.returns-in_err-present
returns-in_err-present c = refused_passed delete c.args.name.now c.args.image.now _ _ (err_from_is_err_and c.from_residual.result c.from_residual.ensures.1) c.in_err-present.ensures refl

pub returns : goal.returns
returns c =
    let image = c.args.image.now in
    let n = c.args.name.now in
    let found = c.in_ok-present.ensures in
    record { answer = sym (answer_at image n delete _ found); left = done_deleted image c.free_all.new.image n _ found c.free_all.ensures }
