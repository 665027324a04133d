use Rattle.std.proofs.Common.{refl}
use Rattle.std.proofs.lemmas.Result.{err_from_is_err_and}
use Rattle.card.specs.Calls.{delete}
use Rattle.halves.proofs.Backed.{passed_paired, pair_deleted}
use Rattle.halves.proofs.both.Halves.delete.Goals as goal

pub returns-in_err-freed : goal.returns-in_err-freed
returns-in_err-freed c =
    passed_paired delete c.args.name.now c.args.self.now.current.now c.args.self.now.synced.now _ _ (err_from_is_err_and c.from_residual.result c.from_residual.ensures.1) c.in_err-freed.ensures refl

pub returns : goal.returns
returns c =
    let stored = c.in_ok-delete.ensures in
    rw c.settle.ensures.current
    (record {
      answer = stored.answer;
      left = pair_deleted c.args.name.now c.args.self.now.current.now c.args.self.now.synced.now _ _ c.in_ok-freed.freed stored.left c.in_ok-freed.ensures c.settle.ensures.settled;
      long = c.delete.auto.image;
    })
