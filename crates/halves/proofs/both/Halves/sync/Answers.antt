use Rattle.std.proofs.Common.{sym, refl}
use Rattle.std.proofs.lemmas.Result.{err_from_is_err_and}
use Rattle.card.specs.Calls.{sync}
use Rattle.image.proofs.Files.{answer_at}
use Rattle.halves.proofs.Backed.{passed_paired, pair_synced}
use Rattle.halves.proofs.both.Halves.sync.Goals as goal

pub returns-in_err-changed : goal.returns-in_err-changed
returns-in_err-changed c =
    passed_paired sync c.args.name.now c.args.self.now.current.now c.args.self.now.synced.now _ _ (err_from_is_err_and c.from_residual.result c.from_residual.ensures.1) c.in_err-changed.ensures refl

pub returns : goal.returns
returns c =
    let found = c.in_ok-changed.ensures in
    rw c.settle.ensures.current
    (record {
      answer = sym (answer_at c.args.self.now.current.now c.args.name.now sync c.in_ok-changed.changed found);
      left = pair_synced c.args.name.now c.args.self.now.current.now c.args.self.now.synced.now _ c.in_ok-changed.changed found c.settle.ensures.settled;
      long = refl;
    })
