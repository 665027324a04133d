use Rattle.std.proofs.Common.{arith}
use Rattle.std.proofs.lemmas.List.{get_or-set_same, length-set}
use Rattle.image.proofs.Named.{is_free}
use Rattle.image.proofs.slot.release.Goals as goal

pub returns : goal.returns
returns c = is_free _ (simp length-set (omega arith)) (get_or-set_same c.args.slot.now 32 0 0 (omega arith))
