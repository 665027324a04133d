use Rattle.std.proofs.Common.{sym, arith}
use Rattle.pager.proofs.Sizes.{held_size}
use Rattle.pager.proofs.memory.Memory.size.Goals as goal

pub returns-clause-view : goal.returns-clause-view
returns-clause-view c files = (omega arith, sym (held_size files c.args.self.now c.args.database))
