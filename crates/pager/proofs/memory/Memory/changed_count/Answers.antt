use Rattle.std.proofs.Common.{arith}
use Rattle.pager.specs.Sound.{map_of}
use Rattle.pager.proofs.memory.Memory.changed_count.Goals as goal

pub returns : goal.returns
unfolding map_of
returns c = (omega arith, c.count.ensures)
