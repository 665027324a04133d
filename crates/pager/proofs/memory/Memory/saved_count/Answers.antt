use Rattle.std.proofs.Common.{◌∙◌}
use Rattle.pager.proofs.Counted.{saved_all}
use Rattle.pager.proofs.memory.Memory.saved_count.Goals as goal

pub returns-clause-all : goal.returns-clause-all
returns-clause-all c files = c.count.ensures ∙ saved_all c.args.self.now files
