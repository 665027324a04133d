use Rattle.std.proofs.Common.{sym, ◌∙◌}
use Rattle.pager.specs.View.{fields}
use Rattle.pager.proofs.Stacks.{length_stack}
use Rattle.pager.proofs.memory.Memory.savepoints.Goals as goal

pub returns-clause-view : goal.returns-clause-view
returns-clause-view c files = c.len.ensures.is ∙ sym (length_stack files (fields c.args.self.now) _)
