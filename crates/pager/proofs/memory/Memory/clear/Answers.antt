use Rattle.pager.proofs.Cases.{examples}
use Rattle.pager.proofs.memory.Memory.clear.Goals as goal

pub returns-clause-examples : goal.returns-clause-examples
returns-clause-examples c = examples
