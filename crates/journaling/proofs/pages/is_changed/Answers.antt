use Rattle.journaling.proofs.Cases.{examples}
use Rattle.journaling.proofs.pages.is_changed.Goals as goal

pub returns-clause-examples : goal.returns-clause-examples
returns-clause-examples c = examples
