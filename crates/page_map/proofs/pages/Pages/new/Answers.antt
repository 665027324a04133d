use Rattle.page_map.proofs.Once.{above_law}
use Rattle.page_map.proofs.Cases.{examples}
use Rattle.page_map.proofs.pages.Pages.new.Goals as goal

pub returns-clause-law : goal.returns-clause-law
returns-clause-law c = above_law

pub returns-clause-examples : goal.returns-clause-examples
returns-clause-examples c = examples
