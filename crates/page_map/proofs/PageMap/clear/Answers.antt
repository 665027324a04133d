use Rattle.page_map.proofs.Members.{page_zero}
use Rattle.page_map.proofs.PageMap.clear.Goals as goal

pub returns : goal.returns
returns c = page_zero
