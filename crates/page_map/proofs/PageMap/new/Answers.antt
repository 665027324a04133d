use Rattle.page_map.proofs.Members.{page-zero}
use Rattle.page_map.proofs.PageMap.new.Goals as goal

pub returns : goal.returns
returns c = page-zero
