-- A walk over the pages of a map, in ascending order: which pages are still to come.
use Rattle.std.specs.Prelude.{ℕ, ◌-◌, false, List, Some, None, Option}
use Rattle.std.specs.Borrow.{Bor}
use Rattle.page_map.specs.declared.PageMap.{PageMap}
use Rattle.page_map.specs.declared.pages.Pages.{Pages}
use Rattle.page_map.specs.Sets.{PageSet, page_limit}
use Rattle.page_map.specs.Words.{pages_of}
use Rattle.page_map.specs.Listed.{above}

-- the pages of a map; none where there is no map
abbrev pub pages_in : Option (Bor PageMap) → PageSet
pages_in None q = false
pages_in (Some map) q = pages_of map.now.words q

-- the pages that are still to come
unfoldable pub left : Pages → List ℕ
left walk = above (pages_in walk.map) walk.after (page_limit - walk.after)
