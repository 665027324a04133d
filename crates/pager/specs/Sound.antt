-- What the fields of a transaction's memory keep among themselves.
use Rattle.std.specs.Prelude.{◌≡◌, ℕ, suc, ◌-◌, ◌<◌, ◌≤◌, true, false, List, [], All, length, is_some, Some, slice_index, slice_index_or}
use Rattle.page_map.specs.declared.PageMap.{PageMap}
use Rattle.pager.specs.declared.changed_page.ChangedPage.{ChangedPage}
use Rattle.pager.specs.declared.saved_page.SavedPage.{SavedPage}
use Rattle.pager.specs.declared.saved_page.Was.TheVariants.{Unchanged, Absent}
use Rattle.page_map.specs.Sets.{PageSet, total}
use Rattle.page_map.specs.Words.{pages_of}
use Rattle.pager.specs.Changed.{look}
use Rattle.pager.specs.Saved.{has_from, saved_total, Placed, first, was_changed}

-- the fields, with the stores as lists
pub record Fields : Type 0 where
  pub sizes : List ℕ
  pub maps : List PageMap
  pub changed : List ChangedPage
  pub saved : List SavedPage
  pub level_sizes : List (List ℕ)

-- the changed pages of a database, by its map
unfoldable pub map_of : List PageMap → ℕ → PageSet
map_of maps d = pages_of (slice_index_or maps d (record { words = [] })).words

-- the sizes at the making of savepoint k
abbrev pub sizes_at : Fields → ℕ → List ℕ
sizes_at f k = slice_index_or f.level_sizes (k - 1) []

-- the pages that were changed at the making of savepoint k
abbrev pub changed_at : Fields → ℕ → ℕ → PageSet
changed_at f k d p = was_changed (first k f.saved d p) (map_of f.maps d p)

-- the pages are some of those that the first databases have, by their sizes
abbrev pub Within : ℕ → List ℕ → (ℕ → PageSet) → Type 0
Within count sizes pages = (d p : ℕ) → pages d p ≡ true → (d < count) × (1 ≤ p) × (p ≤ slice_index sizes d)

-- the savepoint k and the pages that came after it: no database was larger at its making, and each page past its size
-- was saved since; a page is saved as not there yet just if it lies past the size, and as unchanged only if it does not
pub record Since (f : Fields) (k : ℕ) : Type 0 where
  pub size : (d : ℕ) → slice_index (sizes_at f k) d ≤ slice_index f.sizes d
  pub added : (d p : ℕ) → slice_index (sizes_at f k) d < p → p ≤ slice_index f.sizes d → is_some (first k f.saved d p) ≡ true
  pub absent : (d p : ℕ) → first k f.saved d p ≡ Some Absent → slice_index (sizes_at f k) d < p
  pub there : (d p : ℕ) → first k f.saved d p ≡ Some Unchanged → p ≤ slice_index (sizes_at f k) d

pub record Sound (count : ℕ) (f : Fields) : Type 0 where
  -- the pages in the maps are those in the store
  pub link : (d p : ℕ) → d < 4 → map_of f.maps d p ≡ is_some (look f.changed d p)
  -- the store of changed pages has as many rows as pages are changed, in all four databases
  pub all : length f.changed ≡ total (map_of f.maps) 4
  -- a changed page is one of its database, now and at the making of each savepoint that stands
  pub within : Within count f.sizes (map_of f.maps)
  pub was_within : (k : ℕ) → 1 ≤ k → k ≤ length f.level_sizes → Within count (sizes_at f k) (changed_at f k)
  -- each savepoint that stands has saved what came after it
  pub since : (k : ℕ) → 1 ≤ k → k ≤ length f.level_sizes → Since f k
  -- no page is saved by a savepoint that does not stand
  pub below : (d p : ℕ) → has_from (suc (length f.level_sizes)) f.saved d p ≡ false
  -- each saved page is of a database that there is, and one that a database can have
  pub placed : All (Placed count) f.saved
  -- the store of saved pages has as many rows as the savepoints that stand have saved pages, taken together
  pub saved_all : length f.saved ≡ saved_total (length f.level_sizes) f.saved
