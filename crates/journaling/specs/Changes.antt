-- The databases that a commit changes, by the machine of the transaction and what the files hold.
use Rattle.std.specs.Prelude.{ℕ, ◌-◌, Bool, List, [], ◌∷◌, map, filter, Some, None, Option, nat_le, slice_index}
use Rattle.std.specs.List.{range_with_len}
use Rattle.card.specs.Meaning.{Bytes}
use Rattle.card.specs.Calls.{part}
use Rattle.journal.specs.Format.{PageRecord}
use Rattle.page_map.specs.Sets.{PageSet, counted}
use Rattle.page_map.specs.Listed.{above}
use Rattle.pager.specs.Machine.{Machine}
use Rattle.journaling.specs.Plan.{Change, place}

-- what a file holds, and nothing if it is absent
abbrev pub contents : Option Bytes → Bytes
contents None = []
contents (Some b) = b

-- page 1, and the changed pages within the size at the start
unfoldable pub recorded : PageSet → ℕ → List ℕ
recorded s size = 1 ∷ above s 1 (size - 1)

-- the database has a changed page
abbrev pub is_changed : (ℕ → PageSet) → ℕ → Bool
is_changed changed d = nat_le 1 (counted (changed d) 4096)

-- the numbers of those of the first n databases that have a changed page, ascending
unfoldable pub changed_list : (ℕ → PageSet) → ℕ → List ℕ
changed_list changed n = filter (is_changed changed) (range_with_len 0 n)

-- a page of a database as the machine holds it
abbrev pub page_held : Machine → ℕ → ℕ → PageRecord
page_held m d p = record { page = p; bytes = part (m.held.current d) (place p) 512 }

-- the changed pages of a database, ascending
abbrev pub pages_held : Machine → ℕ → List PageRecord
pages_held m d = map (page_held m d) (above (m.held.changed d) 0 4096)

-- what a commit does to a database, by the files, the sizes at the start, and the machine
abbrev pub change_of : (ℕ → Bytes) → List ℕ → Machine → ℕ → Change
change_of stored base m d = record {
  database = d;
  stored = stored d;
  size = slice_index base d;
  recorded = recorded (m.held.changed d) (slice_index base d);
  pages = pages_held m d;
}

-- what a commit does to the databases that it changes, in order
abbrev pub changes : (ℕ → Bytes) → List ℕ → Machine → ℕ → List Change
changes stored base m n = map (change_of stored base m) (changed_list m.held.changed n)
