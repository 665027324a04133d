-- The store of saved pages, as a list in the order of saving: which savepoint saved which page, and
-- what a page was when a savepoint was made.
use Rattle.std.specs.Prelude.{All, length, ◌≡◌, ℕ, zero, suc, ◌+◌, ◌-◌, ◌<◌, min, Bool, true, false, cond, ◌&&◌, List, [], ◌∷◌, ◌++◌, Some, None, Option, ◌==◌, nat_le}
use Rattle.std.specs.List.{list_any}
use Rattle.card.specs.Meaning.{Bytes}
use Rattle.page_map.specs.Sets.{is_page, total}
use Rattle.pager.specs.declared.saved_page.SavedPage.{SavedPage}
use Rattle.pager.specs.declared.saved_page.Was.{Was}
use Rattle.pager.specs.declared.saved_page.Was.TheVariants.{Changed, Unchanged, Absent}

-- the row has this page of this database
abbrev pub is_saved : ℕ → ℕ → SavedPage → Bool
is_saved d p row = row.database == d && row.page == p

-- savepoint k has saved the page
unfoldable pub has : ℕ → List SavedPage → ℕ → ℕ → Bool
has k rows d p = list_any (λ row. row.level == k && is_saved d p row) rows

-- savepoint k or one above it has saved the page
unfoldable pub has_from : ℕ → List SavedPage → ℕ → ℕ → Bool
has_from k rows d p = list_any (λ row. nat_le k row.level && is_saved d p row) rows

-- how many pages the lowest k savepoints have saved, in all four databases; a page that two of them saved counts twice
unfoldable pub saved_total : ℕ → List SavedPage → ℕ
saved_total zero rows = 0
saved_total (suc k) rows = total (has (suc k) rows) 4 + saved_total k rows

-- the row is of one of the first databases, and of a page that a database can have
abbrev pub Placed : ℕ → SavedPage → Type 0
Placed count row = (row.database < count) × (is_page row.page ≡ true)

-- what the page was when savepoint k was made: what it was when it was first saved since
unfoldable pub first : ℕ → List SavedPage → ℕ → ℕ → Option Was
first k [] d p = None
first k (row ∷ rows) d p = cond (nat_le k row.level && is_saved d p row) (Some row.was) (first k rows d p)

-- whether a page was changed, from what it was saved as, if it was, and whether it is changed now
abbrev pub was_changed : Option Was → Bool → Bool
was_changed None now-changed = now-changed
was_changed (Some (Changed bytes)) now-changed = true
was_changed (Some Unchanged) now-changed = false
was_changed (Some Absent) now-changed = false

-- what a page was changed to has 512 bytes
abbrev pub WholeRows : List SavedPage → Type 0
WholeRows = All (λ row. (bytes : Bytes) → row.was ≡ Changed bytes → length bytes ≡ 512)

-- a row as it is once savepoint s and those above are removed: it belongs to the one below
abbrev pub passed : ℕ → SavedPage → SavedPage
passed s row = record { level = min row.level (s - 1); database = row.database; page = row.page; was = row.was }

-- a row is added unless its savepoint has its page already; with no savepoint it is dropped
abbrev pub added : List SavedPage → SavedPage → List SavedPage
added rows row = cond (nat_le 1 row.level) (cond (has row.level rows row.database row.page) rows (rows ++ (row ∷ []))) rows

-- the rows after a release of s, taken one by one
unfoldable pub gathered : ℕ → List SavedPage → List SavedPage → List SavedPage
gathered s out [] = out
gathered s out (row ∷ rows) = gathered s (added out (passed s row)) rows
