-- The store of changed pages, as a list: what it holds of a page.
use Rattle.std.specs.Prelude.{◌≡◌, ℕ, Bool, ◌&&◌, List, length, All, Option, find, ◌==◌}
use Rattle.std.specs.Option.{option_map}
use Rattle.card.specs.Meaning.{Bytes}
use Rattle.pager.specs.declared.changed_page.ChangedPage.{ChangedPage}

-- the row has this page of this database
abbrev pub is_row : ℕ → ℕ → ChangedPage → Bool
is_row d p row = row.database == d && row.page == p

-- what the store holds of a page
unfoldable pub look : List ChangedPage → ℕ → ℕ → Option Bytes
look rows d p = option_map (λ row. row.bytes) (find (is_row d p) rows)

-- each row has 512 bytes
abbrev pub Whole : List ChangedPage → Type 0
Whole = All (λ row. length row.bytes ≡ 512)
