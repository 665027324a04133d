-- The store of saved pages: rows at its end, and rows passed down by a release.
use Rattle.std.proofs.Common.{◌≡◌, ℕ, Bool, ◌&&◌, ◌||◌, eqb, leb, List, [], ◌∷◌, ◌++◌, refl, ap, ◌∙◌}
use Rattle.std.proofs.Math.Bool.{or-false}
use Rattle.std.proofs.lemmas.List.Folds.{list_any-append}
use Rattle.pager.specs.declared.saved_page.SavedPage.{SavedPage}
use Rattle.pager.specs.Saved.{is_saved, has, has_from, passed, added, gathered}

-- the savepoint k saved this row for the page
abbrev pub saves : ℕ → ℕ → ℕ → SavedPage → Bool
saves k d p row = eqb row.level k && is_saved d p row

pub has_end : (k : ℕ) (rows : List SavedPage) (row : SavedPage) (d p : ℕ) → has k (rows ++ (row ∷ [])) d p ≡ (has k rows d p || saves k d p row)
unfolding has
has_end k rows row d p =
    list_any-append (saves k d p) rows (row ∷ []) ∙ ap (λ (b : Bool). has k rows d p || b) (or-false (saves k d p row))

-- savepoint k or one above it saved this row for the page
abbrev pub counts : ℕ → ℕ → ℕ → SavedPage → Bool
counts k d p row = leb k row.level && is_saved d p row

pub from_end : (k : ℕ) (rows : List SavedPage) (row : SavedPage) (d p : ℕ) → has_from k (rows ++ (row ∷ [])) d p ≡ (has_from k rows d p || counts k d p row)
unfolding has_from
from_end k rows row d p =
    list_any-append (counts k d p) rows (row ∷ []) ∙ ap (λ (b : Bool). has_from k rows d p || b) (or-false (counts k d p row))

pub gathered_none : (s : ℕ) → gathered s [] [] ≡ []
unfolding gathered
gathered_none s = refl

pub gathered_end : (s : ℕ) (out rows : List SavedPage) (row : SavedPage) → gathered s out (rows ++ (row ∷ [])) ≡ added (gathered s out rows) (passed s row)
unfolding gathered
gathered_end s out [] row = refl
gathered_end s out (r ∷ rows) row = gathered_end s (added out (passed s r)) rows row
