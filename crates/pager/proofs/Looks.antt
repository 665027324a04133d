-- What the store of changed pages holds after a page is put in.
use Rattle.std.proofs.Common.{◌≡◌, ℕ, ◌<◌, Bool, true, false, cond, ◌&&◌, eqb, ltb, ◌⊎◌, List, [], ◌∷◌, ◌++◌, length, get_or, set, Some, None, Option, sym, refl, ap, ◌∙◌, ap₂, inl, inr}
use Rattle.std.specs.List.{find, position, position_or_len, slice_get}
use Rattle.std.specs.Option.{option_map, option_or}
use Rattle.std.proofs.lemmas.List.Folds.{find_at, find-set, find_past, find-append}
use Rattle.std.proofs.lemmas.List.Quantifiers.{position-Some}
use Rattle.std.proofs.lemmas.Option.{none-some, cond_some, slice_get-get_or, slice_get_past}
use Rattle.std.proofs.lemmas.Bool.{cases_Bool, cond-true, cond-false, eqb-true, eq-eqb, ne_eqb, ltb-false, and_parts, both_ways}
use Rattle.card.specs.Meaning.{Bytes}
use Rattle.pager.specs.declared.changed_page.ChangedPage.{ChangedPage}
use Rattle.pager.specs.Changed.{is_row, look}

abbrev blank : ChangedPage
blank = record { database = 0; page = 0; bytes = [] }

abbrev bytes_of : Option ChangedPage → Option Bytes
bytes_of = option_map (λ row. row.bytes)

first_at : (test : ChangedPage → Bool) (rows : List ChangedPage) (i : ℕ) → position test rows ≡ Some i → position_or_len test rows ≡ i
first_at test rows i e = (cond_some (ltb (position_or_len test rows) (length rows)) (position_or_len test rows) i e).1

-- the page is in none of the rows
pub look_none : (rows : List ChangedPage) (d p : ℕ) → position (is_row d p) rows ≡ None → look rows d p ≡ None
unfolding look
look_none rows d p none = by (cases_Bool (ltb n (length rows)))
  where
    n : ℕ
    n = position_or_len (is_row d p) rows

    by : (ltb (position_or_len (is_row d p) rows) (length rows) ≡ true) ⊎ (ltb (position_or_len (is_row d p) rows) (length rows) ≡ false) → bytes_of (find (is_row d p) rows) ≡ None
    by (inl t) = absurd (none-some _ (sym none ∙ cond-true _ _ _ t))
    by (inr u) = ap bytes_of (find_at (is_row d p) rows ∙ slice_get_past rows _ (ltb-false _ _ u))

-- the page is in the row i
pub look_found : (rows : List ChangedPage) (d p i : ℕ) → position (is_row d p) rows ≡ Some i → look rows d p ≡ Some (get_or rows i blank).bytes
unfolding look
look_found rows d p i at =
    let within : i < length rows = (position-Some (is_row d p) rows i blank at).0 in
    ap bytes_of (find_at (is_row d p) rows ∙ ap (slice_get rows) (first_at (is_row d p) rows i at) ∙ slice_get-get_or rows i blank within)

-- a page with another in its place
abbrev changed_to : ℕ → ℕ → Bytes → (ℕ → ℕ → Option Bytes) → ℕ → ℕ → Option Bytes
changed_to d p bytes was e q = cond (eqb e d && eqb q p) (Some bytes) (was e q)

-- rows are told apart by database and page
row_is : (d p : ℕ) (bytes : Bytes) (e q : ℕ) → is_row e q (record { database = d; page = p; bytes = bytes }) ≡ (eqb e d && eqb q p)
row_is d p bytes e q = ap₂ (λ (x y : Bool). x && y) (eqb_sym d e) (eqb_sym p q)
  where
    eqb_sym : (a b : ℕ) → eqb a b ≡ eqb b a
    eqb_sym a b = by (cases_Bool (eqb a b))
      where
        by : (eqb a b ≡ true) ⊎ (eqb a b ≡ false) → eqb a b ≡ eqb b a
        by (inl t) = t ∙ sym (eq-eqb b a (sym (eqb-true a b t)))
        by (inr f) = f ∙ sym (ne_eqb b a (λ e. both_ways (eqb a b) f (eq-eqb a b (sym e))))

-- the same row, told twice
same_row : (d p e q : ℕ) (row : ChangedPage) → is_row d p row ≡ true → is_row e q row ≡ (eqb e d && eqb q p)
same_row d p e q row is =
    let a = eqb-true row.database d (and_parts _ _ is).0 in
    let b = eqb-true row.page p (and_parts _ _ is).1 in
    ap₂ (λ (x y : ℕ). eqb x e && eqb y q) a b ∙ row_is d p [] e q

module _ (rows : List ChangedPage) (d p : ℕ) (bytes : Bytes) (e q : ℕ) where
  new : ChangedPage
  new = record { database = d; page = p; bytes = bytes }

  same : (eqb e d && eqb q p) ≡ true → (e ≡ d) × (q ≡ p)
  same t = (eqb-true e d (and_parts _ _ t).0, eqb-true q p (and_parts _ _ t).1)

  pub look_replaced : (i : ℕ) → position (is_row d p) rows ≡ Some i → look (set rows i (record { database = d; page = p; bytes = bytes })) e q ≡ changed_to d p bytes (look rows) e q
  unfolding look new
  look_replaced i at = by (cases_Bool (eqb e d && eqb q p))
    where
      by : ((eqb e d && eqb q p) ≡ true) ⊎ ((eqb e d && eqb q p) ≡ false) → bytes_of (find (is_row e q) (set rows i new)) ≡ cond (eqb e d && eqb q p) (Some bytes) (bytes_of (find (is_row e q) rows))
      by (inl t) =
          let first = sym (ap₂ (λ (x y : ℕ). position_or_len (is_row x y) rows) (same t).0 (same t).1 ∙ first_at (is_row d p) rows i at) in
          ap bytes_of (find-set (is_row e q) rows i new first (position-Some (is_row d p) rows i blank at).0 (row_is d p bytes e q ∙ t))
          ∙ sym (cond-true _ _ _ t)
      by (inr u) =
          let here = (position-Some (is_row d p) rows i blank at).1 in
          ap bytes_of (find_past (is_row e q) rows i new blank (same_row d p e q (get_or rows i blank) here ∙ u) (row_is d p bytes e q ∙ u))
          ∙ sym (cond-false _ _ _ u)

  pub look_added : position (is_row d p) rows ≡ None → look (rows ++ (record { database = d; page = p; bytes = bytes }) ∷ []) e q ≡ changed_to d p bytes (look rows) e q
  unfolding look new
  look_added at =
      ap bytes_of (find-append (is_row e q) rows (new ∷ []))
      ∙ ap (λ (b : Bool). bytes_of (option_or (find (is_row e q) rows) (cond b (Some new) None))) (row_is d p bytes e q)
      ∙ by (find (is_row e q) rows) (eqb e d && eqb q p) (λ t. ap₂ (look rows) (same t).0 (same t).1 ∙ look_none rows d p at)
    where
      by : (o : Option ChangedPage) (b : Bool) → (b ≡ true → bytes_of o ≡ None) → bytes_of (option_or o (cond b (Some new) None)) ≡ cond b (Some bytes) (bytes_of o)
      by None true h = refl
      by None false h = refl
      by (Some row) false h = refl
      by (Some row) true h = absurd (none-some row.bytes (sym (h refl)))
