-- The saved pages after a release: what each lower savepoint saved, and what a page was at each.
use Rattle.std.proofs.Common.{◌≡◌, ℕ, suc, ◌-◌, ◌<◌, ◌≤◌, min, Bool, true, false, cond, ◌&&◌, ◌||◌, eqb, leb, ◌⊎◌, List, [], ◌∷◌, is_some, Some, None, Option, sym, refl, ap, ◌∙◌, ap₂, inl, inr, arith}
use native.Mathlib.Decide.{ℕ_discrete, dec_lt}
use Rattle.std.proofs.Math.Bool.{or-false, or_assoc}
use Rattle.std.specs.Option.{option_or}
use Rattle.std.proofs.lemmas.Bool.{cases_Bool, cond-true, cond-false, eqb-true, eq-eqb, ne_eqb, le-leb, lt-leb, leb-true, leb-false, and_parts, and_left, or_left, or_right, or_parts, both_ways}
use Rattle.pager.specs.declared.saved_page.SavedPage.{SavedPage}
use Rattle.pager.specs.declared.saved_page.Was.{Was}
use Rattle.pager.specs.Saved.{is_saved, has, has_from, first, passed, added, gathered}
use Rattle.pager.proofs.Saves.{saves, counts, has_end, from_end}
use Rattle.pager.proofs.Views.{first_end, has_first}

or_same : (a b : Bool) → (b ≡ true → a ≡ true) → a ≡ (a || b)
or_same true b h = refl
or_same false true h = absurd (both_ways false refl (h refl))
or_same false false h = refl

-- a row for the page that its savepoint has already
known : (k d p : ℕ) (out : List SavedPage) (r : SavedPage) → is_saved d p r ≡ true → has r.level out r.database r.page ≡ true → has r.level out d p ≡ true
known k d p out r is had =
    ap₂ (λ (x y : ℕ). has r.level out x y) (sym (eqb-true r.database d (and_parts _ _ is).0)) (sym (eqb-true r.page p (and_parts _ _ is).1)) ∙ had

-- one row more, at most
pub has_added : (k d p : ℕ) (out : List SavedPage) (r : SavedPage) → 0 < k → has k (added out r) d p ≡ (has k out d p || saves k d p r)
has_added k d p out r some = by (cases_Bool (leb 1 r.level)) (cases_Bool (has r.level out r.database r.page))
  where
    same : ((saves k d p r ≡ true) → has k out d p ≡ true) → has k out d p ≡ (has k out d p || saves k d p r)
    same h = or_same (has k out d p) (saves k d p r) h

    by : (leb 1 r.level ≡ true) ⊎ (leb 1 r.level ≡ false) → (has r.level out r.database r.page ≡ true) ⊎ (has r.level out r.database r.page ≡ false) → has k (added out r) d p ≡ (has k out d p || saves k d p r)
    by (inr none) w =
        ap (λ (l : List SavedPage). has k l d p) (cond-false _ _ _ none)
        ∙ same (λ t. let e = eqb-true r.level k (and_parts _ _ t).0 in let z = leb-false 1 r.level none in absurd (omega arith))
    by (inl up) (inl had) =
        ap (λ (l : List SavedPage). has k l d p) (cond-true _ _ _ up ∙ cond-true _ _ _ had)
        ∙ same (λ t. ap (λ (n : ℕ). has n out d p) (sym (eqb-true r.level k (and_parts _ _ t).0)) ∙ known k d p out r (and_parts _ _ t).1 had)
    by (inl up) (inr new) = ap (λ (l : List SavedPage). has k l d p) (cond-true _ _ _ up ∙ cond-false _ _ _ new) ∙ has_end k out r d p

pub first_added : (k d p : ℕ) (out : List SavedPage) (r : SavedPage) → 0 < k → first k (added out r) d p ≡ option_or (first k out d p) (cond (counts k d p r) (Some r.was) None)
first_added k d p out r some = by (cases_Bool (leb 1 r.level)) (cases_Bool (has r.level out r.database r.page))
  where
    unchanged : (o : Option Was) (b : Bool) → (b ≡ true → is_some o ≡ true) → o ≡ option_or o (cond b (Some r.was) None)
    unchanged (Some w) b h = refl
    unchanged None true h = absurd (both_ways false refl (h refl))
    unchanged None false h = refl

    by : (leb 1 r.level ≡ true) ⊎ (leb 1 r.level ≡ false) → (has r.level out r.database r.page ≡ true) ⊎ (has r.level out r.database r.page ≡ false) → first k (added out r) d p ≡ option_or (first k out d p) (cond (counts k d p r) (Some r.was) None)
    by (inr none) w =
        ap (λ (l : List SavedPage). first k l d p) (cond-false _ _ _ none)
        ∙ unchanged (first k out d p) (counts k d p r) (λ t. let e = leb-true k r.level (and_parts _ _ t).0 in let z = leb-false 1 r.level none in absurd (omega arith))
    by (inl up) (inl had) =
        ap (λ (l : List SavedPage). first k l d p) (cond-true _ _ _ up ∙ cond-true _ _ _ had)
        ∙ unchanged (first k out d p) (counts k d p r) (λ t. has_first r.level k out d p (leb-true k r.level (and_parts _ _ t).0) (known k d p out r (and_parts _ _ t).1 had))
    by (inl up) (inr new) = ap (λ (l : List SavedPage). first k l d p) (cond-true _ _ _ up ∙ cond-false _ _ _ new) ∙ first_end k out r d p

pub from_added : (k d p : ℕ) (out : List SavedPage) (r : SavedPage) → has_from k out d p ≡ false → counts k d p r ≡ false → has_from k (added out r) d p ≡ false
from_added k d p out r none far = by (cases_Bool (leb 1 r.level)) (cases_Bool (has r.level out r.database r.page))
  where
    by : (leb 1 r.level ≡ true) ⊎ (leb 1 r.level ≡ false) → (has r.level out r.database r.page ≡ true) ⊎ (has r.level out r.database r.page ≡ false) → has_from k (added out r) d p ≡ false
    by (inr low) w = ap (λ (l : List SavedPage). has_from k l d p) (cond-false _ _ _ low) ∙ none
    by (inl up) (inl had) = ap (λ (l : List SavedPage). has_from k l d p) (cond-true _ _ _ up ∙ cond-true _ _ _ had) ∙ none
    by (inl up) (inr new) =
        ap (λ (l : List SavedPage). has_from k l d p) (cond-true _ _ _ up ∙ cond-false _ _ _ new) ∙ from_end k out r d p ∙ ap₂ (λ (a b : Bool). a || b) none far

-- the tests of a row that is passed down
leb_min : (k a b : ℕ) → k ≤ b → leb k (min a b) ≡ leb k a
leb_min k a b le = by (dec_lt a k)
  where
    by : Dec (a < k) → leb k (min a b) ≡ leb k a
    by (yes lt) = lt-leb k (min a b) (omega arith) ∙ sym (lt-leb k a lt)
    by (no ge) = le-leb k (min a b) (omega arith) ∙ sym (le-leb k a (omega arith))

eqb_min : (k a b : ℕ) → k < b → eqb (min a b) k ≡ eqb a k
eqb_min k a b lt = by (ℕ_discrete a k)
  where
    by : Dec (a ≡ k) → eqb (min a b) k ≡ eqb a k
    by (yes e) = eq-eqb (min a b) k (omega arith) ∙ sym (eq-eqb a k e)
    by (no ne) = ne_eqb (min a b) k (λ z. ne (omega arith)) ∙ sym (ne_eqb a k ne)

eqb_top : (a b : ℕ) → eqb (min a b) b ≡ leb b a
eqb_top a b = by (dec_lt a b)
  where
    by : Dec (a < b) → eqb (min a b) b ≡ leb b a
    by (yes lt) = ne_eqb (min a b) b (λ z. omega arith) ∙ sym (lt-leb b a lt)
    by (no ge) = eq-eqb (min a b) b (omega arith) ∙ sym (le-leb b a (omega arith))

or_nested : (a b c : Option Was) → option_or (option_or a b) c ≡ option_or a (option_or b c)
or_nested None b c = refl
or_nested (Some w) b c = refl

module _ (s d p : ℕ) where
  -- below the savepoint that takes the pages over
  pub gathered_below : (k : ℕ) (out rows : List SavedPage) → 0 < k → k < s - 1 → has k (gathered s out rows) d p ≡ (has k out d p || has k rows d p)
  unfolding gathered has
  gathered_below k out [] some lt = sym (or-false (has k out d p))
  gathered_below k out (row ∷ rows) some lt =
      gathered_below k (added out (passed s row)) rows some lt
      ∙ ap (λ (b : Bool). b || has k rows d p) (has_added k d p out (passed s row) some ∙ ap (λ (b : Bool). has k out d p || (b && is_saved d p row)) (eqb_min k row.level (s - 1) lt))
      ∙ or_assoc (has k out d p) (saves k d p row) (has k rows d p)

  -- the savepoint that takes the pages over
  pub gathered_top : (k : ℕ) (out rows : List SavedPage) → 0 < k → k ≡ s - 1 → has k (gathered s out rows) d p ≡ (has k out d p || has_from k rows d p)
  unfolding gathered has_from
  gathered_top k out [] some e = sym (or-false (has k out d p))
  gathered_top k out (row ∷ rows) some e =
      gathered_top k (added out (passed s row)) rows some e
      ∙ ap (λ (b : Bool). b || has_from k rows d p)
      (has_added k d p out (passed s row) some ∙ ap (λ (b : Bool). has k out d p || (b && is_saved d p row)) (ap (λ (n : ℕ). eqb (min row.level n) k) (sym e) ∙ eqb_top row.level k))
      ∙ or_assoc (has k out d p) (counts k d p row) (has_from k rows d p)

  -- what a page was stays
  pub gathered_first : (k : ℕ) (out rows : List SavedPage) → 0 < k → k ≤ s - 1 → first k (gathered s out rows) d p ≡ option_or (first k out d p) (first k rows d p)
  unfolding gathered first
  gathered_first k out [] some le = sym (none (first k out d p))
    where
      none : (o : Option Was) → option_or o None ≡ o
      none None = refl
      none (Some w) = refl
  gathered_first k out (row ∷ rows) some le =
      gathered_first k (added out (passed s row)) rows some le
      ∙ ap (λ (o : Option Was). option_or o (first k rows d p))
      (first_added k d p out (passed s row) some ∙ ap (λ (b : Bool). option_or (first k out d p) (cond (b && is_saved d p row) (Some row.was) None)) (leb_min k row.level (s - 1) le))
      ∙ or_nested (first k out d p) (cond (counts k d p row) (Some row.was) None) (first k rows d p)
      ∙ ap (option_or (first k out d p)) (head (counts k d p row))
    where
      head : (b : Bool) → option_or (cond b (Some row.was) None) (first k rows d p) ≡ cond b (Some row.was) (first k rows d p)
      head true = refl
      head false = refl

  -- no page is saved above
  pub gathered_above : (k : ℕ) (out rows : List SavedPage) → s - 1 < k → has_from k out d p ≡ false → has_from k (gathered s out rows) d p ≡ false
  unfolding gathered
  gathered_above k out [] lt none = none
  gathered_above k out (row ∷ rows) lt none =
      gathered_above k (added out (passed s row)) rows lt (from_added k d p out (passed s row) none (and_left _ _ (lt-leb k (min row.level (s - 1)) (omega arith))))

-- where nothing is saved from k on
pub from_first : (k : ℕ) (rows : List SavedPage) (d p : ℕ) → has_from k rows d p ≡ false → first k rows d p ≡ None
unfolding has_from first
from_first k [] d p none = refl
from_first k (row ∷ rows) d p none =
    let parts = or_parts (counts k d p row) (has_from k rows d p) none in
    cond-false _ _ _ parts.0 ∙ from_first k rows d p parts.1

-- the savepoints from k on are k and those from the next on
pub from_split : (k : ℕ) (rows : List SavedPage) (d p : ℕ) → has_from k rows d p ≡ (has k rows d p || has_from (suc k) rows d p)
unfolding has_from has
from_split k [] d p = refl
from_split k (row ∷ rows) d p =
    ap₂ (λ (a b : Bool). (a && is_saved d p row) || b) (level (ℕ_discrete row.level k)) (from_split k rows d p)
    ∙ mix (eqb row.level k) (leb (suc k) row.level) (is_saved d p row) (has k rows d p) (has_from (suc k) rows d p)
  where
    level : Dec (row.level ≡ k) → leb k row.level ≡ (eqb row.level k || leb (suc k) row.level)
    level (yes e) = le-leb k row.level (omega arith) ∙ sym (or_left _ _ (eq-eqb row.level k e))
    level (no ne) = by (dec_lt row.level k)
      where
        by : Dec (row.level < k) → leb k row.level ≡ (eqb row.level k || leb (suc k) row.level)
        by (yes lt) = lt-leb k row.level lt ∙ sym (ap₂ (λ (a b : Bool). a || b) (ne_eqb row.level k ne) (lt-leb (suc k) row.level (omega arith)))
        by (no ge) = le-leb k row.level (omega arith) ∙ sym (or_right _ _ (le-leb (suc k) row.level (omega arith)))

    mix : (a b c x y : Bool) → (((a || b) && c) || (x || y)) ≡ (((a && c) || x) || ((b && c) || y))
    mix true b true x y = refl
    mix true true false x y = refl
    mix true false false x y = refl
    mix false true true true y = refl
    mix false true true false y = refl
    mix false true false x y = refl
    mix false false c x y = refl
