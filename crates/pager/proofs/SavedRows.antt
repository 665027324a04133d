-- The store of saved pages has a row for each page that a savepoint saved, and no other.
use Rattle.std.proofs.Common.{◌≡◌, ℕ, zero, suc, ◌+◌, ◌-◌, ◌<◌, ◌≤◌, Bool, true, false, cond, ◌||◌, leb, ◌⊎◌, List, [], ◌∷◌, ◌++◌, All, length, sym, refl, ap, ◌∙◌, ap₂, subst, inl, inr, arith, length-append}
use mathlib.Core.Path.{fun_ext}
use native.Mathlib.Decide.{ℕ_discrete}
use Rattle.std.proofs.Math.Bool.{or-false}
use Rattle.std.proofs.lemmas.Bool.{cases_Bool, cond-true, cond-false, eq-eqb, ne_eqb, leb-true, and_left, and_right, and_from, or_right}
use Rattle.std.proofs.lemmas.List.Elements.{All-push}
use Rattle.card.specs.Meaning.{Bytes}
use Rattle.page_map.specs.Sets.{PageSet, including, total}
use Rattle.page_map.proofs.Totals.{total_with, total_none}
use Rattle.pager.specs.declared.saved_page.SavedPage.{SavedPage}
use Rattle.pager.specs.Saved.{has, saved_total, Placed, passed, added, gathered}
use Rattle.pager.specs.Sound.{Fields}
use Rattle.pager.specs.Machine.{saved_in_all}
use Rattle.pager.specs.View.{stack}
use Rattle.pager.proofs.Saves.{saves, has_end}

-- there are as many rows as the lowest k savepoints saved pages
abbrev OneEach : ℕ → List SavedPage → Type 0
OneEach k rows = length rows ≡ saved_total k rows

-- a row put at the end
module _ (out : List SavedPage) (row : SavedPage) where
  more : List SavedPage
  more = out ++ row ∷ []

  -- what the row does not save is as it was
  apart : (k d p : ℕ) → saves k d p row ≡ false → has k more d p ≡ has k out d p
  unfolding more
  apart k d p not-it = has_end k out row d p ∙ ap (λ (b : Bool). has k out d p || b) not-it ∙ or-false (has k out d p)

  -- so it is for each savepoint other than the row's
  others : (k : ℕ) → (row.level ≡ k → ⊥) → total (has k more) 4 ≡ total (has k out) 4
  others k ne = ap (λ (s : ℕ → PageSet). total s 4) (fun_ext (λ d. fun_ext (λ p. apart k d p (and_left _ _ (ne_eqb row.level k ne)))))

  -- the row's savepoint has one page more
  own : Placed 4 row → has row.level out row.database row.page ≡ false → (k : ℕ) → row.level ≡ k → total (has k more) 4 ≡ total (has k out) 4 + 1
  unfolding more
  own placed new k same =
      subst (λ (l : ℕ). total (has l more) 4 ≡ total (has l out) 4 + 1) same
      (total_with (has row.level out) (has row.level more) row.database row.page placed.1 (λ q. page q (ℕ_discrete q row.page)) database 4 placed.0 ∙ cond-false _ _ _ new)
    where
      page : (q : ℕ) → Dec (q ≡ row.page) → has row.level more row.database q ≡ including (has row.level out row.database) row.page q
      page q (yes e) =
          has_end row.level out row row.database q
          ∙ or_right _ _ (and_from _ _ (eq-eqb row.level row.level refl) (and_from _ _ (eq-eqb row.database row.database refl) (eq-eqb row.page q (sym e))))
          ∙ sym (cond-true _ _ _ (eq-eqb q row.page e))
      page q (no ne) =
          apart row.level row.database q (and_right _ _ (and_right _ _ (ne_eqb row.page q (λ z. ne (sym z))))) ∙ sym (cond-false _ _ _ (ne_eqb q row.page ne))

      database : (d : ℕ) → (d ≡ row.database → ⊥) → has row.level more d ≡ has row.level out d
      database d ne = fun_ext (λ q. apart row.level d q (and_right _ _ (and_left _ _ (ne_eqb row.database d (λ z. ne (sym z))))))

  total_below : (k : ℕ) → k < row.level → saved_total k more ≡ saved_total k out
  unfolding saved_total
  total_below zero lt = refl
  total_below (suc k) lt = ap₂ (λ (x y : ℕ). x + y) (others (suc k) (λ e. omega arith)) (total_below k (omega arith))

  total_more : Placed 4 row → has row.level out row.database row.page ≡ false → 1 ≤ row.level → (k : ℕ) → row.level ≤ k → saved_total k more ≡ saved_total k out + 1
  unfolding saved_total
  total_more placed new some zero le = absurd (omega arith)
  total_more placed new some (suc k) le = by (ℕ_discrete row.level (suc k)) (total_more placed new some k)
    where
      by : Dec (row.level ≡ suc k) → (row.level ≤ k → saved_total k more ≡ saved_total k out + 1) → total (has (suc k) more) 4 + saved_total k more ≡ total (has (suc k) out) 4 + saved_total k out + 1
      by (yes e) earlier = omega (arith, own placed new (suc k) e, total_below k (omega arith))
      by (no ne) earlier = omega (arith, others (suc k) ne, earlier (omega arith))

-- a row that is added once
pub added_all : (k : ℕ) (out : List SavedPage) (row : SavedPage) → row.level ≤ k → Placed 4 row → OneEach k out → OneEach k (added out row)
unfolding more
added_all k out row le placed all = by (cases_Bool (leb 1 row.level)) (cases_Bool (has row.level out row.database row.page))
  where
    by : (leb 1 row.level ≡ true) ⊎ (leb 1 row.level ≡ false) → (has row.level out row.database row.page ≡ true) ⊎ (has row.level out row.database row.page ≡ false) → OneEach k (added out row)
    by (inr none) w = subst (OneEach k) (sym (cond-false _ _ _ none)) all
    by (inl up) (inl had) = subst (OneEach k) (sym (cond-true _ _ _ up ∙ cond-true _ _ _ had)) all
    by (inl up) (inr new) =
        subst (OneEach k) (sym (cond-true _ _ _ up ∙ cond-false _ _ _ new))
        (omega (arith, length-append out (row ∷ []), all, total_more out row placed new (leb-true 1 row.level up) k le))

pub added_placed : (count : ℕ) (out : List SavedPage) (row : SavedPage) → All (Placed count) out → Placed count row → All (Placed count) (added out row)
added_placed count out row before here = by (leb 1 row.level) (has row.level out row.database row.page)
  where
    by : (a b : Bool) → All (Placed count) (cond a (cond b out (out ++ row ∷ [])) out)
    by false b = before
    by true true = before
    by true false = All-push (Placed count) out row before here

-- the rows after a release
pub gathered_all : (s : ℕ) (out rows : List SavedPage) → All (Placed 4) rows → OneEach (s - 1) out → OneEach (s - 1) (gathered s out rows)
unfolding gathered
gathered_all s out [] placed all = all
gathered_all s out (row ∷ rows) placed all =
    gathered_all s (added out (passed s row)) rows (λ i x lt. placed (suc i) x (omega arith)) (added_all (s - 1) out (passed s row) (omega arith) (placed 0 row (omega arith)) all)

pub gathered_placed : (count s : ℕ) (out rows : List SavedPage) → All (Placed count) out → All (Placed count) rows → All (Placed count) (gathered s out rows)
unfolding gathered
gathered_placed count s out [] before placed = before
gathered_placed count s out (row ∷ rows) before placed =
    gathered_placed count s (added out (passed s row)) rows (added_placed count out (passed s row) before (placed 0 row (omega arith))) (λ i x lt. placed (suc i) x (omega arith))

-- where there are no rows, no page is saved
pub total_empty : (k : ℕ) → saved_total k [] ≡ 0
unfolding saved_total has
total_empty zero = refl
total_empty (suc k) = omega (arith, total_none (has (suc k) []) 4 (λ d p. refl), total_empty k)

-- one more savepoint, which has saved no page
pub total_next : (k : ℕ) (rows : List SavedPage) → ((d p : ℕ) → has (suc k) rows d p ≡ false) → saved_total (suc k) rows ≡ saved_total k rows
unfolding saved_total
total_next k rows none = omega (arith, total_none (has (suc k) rows) 4 none)

-- the savepoints of the machine have saved as many pages
pub stack_total : (files : ℕ → Bytes) (f : Fields) (k : ℕ) → saved_in_all (stack files f k) ≡ saved_total k f.saved
unfolding saved_in_all stack saved_total
stack_total files f zero = refl
stack_total files f (suc k) = ap (λ (n : ℕ). total (has (suc k) f.saved) 4 + n) (stack_total files f k)
