-- A visit gives each page of the set once and no other, in ascending order.
use Rattle.std.proofs.Common.{◌≡◌, ℕ, zero, suc, ◌+◌, ◌<◌, ◌≤◌, Bool, true, false, cond, eqb, List, [], ◌∷◌, length, sym, refl, ap, ◌∙◌, arith}
use native.Mathlib.Decide.{ℕ_discrete, dec_lt}
use Rattle.std.proofs.lemmas.Bool.{eq-eqb, ne_eqb}
use Rattle.page_map.specs.Sets.{PageSet, page_limit, one_if, counted, NextAbove, Visit, end, next, Ascending, listed, VisitLaw}

module _ (s : PageSet) where
  ascends : {after : ℕ} {pages : List ℕ} → Visit s after pages → Ascending after pages
  ascends (end none) = tt
  ascends (next n rest) = (n.above, ascends rest)

  each : {after : ℕ} {pages : List ℕ} → Visit s after pages → (q : ℕ) → after < q → listed pages q ≡ s q
  each (end none) q above = sym (none q above)
  each (next {p = p} {rest = rest} n visit) q above = by (ℕ_discrete q p) (each visit q)
    where
      by : Dec (q ≡ p) → (p < q → listed rest q ≡ s q) → cond (eqb q p) true (listed rest q) ≡ s q
      by (yes e) later = ap (λ (b : Bool). cond b true (listed rest q)) (eq-eqb q p e) ∙ sym (ap s e ∙ n.member)
      by (no ne) later = ap (λ (b : Bool). cond b true (listed rest q)) (ne_eqb q p ne) ∙ past (dec_lt q p)
        where
          past : Dec (q < p) → listed rest q ≡ s q
          past (no far) = later (omega arith)
          past (yes near) = before rest visit ∙ sym (n.least q above near)
            where
              before : (pages : List ℕ) → Visit s p pages → listed pages q ≡ false
              before pages v = below pages p q (omega arith) (ascends v)
                where
                  below : (pages : List ℕ) (from q : ℕ) → q ≤ from → Ascending from pages → listed pages q ≡ false
                  below [] from q le up = refl
                  below (r ∷ pages) from q le up =
                      ap (λ (b : Bool). cond b true (listed pages q)) (ne_eqb q r (λ z. omega (arith, up.0))) ∙ below pages r q (omega (arith, up.0)) up.1

-- where none of the pages above a page and up to n is in, no more are counted
counted_none : (s : PageSet) (low n : ℕ) → low ≤ n → ((q : ℕ) → low < q → q ≤ n → s q ≡ false) → counted s n ≡ counted s low
unfolding counted
counted_none s low zero le none = let e : low ≡ 0 = omega arith in sym (ap (counted s) e)
counted_none s low (suc n) le none = by (ℕ_discrete low (suc n)) (counted_none s low n)
  where
    by : Dec (low ≡ suc n) → (low ≤ n → ((q : ℕ) → low < q → q ≤ n → s q ≡ false) → counted s n ≡ counted s low) → counted s n + one_if (s (suc n)) ≡ counted s low
    by (yes e) earlier = sym (ap (counted s) e)
    by (no ne) earlier =
        omega (arith, earlier (omega arith) (λ q a b. none q a (omega arith)), ap one_if (none (suc n) (omega arith) (omega arith)))

-- up to the next page, one more is counted
counted_next : (s : PageSet) (after p : ℕ) → NextAbove s after p → counted s p ≡ counted s after + 1
unfolding counted
counted_next s after zero n = absurd (omega (arith, n.above))
counted_next s after (suc p) n =
    let above = n.above in
    omega (arith, counted_none s after p (omega arith) (λ q a b. n.least q a (omega arith)), ap one_if n.member)

number : (s : PageSet) {after : ℕ} {pages : List ℕ} → Visit s after pages → after ≤ page_limit → ((q : ℕ) → page_limit < q → s q ≡ false) → counted s after + length pages ≡ counted s page_limit
number s {after = after} (end none) within far = omega (arith, counted_none s after page_limit within (λ q a b. none q a))
number s {after = after} (next {p = p} {rest = rest} n visit) within far =
    omega (arith, number s visit (inside (dec_lt page_limit p)) far, counted_next s after p n)
  where
    inside : Dec (page_limit < p) → p ≤ page_limit
    inside (no near) = omega arith
    inside (yes past) = let z : true ≡ false = sym n.member ∙ far p past in let w : ◌≡◌ {A = ℕ} 0 1 = cc in absurd (omega arith)

counted_zero : (s : PageSet) → counted s 0 ≡ 0
unfolding counted
counted_zero s = refl

pub visit_law : (s : PageSet) → VisitLaw s
visit_law s pages visit = record {
  ascending = ascends s visit;
  each = each s visit;
  number = λ far. omega (arith, counted_zero s, number s visit (omega arith) far);
}
