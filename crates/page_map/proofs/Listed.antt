-- The pages of a set above a page: the next one stands first, they ascend, and they are no more than
-- the set counts.
use Rattle.std.proofs.Common.{◌≡◌, ℕ, zero, suc, ◌+◌, ◌-◌, ◌<◌, ◌≤◌, Bool, true, false, cond, ◌⊎◌, List, [], ◌∷◌, length, get_or, sym, refl, ap, ◌∙◌, subst, ap₂, inl, inr, arith}
use native.Mathlib.Decide.{ℕ_discrete}
use Rattle.std.proofs.lemmas.Bool.{cond-true, cond-false, cases_Bool}
use Rattle.page_map.specs.Sets.{PageSet, counted, one_if, NoneAbove, NextAbove}
use Rattle.page_map.specs.Listed.{above}

-- where none of the pages is in, none is listed
above_free : (s : PageSet) (after k : ℕ) → ((q : ℕ) → after < q → q ≤ after + k → s q ≡ false) → above s after k ≡ []
unfolding above
above_free s after zero free = refl
above_free s after (suc k) free =
    cond-false _ _ _ (free (suc after) (omega arith) (omega arith)) ∙ above_free s (suc after) k (λ q low high. free q (omega arith) (omega arith))

pub above_none : (s : PageSet) (after k : ℕ) → NoneAbove s after → above s after k ≡ []
above_none s after k none = above_free s after k (λ q low high. none q low)

-- the next page stands first, and the pages above it follow
pub above_next : (s : PageSet) (after p k : ℕ) → NextAbove s after p → p ≤ after + k → above s after k ≡ p ∷ above s p (after + k - p)
unfolding above
above_next s after p zero next high = absurd (omega (arith, next.above))
above_next s after p (suc k) next high = by (ℕ_discrete p (suc after)) (above_next s (suc after) p k)
  where
    by : Dec (p ≡ suc after) → (NextAbove s (suc after) p → p ≤ suc after + k → above s (suc after) k ≡ p ∷ above s p (suc after + k - p)) → cond (s (suc after)) (suc after ∷ above s (suc after) k) (above s (suc after) k) ≡ p ∷ above s p (after + suc k - p)
    by (yes e) later =
        let rest : k ≡ after + suc k - p = omega arith in
        cond-true _ _ _ (ap s (sym e) ∙ next.member) ∙ ap₂ (λ (q n : ℕ). q ∷ above s q n) (sym e) rest
    by (no ne) later =
        let low = next.above in
        let same : suc after + k - p ≡ after + suc k - p = omega arith in
        cond-false _ _ _ (next.least (suc after) (omega arith) (omega arith))
        ∙ later (record { above = omega arith; member = next.member; least = λ q a b. next.least q (omega arith) b }) (omega arith)
        ∙ ap (λ (n : ℕ). p ∷ above s p n) same

-- with the pages up to `after` they are all that the set counts
pub above_counted : (s : PageSet) (after k : ℕ) → length (above s after k) + counted s after ≡ counted s (after + k)
unfolding above counted
above_counted s after zero = let e : after ≡ after + 0 = omega arith in omega (arith, ap (counted s) e)
above_counted s after (suc k) = by (s (suc after)) (above_counted s (suc after) k)
  where
    same : suc after + k ≡ after + suc k
    same = omega arith

    by : (b : Bool) → length (above s (suc after) k) + (counted s after + one_if b) ≡ counted s (suc after + k) → length (cond b (suc after ∷ above s (suc after) k) (above s (suc after) k)) + counted s after ≡ counted s (after + suc k)
    by true e = omega (arith, ap (counted s) same)
    by false e = omega (arith, ap (counted s) same)

pub above_length : (s : PageSet) (after k : ℕ) → length (above s after k) ≤ counted s (after + k)
above_length s after k = omega (arith, above_counted s after k)

-- each page of the list is in the set, above `after`, and at most `after + k`
pub record Within (s : PageSet) (after k p : ℕ) : Type 0 where
  pub low : after < p
  pub high : p ≤ after + k
  pub member : s p ≡ true

pub above_within : (s : PageSet) (after k i : ℕ) → i < length (above s after k) → Within s after k (get_or (above s after k) i 0)
unfolding above
above_within s after zero i lt = absurd (omega arith)
above_within s after (suc k) i lt = by (cases_Bool (s (suc after))) (above_within s (suc after) k)
  where
    rest : List ℕ
    rest = above s (suc after) k

    wider : (p : ℕ) → Within s (suc after) k p → Within s after (suc k) p
    wider p w = record { low = omega (arith, w.low); high = omega (arith, w.high); member = w.member }

    Rest : Type 0
    Rest = (j : ℕ) → j < length rest → Within s (suc after) k (get_or rest j 0)

    first : Rest → (j : ℕ) → s (suc after) ≡ true → j < length (suc after ∷ rest) → Within s after (suc k) (get_or (suc after ∷ rest) j 0)
    first later zero is short = record { low = omega arith; high = omega arith; member = is }
    first later (suc j) is short = wider _ (later j (omega arith))

    by : (s (suc after) ≡ true) ⊎ (s (suc after) ≡ false) → Rest → Within s after (suc k) (get_or (cond (s (suc after)) (suc after ∷ rest) rest) i 0)
    by (inl is) later =
        let same = cond-true (s (suc after)) (suc after ∷ rest) rest is in
        subst (λ (pages : List ℕ). Within s after (suc k) (get_or pages i 0)) (sym same) (first later i is (subst (λ (pages : List ℕ). i < length pages) same lt))
    by (inr out) later =
        let same = cond-false (s (suc after)) (suc after ∷ rest) rest out in
        subst (λ (pages : List ℕ). Within s after (suc k) (get_or pages i 0)) (sym same) (wider _ (later i (subst (λ (pages : List ℕ). i < length pages) same lt)))
