-- The list of the pages above a page ascends, and the pages in it are just those of the set within its bounds.
use Rattle.std.proofs.Common.{◌≡◌, ℕ, zero, suc, ◌+◌, ◌<◌, ◌≤◌, Bool, true, false, cond, ◌&&◌, eqb, ltb, leb, ◌⊎◌, List, [], ◌∷◌, ⊎_elim, sym, refl, ap, ◌∙◌, inl, inr, arith}
use native.Mathlib.Decide.{ℕ_discrete}
use Rattle.std.proofs.lemmas.Bool.{cases_Bool, cases_lt, cond-true, cond-false, ne_eqb, eq-eqb, lt-ltb, le-ltb, le-leb, lt-leb, and_from, and_left, and_right}
use Rattle.page_map.specs.Sets.{PageSet, Ascending, listed}
use Rattle.page_map.specs.Listed.{above, AboveLaw, EachOnce}

lower : (pages : List ℕ) (from after : ℕ) → after ≤ from → Ascending from pages → Ascending after pages
lower [] from after le up = tt
lower (p ∷ rest) from after le up = (omega (arith, up.0), up.1)

ascending : (s : PageSet) (after k : ℕ) → Ascending after (above s after k)
unfolding above
ascending s after zero = tt
ascending s after (suc k) = by (s (suc after)) (ascending s (suc after) k)
  where
    by : (b : Bool) → Ascending (suc after) (above s (suc after) k) → Ascending after (cond b (suc after ∷ above s (suc after) k) (above s (suc after) k))
    by true up = (omega arith, up)
    by false up = lower (above s (suc after) k) (suc after) after (omega arith) up

-- q is above `after`, at most `last`, and in the set
abbrev inside : PageSet → ℕ → ℕ → ℕ → Bool
inside s after last q = ltb after q && (leb q last && s q)

-- a page other than the next one
further : (s : PageSet) (after last q : ℕ) → (q ≡ suc after → ⊥) → inside s (suc after) last q ≡ inside s after last q
further s after last q ne = ap (λ (b : Bool). b && (leb q last && s q)) (⊎_elim near far (cases_lt after q))
  where
    near : after < q → ltb (suc after) q ≡ ltb after q
    near lt = let low : suc after < q = omega arith in lt-ltb (suc after) q low ∙ sym (lt-ltb after q lt)

    far : q ≤ after → ltb (suc after) q ≡ ltb after q
    far le = le-ltb (suc after) q (omega arith) ∙ sym (le-ltb after q le)

each : (s : PageSet) (after k q : ℕ) → listed (above s after k) q ≡ inside s after (after + k) q
unfolding above
each s after zero q = sym (⊎_elim (λ (lt : after < q). and_right (ltb after q) _ (and_left (leb q (after + 0)) _ (lt-leb q (after + 0) (omega arith)))) (λ (le : q ≤ after). and_left (ltb after q) _ (le-ltb after q le)) (cases_lt after q))
each s after (suc k) q = by (ℕ_discrete q (suc after)) (cases_Bool (s (suc after))) (each s (suc after) k q)
  where
    rest : List ℕ
    rest = above s (suc after) k

    Rest : Type 0
    Rest = listed rest q ≡ inside s (suc after) (suc after + k) q

    Whole : Type 0
    Whole = listed (cond (s (suc after)) (suc after ∷ rest) rest) q ≡ inside s after (after + suc k) q

    same : suc after + k ≡ after + suc k
    same = omega arith

    with_next : s (suc after) ≡ true → listed (cond (s (suc after)) (suc after ∷ rest) rest) q ≡ cond (eqb q (suc after)) true (listed rest q)
    with_next is = ap (λ (l : List ℕ). listed l q) (cond-true (s (suc after)) (suc after ∷ rest) rest is)

    without_next : s (suc after) ≡ false → listed (cond (s (suc after)) (suc after ∷ rest) rest) q ≡ listed rest q
    without_next out = ap (λ (l : List ℕ). listed l q) (cond-false (s (suc after)) (suc after ∷ rest) rest out)

    bounds : Rest → (q ≡ suc after → ⊥) → listed rest q ≡ inside s after (after + suc k) q
    bounds later ne = later ∙ ap (λ (n : ℕ). inside s (suc after) n q) same ∙ further s after (after + suc k) q ne

    by : Dec (q ≡ suc after) → (s (suc after) ≡ true) ⊎ (s (suc after) ≡ false) → Rest → Whole
    by (yes e) (inl is) later =
        with_next is ∙ cond-true _ _ _ (eq-eqb q (suc after) e)
        ∙ sym (and_from _ _ (lt-ltb after q (omega arith)) (and_from _ _ (le-leb q (after + suc k) (omega arith)) (ap s e ∙ is)))
    by (yes e) (inr out) later =
        without_next out ∙ later ∙ and_left _ _ (le-ltb (suc after) q (omega arith))
        ∙ sym (and_right (ltb after q) _ (and_right (leb q (after + suc k)) _ (ap s e ∙ out)))
    by (no ne) (inl is) later = with_next is ∙ cond-false _ _ _ (ne_eqb q (suc after) ne) ∙ bounds later ne
    by (no ne) (inr out) later = without_next out ∙ bounds later ne

pub above_law : AboveLaw
above_law = record { ascending = ascending; each = each }

pub each_once : (s : PageSet) → EachOnce s (above s 0 4096)
each_once s = record { ascending = ascending s 0 4096; each = λ q. each s 0 4096 q ∙ ap (λ (b : Bool). b && (leb q 4096 && s q)) (low q) ∙ assoc (leb 1 q) (leb q 4096) (s q) }
  where
    low : (q : ℕ) → ltb 0 q ≡ leb 1 q
    low zero = refl
    low (suc q) = lt-ltb 0 (suc q) (omega arith) ∙ sym (le-leb 1 (suc q) (omega arith))

    assoc : (a b c : Bool) → (a && (b && c)) ≡ ((a && b) && c)
    assoc true b c = refl
    assoc false b c = refl
