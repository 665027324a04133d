-- The first slot of a name among the first k, and how many are free.
use Rattle.std.proofs.Common.{◌≡◌, ℕ, zero, suc, ◌+◌, ◌<◌, ◌≤◌, Bool, true, false, cond, ◌⊎◌, Some, None, Option, MatchOption, sym, refl, ap, ◌∙◌, subst, ap₂, inl, inr, arith}
use native.Mathlib.Decide.{ℕ_discrete}
use Rattle.std.proofs.lemmas.Bool.{cases_Bool}
use Rattle.card.specs.Meaning.{Bytes, Name}
use Rattle.image.specs.Layout.{named, free, slot, first_of, or_else, free_below, one_if, FirstSlot}

module _ (n : Name) where
  -- slots named alike, with the same belonging to those that have the name
  pub first_same :
      (f g a b : ℕ → Bytes) (k : ℕ) → ((j : ℕ) → j < k → named n (f j) ≡ named n (g j)) → ((j : ℕ) → j < k → named n (f j) ≡ true → a j ≡ b j) →
      first_of n f a k ≡ first_of n g b k
  unfolding first_of
  first_same f g a b zero same alike = refl
  first_same f g a b (suc k) same alike =
      ap₂ or_else (first_same f g a b k (λ j lt. same j (omega arith)) (λ j lt. alike j (omega arith))) (last (cases_Bool (named n (f k))))
    where
      here : named n (f k) ≡ named n (g k)
      here = same k (omega arith)

      last : (named n (f k) ≡ true) ⊎ (named n (f k) ≡ false) → cond (named n (f k)) (Some (a k)) None ≡ cond (named n (g k)) (Some (b k)) None
      last (inl t) = ap₂ (λ (u : Bool) (v : Bytes). cond u (Some v) None) here (alike k (omega arith) t)
      last (inr e) =
          ap (λ (u : Bool). cond u (Some (a k)) None) e ∙ sym (ap (λ (u : Bool). cond u (Some (b k)) None) (sym here ∙ e))

  pub first_none : (f a : ℕ → Bytes) (k : ℕ) → ((j : ℕ) → j < k → named n (f j) ≡ false) → first_of n f a k ≡ None
  unfolding first_of
  first_none f a zero none = refl
  first_none f a (suc k) none =
      ap₂ or_else (first_none f a k (λ j lt. none j (omega arith))) (ap (λ (u : Bool). cond u (Some (a k)) None) (none k (omega arith)))

  -- the first slot of the name is at j
  pub first_at : (f a : ℕ → Bytes) (k j : ℕ) → j < k → named n (f j) ≡ true → ((i : ℕ) → i < j → named n (f i) ≡ false) → first_of n f a k ≡ Some (a j)
  unfolding first_of
  first_at f a zero j lt is before = absurd (omega arith)
  first_at f a (suc k) j lt is before = by (ℕ_discrete j k) (λ lt'. first_at f a k j lt' is before)
    where
      by : Dec (j ≡ k) → (j < k → first_of n f a k ≡ Some (a j)) → or_else (first_of n f a k) (cond (named n (f k)) (Some (a k)) None) ≡ Some (a j)
      by (yes e) earlier =
          let none : first_of n f a k ≡ None = first_none f a k (λ i h. before i (omega arith)) in
          let here : named n (f k) ≡ true = subst (λ (i : ℕ). named n (f i) ≡ true) e is in
          ap₂ or_else none (ap (λ (u : Bool). cond u (Some (a k)) None) here) ∙ ap (λ (i : ℕ). Some (a i)) (sym e)
      by (no ne) earlier = ap (λ (o : Option Bytes). or_else o (cond (named n (f k)) (Some (a k)) None)) (earlier (omega arith))

pub free_same : (f g : ℕ → Bytes) (k : ℕ) → ((j : ℕ) → j < k → free (f j) ≡ free (g j)) → free_below f k ≡ free_below g k
unfolding free_below
free_same f g zero same = refl
free_same f g (suc k) same = ap₂ (λ (x y : ℕ). x + y) (free_same f g k (λ j lt. same j (omega arith))) (ap one_if (same k (omega arith)))

-- one slot fewer is free
pub free_less :
    (f g : ℕ → Bytes) (k j : ℕ) → j < k → free (f j) ≡ false → free (g j) ≡ true → ((i : ℕ) → i < k → (i ≡ j → ⊥) → free (f i) ≡ free (g i)) → suc (free_below f k) ≡ free_below g k
unfolding free_below
free_less f g zero j lt not is same = absurd (omega arith)
free_less f g (suc k) j lt not is same = by (ℕ_discrete j k) (λ lt'. free_less f g k j lt' not is (λ i h. same i (omega arith)))
  where
    by : Dec (j ≡ k) → (j < k → suc (free_below f k) ≡ free_below g k) → suc (free_below f k + one_if (free (f k))) ≡ free_below g k + one_if (free (g k))
    by (yes e) earlier =
        let below : free_below f k ≡ free_below g k = free_same f g k (λ i h. same i (omega arith) (λ z. omega arith)) in
        let was : one_if (free (f k)) ≡ 0 = ap one_if (subst (λ (i : ℕ). free (f i) ≡ false) e not) in
        let now-is : one_if (free (g k)) ≡ 1 = ap one_if (subst (λ (i : ℕ). free (g i) ≡ true) e is) in
        omega (arith, below, was, now-is)
    by (no ne) earlier =
        let below : suc (free_below f k) ≡ free_below g k = earlier (omega arith) in
        let last : one_if (free (f k)) ≡ one_if (free (g k)) = ap one_if (same k (omega arith) (λ z. ne (sym z))) in
        omega (arith, below, last)

-- where each free slot stays free, no fewer are
pub free_more : (f g : ℕ → Bytes) (k : ℕ) → ((i : ℕ) → i < k → free (f i) ≡ true → free (g i) ≡ true) → free_below f k ≤ free_below g k
unfolding free_below
free_more f g zero keep = omega arith
free_more f g (suc k) keep = by (free_more f g k (λ i h. keep i (omega arith))) (cases_Bool (free (f k)))
  where
    by : free_below f k ≤ free_below g k → (free (f k) ≡ true) ⊎ (free (f k) ≡ false) → free_below f k + one_if (free (f k)) ≤ free_below g k + one_if (free (g k))
    by below (inl t) = omega (arith, below, ap one_if t, ap one_if (keep k (omega arith) t))
    by below (inr e) = omega (arith, below, ap one_if e)

-- and one that was not free and is now makes one more
pub free_gain :
    (f g : ℕ → Bytes) (k j : ℕ) → j < k → free (f j) ≡ false → free (g j) ≡ true → ((i : ℕ) → i < k → free (f i) ≡ true → free (g i) ≡ true) → suc (free_below f k) ≤ free_below g k
unfolding free_below
free_gain f g zero j lt was is keep = absurd (omega arith)
free_gain f g (suc k) j lt was is keep = by (ℕ_discrete j k) (λ lt'. free_gain f g k j lt' was is (λ i h. keep i (omega arith)))
  where
    by : Dec (j ≡ k) → (j < k → suc (free_below f k) ≤ free_below g k) → suc (free_below f k + one_if (free (f k))) ≤ free_below g k + one_if (free (g k))
    by (yes e) earlier =
        let below : free_below f k ≤ free_below g k = free_more f g k (λ i h. keep i (omega arith)) in
        let was-not : one_if (free (f k)) ≡ 0 = ap one_if (subst (λ (i : ℕ). free (f i) ≡ false) e was) in
        let now-is : one_if (free (g k)) ≡ 1 = ap one_if (subst (λ (i : ℕ). free (g i) ≡ true) e is) in
        omega (arith, below, was-not, now-is)
    by (no ne) earlier = last (cases_Bool (free (f k)))
      where
        below : suc (free_below f k) ≤ free_below g k
        below = earlier (omega arith)

        last : (free (f k) ≡ true) ⊎ (free (f k) ≡ false) → suc (free_below f k + one_if (free (f k))) ≤ free_below g k + one_if (free (g k))
        last (inl t) = omega (arith, below, ap one_if t, ap one_if (keep k (omega arith) t))
        last (inr e) = omega (arith, below, ap one_if e)

-- a free slot among them, or none
pub free_some : (f : ℕ → Bytes) (k j : ℕ) → j < k → free (f j) ≡ true → free_below f k ≡ 0 → ⊥
unfolding free_below
free_some f zero j lt is e = omega arith
free_some f (suc k) j lt is e = by (ℕ_discrete j k) (λ lt' none. free_some f k j lt' is none)
  where
    by : Dec (j ≡ k) → (j < k → free_below f k ≡ 0 → ⊥) → ⊥
    by (yes w) earlier = let one : one_if (free (f k)) ≡ 1 = ap one_if (subst (λ (i : ℕ). free (f i) ≡ true) w is) in omega (arith, one)
    by (no w) earlier = earlier (omega arith) (omega arith)

pub free_none : (f : ℕ → Bytes) (k : ℕ) → ((j : ℕ) → j < k → free (f j) ≡ false) → free_below f k ≡ 0
unfolding free_below
free_none f zero none = refl
free_none f (suc k) none =
    omega (arith, free_none f k (λ j lt. none j (omega arith)), ap one_if (none k (omega arith)))

pub free_most : (f : ℕ → Bytes) (k : ℕ) → free_below f k ≤ k
unfolding free_below
free_most f zero = omega arith
free_most f (suc k) = by (free_most f k) (cases_Bool (free (f k)))
  where
    by : free_below f k ≤ k → (free (f k) ≡ true) ⊎ (free (f k) ≡ false) → free_below f k + one_if (free (f k)) ≤ suc k
    by below (inl t) = omega (arith, below, ap one_if t)
    by below (inr e) = omega (arith, below, ap one_if e)

pub free_all : (f : ℕ → Bytes) (k : ℕ) → ((j : ℕ) → j < k → free (f j) ≡ true) → free_below f k ≡ k
unfolding free_below
free_all f zero all = refl
free_all f (suc k) all =
    omega (arith, free_all f k (λ j lt. all j (omega arith)), ap one_if (all k (omega arith)))

-- what a search of the 16 slots in their order finds
pub first_slot :
    (is : Bytes → Bool) (image : Bytes) (r : Option ℕ) →
    MatchOption r ((k : ℕ) → 0 ≤ k → k < 16 → is (slot image k) ≡ false) (λ i. (0 ≤ i) × (i < 16) × (is (slot image i) ≡ true) × ((k : ℕ) → 0 ≤ k → k < i → is (slot image k) ≡ false)) → FirstSlot is image r
first_slot is image None none = λ k lt. none k (omega arith) lt
first_slot is image (Some i) (le, lt, found, before) = (lt, found, λ j below. before j (omega arith) below)
