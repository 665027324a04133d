-- The digits of one word: under "or" and "and", of the masks of one bit, and the lowest one.
use Rattle.std.proofs.Common.{◌≡◌, ℕ, zero, suc, ◌+◌, ◌-◌, ◌/◌, ◌%◌, ◌^◌, ◌<◌, ◌≤◌, Bool, true, cond, ◌&&◌, eqb, ◌⊎◌, sym, refl, ap, ◌∙◌, subst, inl, inr, ⊎_elim, lt_of_lt_of_le, arith, pow_mono, shr_lt}
use native.Mathlib.Nat.{div-eq_of_lt, zero-div}
use lib.Bits.{bit_and, bit_or, or_shr, or_mod, and_shr, and_mod}
use lib.Count.{count_trailing_zeros, under}
use Rattle.std.proofs.lemmas.Nat.{shr-shr, mod_below}
use Rattle.std.proofs.lemmas.Bool.{ne_eqb, eq-eqb, cases_lt}
use Rattle.std.proofs.lemmas.Bool.Decides.{Decides-below_and, Decides-eqb, Decides-and}
use Rattle.page_map.specs.Words.{bit}

pub bit_of_or : (a b j : ℕ) → bit (bit_or a b) j ≡ bit_or (bit a j) (bit b j)
unfolding bit
bit_of_or a b j = ap (λ (x : ℕ). x % 2) (or_shr a b j) ∙ or_mod (a / 2 ^ j) (b / 2 ^ j) 1

pub bit_of_and : (a b j : ℕ) → bit (bit_and a b) j ≡ bit_and (bit a j) (bit b j)
unfolding bit
bit_of_and a b j = ap (λ (x : ℕ). x % 2) (and_shr a b j) ∙ and_mod (a / 2 ^ j) (b / 2 ^ j) 1

two : (n : ℕ) → n < 2 → (n ≡ 0) ⊎ (n ≡ 1)
two zero h = inl refl
two (suc zero) h = inr refl
two (suc (suc n)) h = absurd (omega arith)

pub bit_two : (w j : ℕ) → (bit w j ≡ 0) ⊎ (bit w j ≡ 1)
unfolding bit
bit_two w j = two (w / 2 ^ j % 2) (mod_below (w / 2 ^ j) 2 (omega arith))

pub bit_shr : (n k j : ℕ) → bit (n / 2 ^ k) j ≡ bit n (k + j)
unfolding bit
bit_shr n k j = ap (λ (x : ℕ). x % 2) (shr-shr n k j)

pub bit_zero : (j : ℕ) → bit 0 j ≡ 0
unfolding bit
bit_zero j = ap (λ (x : ℕ). x % 2) (zero-div (2 ^ j))

-- the mask of one bit and its complement, digit by digit: a table, computed
abbrev all : (ℕ → Bool) → ℕ → Bool
all p zero = true
all p (suc n) = p n && all p n

abbrev row : ℕ → ℕ → Bool
row k j = eqb (2 ^ k / 2 ^ j % 2) (cond (eqb j k) 1 0) && eqb ((18446744073709551615 - 2 ^ k) / 2 ^ j % 2) (cond (eqb j k) 0 1)

table : all (λ k. all (λ j. row k j) 64) 64 ≡ true
table = refl

Mask : ℕ → ℕ → Type 0
Mask k j = (2 ^ k / 2 ^ j % 2 ≡ cond (eqb j k) 1 0) × ((18446744073709551615 - 2 ^ k) / 2 ^ j % 2 ≡ cond (eqb j k) 0 1)

masks : (k j : ℕ) → k < 64 → j < 64 → Mask k j
unfolding Mask
masks k j hk hj =
    (Decides-below_and (λ k. all (λ j. row k j) 64) (λ k. (j : ℕ) → j < 64 → Mask k j) (all (λ k. all (λ j. row k j) 64))
    (λ k. Decides-below_and (λ j. row k j) (λ j. Mask k j) (all (λ j. row k j)) (λ j. Decides-and _ _ (Decides-eqb _ _) (Decides-eqb _ _)) refl (λ _. refl) 64)
    refl (λ _. refl) 64).0 table k hk j hj

pub mask_same : (k : ℕ) → k < 64 → (bit (2 ^ k) k ≡ 1) × (bit (18446744073709551615 - 2 ^ k) k ≡ 0)
unfolding bit Mask
mask_same k h =
    let m = masks k k h h in
    let e = eq-eqb k k refl in
    (m.0 ∙ ap (λ (b : Bool). cond b 1 0) e, m.1 ∙ ap (λ (b : Bool). cond b 0 1) e)

pub mask_other : (k j : ℕ) → k < 64 → j < 64 → (j ≡ k → ⊥) → (bit (2 ^ k) j ≡ 0) × (bit (18446744073709551615 - 2 ^ k) j ≡ 1)
unfolding bit Mask
mask_other k j h l ne =
    let m = masks k j h l in
    let e = ne_eqb j k ne in
    (m.0 ∙ ap (λ (b : Bool). cond b 1 0) e, m.1 ∙ ap (λ (b : Bool). cond b 0 1) e)

-- a digit that is set lies within the word
pub bit_within : (w j k : ℕ) → w < 2 ^ k → bit w j ≡ 1 → j < k
unfolding bit
bit_within w j k h e = ⊎_elim (λ l. l) far (cases_lt j k)
  where
    far : k ≤ j → j < k
    far g =
        let z : w / 2 ^ j ≡ 0 = div-eq_of_lt (lt_of_lt_of_le h (pow_mono g)) in
        let y : w / 2 ^ j % 2 ≡ 0 = ap (λ (x : ℕ). x % 2) z in
        absurd (omega arith)

-- the lowest digit that is set
pub record Lowest (n t : ℕ) : Type 0 where
  pub set : bit n t ≡ 1
  pub clear : (j : ℕ) → j < t → bit n j ≡ 0

bit_low : (n : ℕ) → bit n 0 ≡ n % 2
unfolding bit
bit_low n = omega arith

step : (n t : ℕ) → Lowest (n / 2) t → n % 2 ≡ 0 → Lowest n (suc t)
step n t low e = record { set = ap (bit n) (omega arith) ∙ sym (bit_shr n 1 t) ∙ low.set; clear = λ j. here j }
  where
    here : (j : ℕ) → j < suc t → bit n j ≡ 0
    here zero h = bit_low n ∙ e
    here (suc j) h = ap (bit n) (omega arith) ∙ sym (bit_shr n 1 j) ∙ low.clear j (omega arith)

ways : (n t d : ℕ) → (n % 2 ≡ 0 → Lowest (n / 2) t) → n % 2 ≡ d → Lowest n (under d t)
ways n t zero half e = step n t (half e) e
ways n t (suc zero) half e = record { set = bit_low n ∙ e; clear = λ j h. absurd (omega arith) }
ways n t (suc (suc d)) half e = absurd (omega arith)

pub lowest : (k n : ℕ) → 0 < n → n < 2 ^ k → Lowest n (count_trailing_zeros k n)
unfolding count_trailing_zeros
lowest zero n h l = absurd (omega arith)
lowest (suc k) n h l =
    ways n (count_trailing_zeros k (n / 2)) (n % 2)
    (λ e. lowest k (n / 2) (omega arith) (shr_lt k 1 (subst (λ (x : ℕ). n < 2 ^ x) (omega arith) l))) refl
