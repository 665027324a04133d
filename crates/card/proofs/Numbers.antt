-- A number of four bytes, written and read back.
use Rattle.std.proofs.Common.{◌≡◌, ℕ, ◌+◌, ◌-◌, ◌/◌, ◌^◌, ◌<◌, ◌≤◌, length, get_or, ap, ◌∙◌, div-add-mod', arith}
use native.Mathlib.Nat.{div-div-eq-div-mul, div-eq_of_lt}
use Rattle.card.specs.Meaning.{Bytes}
use Rattle.card.specs.Calls.{overwrite}
use Rattle.card.specs.Numbers.{number_at, number_bytes}
use Rattle.card.proofs.Contents.{overwrite_inside}

pub number_of_bytes : (n : ℕ) → n < 2 ^ 32 → number_at (number_bytes n) 0 ≡ n
number_of_bytes n h =
    omega (
      arith,
      div-add-mod' n 256,
      div-add-mod' (n / 256) 256,
      div-add-mod' (n / 65536) 256,
      div-add-mod' (n / 16777216) 256,
      div-div-eq-div-mul n 256 256,
      div-div-eq-div-mul n 65536 256,
      div-div-eq-div-mul n 16777216 256,
      top,
    )
  where
    top : n / 4294967296 ≡ 0
    top = div-eq_of_lt h

-- the number at the place at which it was put
pub number_put : (s : Bytes) (place n : ℕ) → place ≤ length s → n < 2 ^ 32 → number_at (overwrite s place (number_bytes n)) place ≡ n
number_put s place n h small =
    let zero_in : place ≡ place + 0 = omega arith in
    let front : get_or (overwrite s place (number_bytes n)) place 0 ≡ get_or (number_bytes n) 0 0 = ap (λ (k : ℕ). get_or (overwrite s place (number_bytes n)) k 0) zero_in ∙ at 0 (omega arith) in
    omega (arith, front, at 1 (omega arith), at 2 (omega arith), at 3 (omega arith), number_of_bytes n small)
  where
    at : (i : ℕ) → i < 4 → get_or (overwrite s place (number_bytes n)) (place + i) 0 ≡ get_or (number_bytes n) i 0
    at i lt =
        let e : place + i - place ≡ i = omega arith in
        overwrite_inside s place (number_bytes n) h (place + i) (omega arith) (omega arith) ∙ ap (λ (k : ℕ). get_or (number_bytes n) k 0) e
