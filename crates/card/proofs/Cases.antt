-- The small cases of a card's calls hold.
use Rattle.std.proofs.Common.{◌≡◌, ℕ, zero, suc, ◌-◌, ◌<◌, ◌≤◌, ◌⊎◌, [], ◌∷◌, get_or, refl, inl, inr, arith}
use Rattle.card.specs.Meaning.{Bytes}
use Rattle.card.specs.Calls.{Partly, Between}
use Rattle.card.specs.Examples.{Examples}

abbrev was : Bytes
was = 1 ∷ 2 ∷ []

abbrev left : Bytes
left = 1 ∷ 2 ∷ 9 ∷ []

torn : Partly was 1 (8 ∷ 9 ∷ []) left
torn = record { shortest = omega arith; longest = omega arith; each = each }
  where
    each : (k : ℕ) → k < 3 → (get_or left k 0 ≡ get_or was k 0) ⊎ ((1 ≤ k) × (k < 3) × (get_or left k 0 ≡ get_or (8 ∷ 9 ∷ []) (k - 1) 0))
    each zero lt = inl refl
    each (suc zero) lt = inl refl
    each (suc (suc zero)) lt = inr (omega arith, omega arith, refl)
    each (suc (suc (suc k))) lt = absurd (omega arith)

abbrev long : Bytes
long = 1 ∷ 2 ∷ 3 ∷ []

abbrev half : Bytes
half = 1 ∷ 0 ∷ 3 ∷ []

half_cut : Between long 1 half
half_cut = record { shortest = omega arith; longest = omega arith; front = front; tail = tail }
  where
    front : (k : ℕ) → k < 3 → k < 1 → get_or half k 0 ≡ get_or long k 0
    front zero lt below = refl
    front (suc k) lt below = absurd (omega arith)

    tail : (k : ℕ) → k < 3 → 1 ≤ k → (get_or half k 0 ≡ get_or long k 0) ⊎ (get_or half k 0 ≡ 0)
    tail zero lt le = absurd (omega arith)
    tail (suc zero) lt le = inr refl
    tail (suc (suc zero)) lt le = inl refl
    tail (suc (suc (suc k))) lt le = absurd (omega arith)

pub examples : Examples
examples =
    record {
      inside = refl;
      longer = refl;
      cut = refl;
      filled = refl;
      middle = refl;
      bad_name = refl;
      long_name = refl;
      absent = refl;
      present = refl;
      read_end = refl;
      read_past = refl;
      write_end = refl;
      write_past = refl;
      limit = refl;
      past_limit = refl;
      torn = torn;
      half_cut = half_cut;
      number = refl;
      bytes = refl;
    }
