-- What may remain of a write of a journal, or of its count: a write that changes one byte is done or not done.
use Rattle.std.proofs.Common.{◌≡◌, ℕ, zero, suc, ◌+◌, ◌-◌, ◌<◌, ◌≤◌, ◌⊎◌, [], length, get_or, sym, refl, ap, ◌∙◌, subst, inl, inr, ⊎_elim, arith}
use native.Mathlib.Decide.{dec_lt, ℕ_discrete}
use Rattle.std.proofs.lemmas.List.{ext_get_or, get_or_past}
use Rattle.card.specs.Meaning.{Bytes}
use Rattle.card.specs.Calls.{overwrite, Partly}
use Rattle.card.specs.Numbers.{number_bytes}
use Rattle.card.proofs.Contents.{length_overwrite, overwrite_before, overwrite_inside, overwrite_after}
use Rattle.journal.specs.Format.{Journal, encode, header}
use Rattle.journal.specs.Laws.{Quiet}

module _ (old : Bytes) (p : ℕ) (bytes : Bytes) (b : Bytes) (partly : Partly old p bytes b) (fits : p + length bytes ≤ length old) where
  abbrev new : Bytes
  new = overwrite old p bytes

  as_long : length b ≡ length old
  as_long = omega (arith, partly.shortest, partly.longest)

  new_long : length new ≡ length old
  new_long = omega (arith, length_overwrite old p bytes (omega arith))

  -- each byte is the old or the new one
  either : (k : ℕ) → k < length b → (get_or b k 0 ≡ get_or old k 0) ⊎ (get_or b k 0 ≡ get_or new k 0)
  either k lt = ⊎_elim inl (λ e. inr (e.2 ∙ sym (overwrite_inside old p bytes (omega arith) k e.0 e.1))) (partly.each k lt)

  module _ (q : ℕ) (at : q < length bytes) (same : (i : ℕ) → i < length bytes → (i ≡ q → ⊥) → get_or bytes i 0 ≡ get_or old (p + i) 0) where
    agree : (k : ℕ) → (k ≡ p + q → ⊥) → get_or new k 0 ≡ get_or old k 0
    agree k ne = where_k (dec_lt k p) (dec_lt k (p + length bytes))
      where
        where_k : Dec (k < p) → Dec (k < p + length bytes) → get_or new k 0 ≡ get_or old k 0
        where_k (yes x) y = overwrite_before old p bytes (omega arith) k x
        where_k (no x) (yes y) =
            let back : p + (k - p) ≡ k = omega arith in
            overwrite_inside old p bytes (omega arith) k (omega arith) y ∙ same (k - p) (omega arith) (λ e. ne (omega arith)) ∙ ap (λ (i : ℕ). get_or old i 0) back
        where_k (no x) (no y) = overwrite_after old p bytes (omega arith) k (omega arith)

    -- bytes that differ from the old in that place at most, and have b's byte there
    whole : (c : Bytes) → length c ≡ length old → ((k : ℕ) → (k ≡ p + q → ⊥) → get_or c k 0 ≡ get_or old k 0) → get_or b (p + q) 0 ≡ get_or c (p + q) 0 → b ≡ c
    whole c long elsewhere here = ext_get_or 0 b c (as_long ∙ sym long) each
      where
        each : (k : ℕ) → k < length b → get_or b k 0 ≡ get_or c k 0
        each k lt = by (ℕ_discrete k (p + q))
          where
            by : Dec (k ≡ p + q) → get_or b k 0 ≡ get_or c k 0
            by (yes e) = subst (λ (i : ℕ). get_or b i 0 ≡ get_or c i 0) (sym e) here
            by (no ne) = ⊎_elim (λ e. e ∙ sym (elsewhere k ne)) (λ e. e ∙ agree k ne ∙ sym (elsewhere k ne)) (either k lt)

    pub partly_one : (b ≡ old) ⊎ (b ≡ new)
    partly_one = ⊎_elim (λ e. inl (whole old refl (λ k ne. refl) e)) (λ e. inr (whole new new_long agree e)) (either (p + q) (omega (arith, as_long)))

long_encode : (n : ℕ) (j : Journal) → 12 ≤ length (encode n j)
unfolding encode header
long_encode n j = omega arith

-- the count written over a journal with count 0
pub counted : (n : ℕ) (j : Journal) → overwrite (encode 0 j) 8 (number_bytes n) ≡ encode n j
unfolding encode header
counted n j = refl

pub torn_count : (j : Journal) (n : ℕ) (b : Bytes) → n ≤ 33 → Partly (encode 0 j) 8 (number_bytes n) b → (b ≡ encode 0 j) ⊎ (b ≡ encode n j)
unfolding encode header
torn_count j n b small partly = ⊎_elim inl (λ e. inr (e ∙ counted n j)) (partly_one (encode 0 j) 8 (number_bytes n) b partly (long_encode 0 j) 3 (omega arith) same)
  where
    same : (i : ℕ) → i < 4 → (i ≡ 3 → ⊥) → get_or (number_bytes n) i 0 ≡ get_or (encode 0 j) (8 + i) 0
    same zero lt ne = omega arith
    same (suc zero) lt ne = omega arith
    same (suc (suc zero)) lt ne = omega arith
    same (suc (suc (suc zero))) lt ne = absurd (ne refl)
    same (suc (suc (suc (suc i)))) lt ne = absurd (omega arith)

-- what remains of a journal with count 0 written to an empty file has no count
pub unfinished : (j : Journal) (b : Bytes) → Partly [] 0 (encode 0 j) b → Quiet b
unfolding encode header
unfinished j b partly = record { at_8 = at 8 refl; at_9 = at 9 refl; at_10 = at 10 refl; at_11 = at 11 refl }
  where
    at : (k : ℕ) → get_or (encode 0 j) (k - 0) 0 ≡ 0 → get_or b k 0 ≡ 0
    at k z = inside (dec_lt k (length b))
      where
        inside : Dec (k < length b) → get_or b k 0 ≡ 0
        inside (no x) = get_or_past b k 0 (omega arith)
        inside (yes x) = ⊎_elim (λ e. e) (λ e. e.2 ∙ z) (partly.each k x)
