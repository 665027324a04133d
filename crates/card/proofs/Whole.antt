-- What a lawful call's whole work leaves is among what may remain after it.
use Rattle.std.proofs.Common.{◌≡◌, ℕ, ◌+◌, ◌-◌, ◌<◌, ◌≤◌, ◌⊎◌, length, get_or, Some, None, Option, sym, ◌∙◌, subst, inl, inr, arith}
use native.Mathlib.Decide.{dec_lt}
use Rattle.std.proofs.lemmas.List.{get_or_past}
use Rattle.card.specs.Meaning.{Bytes, Name}
use Rattle.card.specs.Calls.{Op, length_of, read, create, write, set_length, sync, delete, Could, Partly, Between, overwrite, resized, tested, worked}
use Rattle.card.proofs.Contents.{length_overwrite, overwrite_before, overwrite_inside, overwrite_after, length_resized, resized_front, resized_past}
use Rattle.card.proofs.Every.{some_none}
use Rattle.card.proofs.Tested.{lawful_write}

pub overwrite_partly : (old : Bytes) (p : ℕ) (bytes : Bytes) → p ≤ length old → Partly old p bytes (overwrite old p bytes)
overwrite_partly old p bytes h = record { shortest = omega (arith, length_overwrite old p bytes h); longest = omega (arith, length_overwrite old p bytes h); each = each }
  where
    each : (k : ℕ) → k < length (overwrite old p bytes) → (get_or (overwrite old p bytes) k 0 ≡ get_or old k 0) ⊎ ((p ≤ k) × (k < p + length bytes) × (get_or (overwrite old p bytes) k 0 ≡ get_or bytes (k - p) 0))
    each k lt = where_k (dec_lt k p) (dec_lt k (p + length bytes))
      where
        where_k : Dec (k < p) → Dec (k < p + length bytes) → (get_or (overwrite old p bytes) k 0 ≡ get_or old k 0) ⊎ ((p ≤ k) × (k < p + length bytes) × (get_or (overwrite old p bytes) k 0 ≡ get_or bytes (k - p) 0))
        where_k (yes x) y = inl (overwrite_before old p bytes h k x)
        where_k (no x) (yes y) = inr (omega arith, y, overwrite_inside old p bytes h k (omega arith) y)
        where_k (no x) (no y) = inl (overwrite_after old p bytes h k (omega arith))

pub resized_between : (old : Bytes) (n : ℕ) → Between old n (resized old n)
resized_between old n =
    record { shortest = omega (arith, length_resized old n); longest = omega (arith, length_resized old n); front = front; tail = λ k lt le. absurd (omega (arith, length_resized old n)) }
  where
    front : (k : ℕ) → k < length (resized old n) → k < n → get_or (resized old n) k 0 ≡ get_or old k 0
    front k lt below = where_k (dec_lt k (length old))
      where
        where_k : Dec (k < length old) → get_or (resized old n) k 0 ≡ get_or old k 0
        where_k (yes x) = resized_front old n k below x
        where_k (no x) = resized_past old n k below (omega arith) ∙ sym (get_or_past old k 0 (omega arith))

-- the file's content after the work could remain, where its content before it could
pub worked_could :
    (op : Op) (n : Name) (could : Option Bytes → Type 0) (f : Option Bytes) (b : Bytes) → tested op n f ≡ None → could f → worked op f ≡ Some b → Could op could f (Some b)
worked_could length_of n could f b t c w = subst could w c
worked_could (read p k) n could f b t c w = subst could w c
worked_could create n could f b t c w = sym w
worked_could (write p bytes) n could None b t c w = absurd (some_none (sym w))
worked_could (write p bytes) n could (Some a) b t c w = (a, overwrite a p bytes, sym w, c, overwrite_partly a p bytes (lawful_write p bytes n a t).0)
worked_could (set_length k) n could None b t c w = absurd (some_none (sym w))
worked_could (set_length k) n could (Some a) b t c w = (a, resized a k, sym w, c, resized_between a k)
worked_could sync n could f b t c w = sym w
worked_could delete n could f b t c w = absurd (some_none (sym w))
