-- What may remain on a delayed card after a call is within what any card may let remain.
use Rattle.std.proofs.Common.{◌≡◌, ℕ, ◌+◌, ◌-◌, ◌%◌, ◌<◌, ◌≤◌, Bool, true, false, cond, eqb, ◌⊎◌, length, get_or, Some, None, Option, sym, refl, ap, ◌∙◌, subst, ap₂, inl, inr, ⊎_elim, arith}
use native.Mathlib.Decide.{dec_lt}
use Rattle.std.proofs.lemmas.List.{get_or_past}
use Rattle.std.proofs.lemmas.Bool.{cases_Bool}
use Rattle.card.specs.Meaning.{Bytes, Name}
use Rattle.card.specs.Calls.{Op, length_of, read, create, write, set_length, sync, delete, Could, Partly, Between, overwrite, resized, tested, worked, name_ok}
use Rattle.card.proofs.Contents.{length_overwrite, overwrite_before, overwrite_inside, overwrite_after, length_resized, resized_front, resized_past}
use Rattle.card.proofs.Every.{some_none, not_lawful_absent}
use Rattle.card.proofs.Tested.{lawful_write}
use Rattle.card.proofs.Whole.{overwrite_partly, resized_between}
use Rattle.image.specs.Layout.{held}
use Rattle.halves.specs.Halves.{mixed, backed, PairDone}
use Rattle.halves.proofs.Mixing.{length_mixed, getD_mixed, mixed_same}
use Rattle.delayed_card.specs.Delayed.{MayRemain, bytes_or_none}

-- nothing of a write, or of a new length, put into a content
partly_none : (old : Bytes) (p : ℕ) (bytes : Bytes) → Partly old p bytes old
partly_none old p bytes = record { shortest = omega arith; longest = omega arith; each = λ k lt. inl refl }

between_none : (old : Bytes) (n : ℕ) → Between old n old
between_none old n = record { shortest = omega arith; longest = omega arith; front = λ k lt below. refl; tail = λ k lt le. inl refl }

-- a mix takes a byte from the current content or leaves it
mix_cases : (a b s : Bytes) (k : ℕ) → (get_or (mixed b s) k 0 ≡ get_or (mixed a s) k 0) ⊎ (get_or (mixed b s) k 0 ≡ get_or b k 0)
mix_cases a b s k = by (cases_Bool (eqb (k % 2) 0))
  where
    by : (eqb (k % 2) 0 ≡ true) ⊎ (eqb (k % 2) 0 ≡ false) → (get_or (mixed b s) k 0 ≡ get_or (mixed a s) k 0) ⊎ (get_or (mixed b s) k 0 ≡ get_or b k 0)
    by (inl e) = inr (getD_mixed b s k ∙ ap (λ (t : Bool). cond t (get_or b k 0) (get_or s k 0)) e)
    by (inr e) =
        inl (getD_mixed b s k ∙ ap (λ (t : Bool). cond t (get_or b k 0) (get_or s k 0)) e ∙ sym (getD_mixed a s k ∙ ap (λ (t : Bool). cond t (get_or a k 0) (get_or s k 0)) e))

-- where two contents have one byte, so have their mixes
mix_like : (a b s : Bytes) (k : ℕ) → get_or b k 0 ≡ get_or a k 0 → get_or (mixed b s) k 0 ≡ get_or (mixed a s) k 0
mix_like a b s k e = getD_mixed b s k ∙ ap (λ (x : ℕ). cond (eqb (k % 2) 0) x (get_or s k 0)) e ∙ sym (getD_mixed a s k)

partly_mixed : (a s : Bytes) (p : ℕ) (bytes : Bytes) → p ≤ length a → Partly (mixed a s) p bytes (mixed (overwrite a p bytes) s)
partly_mixed a s p bytes h =
    record {
      shortest = omega (arith, length_mixed a s, length_mixed (overwrite a p bytes) s, length_overwrite a p bytes h);
      longest = omega (arith, length_mixed a s, length_mixed (overwrite a p bytes) s, length_overwrite a p bytes h);
      each = λ k lt. each k (dec_lt k p) (dec_lt k (p + length bytes));
    }
  where
    each :
        (k : ℕ) → Dec (k < p) → Dec (k < p + length bytes) →
        (get_or (mixed (overwrite a p bytes) s) k 0 ≡ get_or (mixed a s) k 0) ⊎ ((p ≤ k) × (k < p + length bytes) × (get_or (mixed (overwrite a p bytes) s) k 0 ≡ get_or bytes (k - p) 0))
    each k (yes x) y = inl (mix_like a (overwrite a p bytes) s k (overwrite_before a p bytes h k x))
    each k (no x) (no y) = inl (mix_like a (overwrite a p bytes) s k (overwrite_after a p bytes h k (omega arith)))
    each k (no x) (yes y) =
        ⊎_elim inl (λ e. inr (omega arith, y, e ∙ overwrite_inside a p bytes h k (omega arith) y)) (mix_cases a (overwrite a p bytes) s k)

between_mixed : (a s : Bytes) (n : ℕ) → Between (mixed a s) n (mixed (resized a n) s)
between_mixed a s n =
    record {
      shortest = omega (arith, length_mixed a s, length_mixed (resized a n) s, length_resized a n);
      longest = omega (arith, length_mixed a s, length_mixed (resized a n) s, length_resized a n);
      front = λ k lt below. mix_like a (resized a n) s k (same k below (dec_lt k (length a)));
      tail = λ k lt le. ⊎_elim inl (λ e. inr (e ∙ get_or_past (resized a n) k 0 (omega (arith, length_resized a n)))) (mix_cases a (resized a n) s k);
    }
  where
    same : (k : ℕ) → k < n → Dec (k < length a) → get_or (resized a n) k 0 ≡ get_or a k 0
    same k below (yes x) = resized_front a n k below x
    same k below (no x) = resized_past a n k below (omega arith) ∙ sym (get_or_past a k 0 (omega arith))

-- what may be of a file: absent, or one of the three contents
abbrev pub MayBe : Bytes → Bytes → Name → Option Bytes → Type 0
MayBe current synced n None = held current n ≡ None
MayBe current synced n (Some b) = MayRemain current synced n b

some_same : {a b : Bytes} → ◌≡◌ {A = Option Bytes} (Some a) (Some b) → a ≡ b
some_same {a} {b} e = cc

-- where both halves have the same of a file, nothing else may remain
pub only_one : (current synced : Bytes) (n : Name) (b : Bytes) → backed current synced n ≡ held current n → MayRemain current synced n b → held current n ≡ Some b
only_one current synced n b same (a, is, may) = is ∙ ap Some (sym (by may))
  where
    s : bytes_or_none (backed current synced n) ≡ a
    s = ap bytes_or_none (same ∙ is)

    by : (b ≡ a) ⊎ ((b ≡ bytes_or_none (backed current synced n)) ⊎ (b ≡ mixed a (bytes_or_none (backed current synced n)))) → b ≡ a
    by (inl e) = e
    by (inr (inl e)) = e ∙ s
    by (inr (inr e)) = e ∙ ap (mixed a) s ∙ mixed_same a

-- the same halves of a file let the same remain
pub may_alike :
    (current synced current' synced' : Bytes) (n : Name) → held current' n ≡ held current n → backed current' synced' n ≡ backed current synced n → (b : Bytes) → MayRemain current' synced' n b → MayRemain current synced n b
may_alike current synced current' synced' n same backs b (a, is, may) =
    (a, sym same ∙ is, subst (λ (o : Option Bytes). (b ≡ a) ⊎ ((b ≡ bytes_or_none o) ⊎ (b ≡ mixed a (bytes_or_none o)))) backs may)

-- what may remain after a lawful call's work
module _ (n : Name) (current synced current' synced' : Bytes) where
  write_could :
      (p : ℕ) (bytes a : Bytes) → held current n ≡ Some a → p ≤ length a → PairDone (write p bytes) n current synced current' synced' → (b : Bytes) → MayRemain current' synced' n b →
      Could (write p bytes) (MayBe current synced n) (Some a) (Some b)
  write_could p bytes a was inside pair b (a', is, may) = by may
    where
      new : a' ≡ overwrite a p bytes
      new = some_same (sym is ∙ pair.done.own ∙ ap (worked (write p bytes)) was)

      s : Bytes
      s = bytes_or_none (backed current synced n)

      kept : bytes_or_none (backed current' synced' n) ≡ s
      kept = ap bytes_or_none pair.own

      by : (b ≡ a') ⊎ ((b ≡ bytes_or_none (backed current' synced' n)) ⊎ (b ≡ mixed a' (bytes_or_none (backed current' synced' n)))) → Could (write p bytes) (MayBe current synced n) (Some a) (Some b)
      by (inl e) = (a, b, refl, (a, was, inl refl), subst (Partly a p bytes) (sym (e ∙ new)) (overwrite_partly a p bytes inside))
      by (inr (inl e)) = (s, b, refl, (a, was, inr (inl refl)), subst (Partly s p bytes) (sym (e ∙ kept)) (partly_none s p bytes))
      by (inr (inr e)) = (mixed a s, b, refl, (a, was, inr (inr refl)), subst (Partly (mixed a s) p bytes) (sym (e ∙ ap₂ mixed new kept)) (partly_mixed a s p bytes inside))

  length_could :
      (k : ℕ) (a : Bytes) → held current n ≡ Some a → PairDone (set_length k) n current synced current' synced' → (b : Bytes) → MayRemain current' synced' n b →
      Could (set_length k) (MayBe current synced n) (Some a) (Some b)
  length_could k a was pair b (a', is, may) = by may
    where
      new : a' ≡ resized a k
      new = some_same (sym is ∙ pair.done.own ∙ ap (worked (set_length k)) was)

      s : Bytes
      s = bytes_or_none (backed current synced n)

      kept : bytes_or_none (backed current' synced' n) ≡ s
      kept = ap bytes_or_none pair.own

      by : (b ≡ a') ⊎ ((b ≡ bytes_or_none (backed current' synced' n)) ⊎ (b ≡ mixed a' (bytes_or_none (backed current' synced' n)))) → Could (set_length k) (MayBe current synced n) (Some a) (Some b)
      by (inl e) = (a, b, refl, (a, was, inl refl), subst (Between a k) (sym (e ∙ new)) (resized_between a k))
      by (inr (inl e)) = (s, b, refl, (a, was, inr (inl refl)), subst (Between s k) (sym (e ∙ kept)) (between_none s k))
      by (inr (inr e)) = (mixed a s, b, refl, (a, was, inr (inr refl)), subst (Between (mixed a s) k) (sym (e ∙ ap₂ mixed new kept)) (between_mixed a s k))

  pub pair_could :
      (op : Op) (f : Option Bytes) → held current n ≡ f → tested op n f ≡ None → PairDone op n current synced current' synced' → (b : Bytes) → MayRemain current' synced' n b → Could op (MayBe current synced n) f (Some b)
  pair_could length_of f is t pair b may = may_alike current synced current' synced' n pair.done.own pair.own b may
  pair_could (read p k) f is t pair b may = may_alike current synced current' synced' n pair.done.own pair.own b may
  pair_could create f is t pair b may = sym (sym pair.done.own ∙ only_one current' synced' n b (pair.own ∙ sym pair.done.own) may)
  pair_could (write p bytes) None is t pair b may = absurd (not_lawful_absent (name_ok n) t)
  pair_could (write p bytes) (Some a) is t pair b may = write_could p bytes a is (lawful_write p bytes n a t).0 pair b may
  pair_could (set_length k) None is t pair b may = absurd (not_lawful_absent (name_ok n) t)
  pair_could (set_length k) (Some a) is t pair b may = length_could k a is pair b may
  pair_could sync f is t pair b may = sym (sym (pair.done.own ∙ is) ∙ only_one current' synced' n b (pair.own ∙ sym pair.done.own) may)
  pair_could delete f is t pair b may = absurd (absent_own pair b may)
    where
      absent_own : PairDone delete n current synced current' synced' → (x : Bytes) → MayRemain current' synced' n x → ⊥
      absent_own done x (a, is-a, m) = some_none (sym is-a ∙ done.done.own)
