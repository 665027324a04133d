-- Two contents mixed: how long the mix is, its bytes, and a slot that was given it.
use Rattle.std.proofs.Common.{◌≡◌, ℕ, ◌+◌, ◌-◌, ◌%◌, ◌<◌, ◌≤◌, max, Bool, true, false, cond, eqb, length, get_or, take, drop, sym, refl, ap, ◌∙◌, ap₂, arith, length-drop}
use native.Mathlib.Decide.{dec_lt}
use Rattle.std.proofs.lemmas.List.FromFn.{length-map-range_with_len, get_or-map-range_with_len}
use Rattle.std.proofs.lemmas.List.{ext_get_or, get_or_past, get_or-drop, drop-drop, take_min}
use Rattle.card.specs.Meaning.{Bytes}
use Rattle.card.specs.Calls.{overwrite, resized}
use Rattle.card.specs.Numbers.{number_at}
use Rattle.card.proofs.Contents.{overwrite_before, overwrite_inside, resized_front, resized_past}
use borrow.Rule.Slice.PartMut.{put_mid}
use Rattle.image.specs.Layout.{content}
use Rattle.halves.specs.Halves.{mixed, MixedBelow}
use Rattle.image.proofs.Bytes.{content_at, length_content, put_overwrite, overwrite_length, overwrite_take}

pub length_mixed : (a s : Bytes) → length (mixed a s) ≡ max (length a) (length s)
unfolding mixed
length_mixed a s = length-map-range_with_len (λ (k : ℕ). cond (eqb (k % 2) 0) (get_or a k 0) (get_or s k 0)) 0 (max (length a) (length s))

cond_same : (b : Bool) (x : ℕ) → x ≡ cond b x x
cond_same true x = refl
cond_same false x = refl

getD_inside : (a s : Bytes) (k : ℕ) → k < max (length a) (length s) → get_or (mixed a s) k 0 ≡ cond (eqb (k % 2) 0) (get_or a k 0) (get_or s k 0)
unfolding mixed
getD_inside a s k lt = get_or-map-range_with_len (λ (i : ℕ). cond (eqb (i % 2) 0) (get_or a i 0) (get_or s i 0)) 0 (max (length a) (length s)) k k 0 lt (omega arith)

-- past the end both contents have none, so zero
pub getD_mixed : (a s : Bytes) (k : ℕ) → get_or (mixed a s) k 0 ≡ cond (eqb (k % 2) 0) (get_or a k 0) (get_or s k 0)
getD_mixed a s k = by (dec_lt k (max (length a) (length s)))
  where
    by : Dec (k < max (length a) (length s)) → get_or (mixed a s) k 0 ≡ cond (eqb (k % 2) 0) (get_or a k 0) (get_or s k 0)
    by (yes lt) = getD_inside a s k lt
    by (no past) =
        get_or_past (mixed a s) k 0 (omega (arith, length_mixed a s))
        ∙ cond_same (eqb (k % 2) 0) 0
        ∙ ap₂ (λ (x y : ℕ). cond (eqb (k % 2) 0) x y) (sym (get_or_past a k 0 (omega arith))) (sym (get_or_past s k 0 (omega arith)))

pub mixed_same : (a : Bytes) → mixed a a ≡ a
mixed_same a = ext_get_or 0 _ _ (length_mixed a a ∙ omega arith) (λ k lt. getD_mixed a a k ∙ sym (cond_same (eqb (k % 2) 0) (get_or a k 0)))

module _ (current synced : Bytes) where
  -- a file at the longer length, with all its bytes mixed
  pub mixed_all :
      (old file : Bytes) → current ≡ resized old (max (length old) (length synced)) → MixedBelow current synced (max (length old) (length synced)) file → length file ≡ max (length old) (length synced) →
      file ≡ mixed old synced
  mixed_all old file is mix long = ext_get_or 0 _ _ (long ∙ sym (length_mixed old synced)) each
    where
      size : ℕ
      size = max (length old) (length synced)

      was : (k : ℕ) → k < size → get_or current k 0 ≡ get_or old k 0
      was k lt = ap (λ (l : Bytes). get_or l k 0) is ∙ by (dec_lt k (length old))
        where
          by : Dec (k < length old) → get_or (resized old size) k 0 ≡ get_or old k 0
          by (yes inside) = resized_front old size k lt inside
          by (no past) = resized_past old size k lt (omega arith) ∙ sym (get_or_past old k 0 (omega arith))

      each : (k : ℕ) → k < length file → get_or file k 0 ≡ get_or (mixed old synced) k 0
      each k lt = mix.bytes k (omega arith) ∙ ap (λ (x : ℕ). cond (eqb (k % 2) 0) x (get_or synced k 0)) (was k (omega arith)) ∙ sym (getD_mixed old synced k)

-- the first bytes past the head are the file, and bytes put there are
module _ (slot : Bytes) (n : ℕ) (long : length (content slot) ≡ n) (fits : 37 + n ≤ length slot) where
  pub file_bytes : take (37 + n - 37) (drop 37 slot) ≡ content slot
  unfolding content
  file_bytes = ap (λ (k : ℕ). take k (drop 37 slot)) (omega (arith, long, length_content slot, length-drop {A = ℕ} 37 slot)) ∙ take_min (number_at slot 33) (drop 37 slot)

  module _ (items : Bytes) (same : length items ≡ n) where
    put : put_mid 37 (37 + n - 37) slot items ≡ overwrite slot 37 items
    put = put_overwrite 37 (37 + n - 37) slot items items refl (omega (arith, same))

    inside : 37 + length items ≤ length slot
    inside = omega (arith, same)

    pub put_content : content (put_mid 37 (37 + n - 37) slot items) ≡ items
    put_content = ap content put ∙ ext_get_or 0 _ _ (size ∙ sym same) each
      where
        number : number_at (overwrite slot 37 items) 33 ≡ number_at slot 33
        number =
            let at : (i : ℕ) → i < 37 → get_or (overwrite slot 37 items) i 0 ≡ get_or slot i 0 = λ i lt. overwrite_before slot 37 items (omega (arith, inside)) i lt in
            omega (arith, at 33 (omega arith), at 34 (omega arith), at 35 (omega arith), at 36 (omega arith))

        size : length (content (overwrite slot 37 items)) ≡ n
        size = omega (arith, length_content (overwrite slot 37 items), length_content slot, overwrite_length slot 37 items inside, number, long)

        each : (k : ℕ) → k < length (content (overwrite slot 37 items)) → get_or (content (overwrite slot 37 items)) k 0 ≡ get_or items k 0
        each k lt = content_at (overwrite slot 37 items) k lt ∙ overwrite_inside slot 37 items (omega (arith, inside)) (37 + k) (omega arith) (omega (arith, size, same)) ∙ ap (λ (i : ℕ). get_or items i 0) (omega arith)

    pub put_name : take 33 (put_mid 37 (37 + n - 37) slot items) ≡ take 33 slot
    put_name = ap (take 33) put ∙ overwrite_take slot 37 items inside 33 (omega arith)

-- the file is told by the bytes from its length on
pub content_after : (s t : Bytes) → drop 33 s ≡ drop 33 t → content s ≡ content t
unfolding content
content_after s t e = ap₂ (λ (n : ℕ) (rest : Bytes). take n rest) number rest
  where
    at : (i : ℕ) → get_or s (33 + i) 0 ≡ get_or t (33 + i) 0
    at i = sym (get_or-drop 33 s i 0) ∙ ap (λ (l : Bytes). get_or l i 0) e ∙ get_or-drop 33 t i 0

    number : number_at s 33 ≡ number_at t 33
    number = omega (arith, at 0, at 1, at 2, at 3)

    rest : drop 37 s ≡ drop 37 t
    rest = sym (drop-drop 4 33 s) ∙ ap (drop 4) e ∙ drop-drop 4 33 t
