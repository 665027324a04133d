-- The bytes of one slot: where its file lies, and what a write into the slot makes of it.
use Rattle.std.proofs.Common.{◌≡◌, ℕ, ◌+◌, ◌-◌, ◌*◌, ◌<◌, ◌≤◌, min, max, ◌++◌, length, get_or, take, drop, replicate, sym, ap, ◌∙◌, ap₂, arith, length-drop, length-take}
use native.Mathlib.Decide.{dec_lt}
use lib.ListN.{length-replicate}
use borrow.Rule.Slice.PartMut.{put_mid}
use Rattle.std.proofs.lemmas.List.{drop-drop, get_or-take, get_or-drop, get_or-replicate, ext_get_or}
use Rattle.card.specs.Meaning.{Bytes}
use Rattle.card.specs.Calls.{overwrite, part, resized}
use Rattle.card.proofs.Contents.{length_overwrite, overwrite_before, overwrite_inside, overwrite_after, length_resized, resized_front, resized_past}
use Rattle.card.specs.Numbers.{number_at}
use Rattle.image.specs.Layout.{content}

-- a part that is written is its bytes put over the whole
pub put_overwrite : (a k : ℕ) (xs ys zs : Bytes) → ys ≡ zs → k ≡ length zs → put_mid a k xs ys ≡ overwrite xs a zs
put_overwrite a k xs ys zs e n = ap₂ (λ (u v : Bytes). take a xs ++ (u ++ v)) e (drop-drop k a xs ∙ ap (λ (m : ℕ). drop (a + m) xs) n)

pub length_content : (s : Bytes) → length (content s) ≡ min (number_at s 33) (length s - 37)
unfolding content
length_content s = simp (length-take, length-drop)

-- the number that a slot has at 33, by the first four bytes from there on
pub number_first :
    (s bytes : Bytes) → bytes ≡ take 4 (drop 33 s) → get_or bytes 0 0 * 16777216 + get_or bytes 1 0 * 65536 + get_or bytes 2 0 * 256 + get_or bytes 3 0 ≡ number_at s 33
number_first s bytes e = omega (arith, at 0 (omega arith), at 1 (omega arith), at 2 (omega arith), at 3 (omega arith))
  where
    at : (i : ℕ) → i < 4 → get_or bytes i 0 ≡ get_or s (33 + i) 0
    at i lt = ap (λ (l : Bytes). get_or l i 0) e ∙ get_or-take 4 (drop 33 s) i 0 lt ∙ get_or-drop 33 s i 0

-- the file's bytes lie in the slot, past the head
pub content_within : (s : Bytes) → 37 ≤ length s → 37 + length (content s) ≤ length s
content_within s h = omega (arith, length_content s)

pub content_at : (s : Bytes) (k : ℕ) → k < length (content s) → get_or (content s) k 0 ≡ get_or s (37 + k) 0
unfolding content
content_at s k lt = get_or-take (number_at s 33) (drop 37 s) k 0 (omega (arith, length_content s)) ∙ get_or-drop 37 s k 0

-- a part of the file is a part of the slot
pub part_content : (s : Bytes) (place count : ℕ) → 37 ≤ length s → place + count ≤ length (content s) → part s (37 + place) count ≡ part (content s) place count
part_content s place count h fits = ext_get_or 0 _ _ same each
  where
    within : 37 + length (content s) ≤ length s
    within = content_within s h

    long : length (part s (37 + place) count) ≡ count
    long = simp (length-take, length-drop) (omega (arith, within))

    same : length (part s (37 + place) count) ≡ length (part (content s) place count)
    same = simp (length-take, length-drop) (omega (arith, within))

    each : (k : ℕ) → k < length (part s (37 + place) count) → get_or (part s (37 + place) count) k 0 ≡ get_or (part (content s) place count) k 0
    each k lt =
        let below : k < count = omega (arith, long) in
        get_or-take count (drop (37 + place) s) k 0 below ∙ get_or-drop (37 + place) s k 0
        ∙ ap (λ (i : ℕ). get_or s i 0) (omega arith)
        ∙ sym (content_at s (place + k) (omega arith))
        ∙ sym (get_or-take count (drop place (content s)) k 0 below ∙ get_or-drop place (content s) k 0)

-- bytes put over a list leave what stands before and after them
module _ (s : Bytes) (p : ℕ) (bytes : Bytes) (h : p + length bytes ≤ length s) where
  pub overwrite_length : length (overwrite s p bytes) ≡ length s
  overwrite_length = omega (arith, length_overwrite s p bytes (omega arith))

  pub overwrite_take : (n : ℕ) → n ≤ p → take n (overwrite s p bytes) ≡ take n s
  overwrite_take n le = ext_get_or 0 _ _ (simp length-take (omega (arith, overwrite_length))) each
    where
      each : (k : ℕ) → k < length (take n (overwrite s p bytes)) → get_or (take n (overwrite s p bytes)) k 0 ≡ get_or (take n s) k 0
      each k lt =
          let below : k < n = omega (arith, length-take n (overwrite s p bytes)) in
          get_or-take n (overwrite s p bytes) k 0 below ∙ overwrite_before s p bytes (omega arith) k (omega arith) ∙ sym (get_or-take n s k 0 below)

  pub overwrite_drop : (n : ℕ) → p + length bytes ≤ n → drop n (overwrite s p bytes) ≡ drop n s
  overwrite_drop n le = ext_get_or 0 _ _ (simp length-drop (omega (arith, overwrite_length))) each
    where
      each : (k : ℕ) → k < length (drop n (overwrite s p bytes)) → get_or (drop n (overwrite s p bytes)) k 0 ≡ get_or (drop n s) k 0
      each k lt = get_or-drop n (overwrite s p bytes) k 0 ∙ overwrite_after s p bytes (omega arith) (n + k) (omega arith) ∙ sym (get_or-drop n s k 0)

-- what a slot's file is, by its length and the bytes past the head
module _ (s s₁ s' : Bytes) (head : 37 ≤ length s) (same : length s₁ ≡ length s) (after : drop 37 s' ≡ drop 37 s₁) where
  rest_at : (k : ℕ) → get_or (drop 37 s') k 0 ≡ get_or s₁ (37 + k) 0
  rest_at k = ap (λ (l : Bytes). get_or l k 0) after ∙ get_or-drop 37 s₁ k 0

  -- a file whose bytes are told one by one
  pub content_from : (n : ℕ) (b : Bytes) → number_at s' 33 ≡ n → length b ≡ n → 37 + n ≤ length s → ((k : ℕ) → k < n → get_or s₁ (37 + k) 0 ≡ get_or b k 0) → content s' ≡ b
  unfolding content
  content_from n b number long fits each = ext_get_or 0 _ _ size at
    where
      rest : length (drop 37 s') ≡ length s - 37
      rest = ap length after ∙ length-drop 37 s₁ ∙ ap (λ (k : ℕ). k - 37) same

      size : length (take (number_at s' 33) (drop 37 s')) ≡ length b
      size = length-take (number_at s' 33) (drop 37 s') ∙ omega (arith, rest, number, long)

      at : (k : ℕ) → k < length (take (number_at s' 33) (drop 37 s')) → get_or (take (number_at s' 33) (drop 37 s')) k 0 ≡ get_or b k 0
      at k lt =
          let below : k < n = omega (arith, size, long) in
          get_or-take (number_at s' 33) (drop 37 s') k 0 (omega (arith, number)) ∙ rest_at k ∙ each k below

-- bytes put into the slot at a place of the file are put into the file
pub content_put :
    (s s' : Bytes) (place : ℕ) (bytes : Bytes) → 37 ≤ length s → place ≤ length (content s) → 37 + place + length bytes ≤ length s →
    drop 37 s' ≡ drop 37 (overwrite s (37 + place) bytes) → number_at s' 33 ≡ max (length (content s)) (place + length bytes) → content s' ≡ overwrite (content s) place bytes
content_put s s' place bytes head inside fits after number =
    content_from s s₁ s' head long after size (overwrite (content s) place bytes) number (length_overwrite (content s) place bytes inside) (omega (arith, within)) each
  where
    s₁ : Bytes
    s₁ = overwrite s (37 + place) bytes

    size : ℕ
    size = max (length (content s)) (place + length bytes)

    long : length s₁ ≡ length s
    long = overwrite_length s (37 + place) bytes fits

    within : 37 + length (content s) ≤ length s
    within = content_within s head

    each : (k : ℕ) → k < size → get_or s₁ (37 + k) 0 ≡ get_or (overwrite (content s) place bytes) k 0
    each k lt = where_k (dec_lt k place) (dec_lt k (place + length bytes))
      where
        where_k : Dec (k < place) → Dec (k < place + length bytes) → get_or s₁ (37 + k) 0 ≡ get_or (overwrite (content s) place bytes) k 0
        where_k (yes x) y =
            overwrite_before s (37 + place) bytes (omega arith) (37 + k) (omega arith) ∙ sym (content_at s k (omega arith)) ∙ sym (overwrite_before (content s) place bytes inside k x)
        where_k (no x) (yes y) =
            let e : 37 + k - (37 + place) ≡ k - place = omega arith in
            overwrite_inside s (37 + place) bytes (omega arith) (37 + k) (omega arith) (omega arith) ∙ ap (λ (i : ℕ). get_or bytes i 0) e
            ∙ sym (overwrite_inside (content s) place bytes inside k (omega arith) y)
        where_k (no x) (no y) =
            overwrite_after s (37 + place) bytes (omega arith) (37 + k) (omega arith) ∙ sym (content_at s k (omega arith)) ∙ sym (overwrite_after (content s) place bytes inside k (omega arith))

-- a file cut, or filled with zeros, by zeros put from what is kept of it up to its new length
pub content_resized :
    (s s' zeros : Bytes) (n kept : ℕ) → 37 + n ≤ length s → kept ≡ min (length (content s)) n → zeros ≡ replicate (n - kept) 0 →
    drop 37 s' ≡ drop 37 (overwrite s (37 + kept) zeros) → number_at s' 33 ≡ n → content s' ≡ resized (content s) n
content_resized s s' zeros n kept fits is zero after number =
    content_from s (overwrite s (37 + kept) zeros) s' (omega arith) (overwrite_length s (37 + kept) zeros room) after n (resized (content s) n) number (length_resized (content s) n) fits each
  where
    count : length zeros ≡ n - kept
    count = ap length zero ∙ length-replicate (n - kept) 0

    room : 37 + kept + length zeros ≤ length s
    room = omega (arith, count, fits, is)

    each : (k : ℕ) → k < n → get_or (overwrite s (37 + kept) zeros) (37 + k) 0 ≡ get_or (resized (content s) n) k 0
    each k lt = where_k (dec_lt k kept)
      where
        where_k : Dec (k < kept) → get_or (overwrite s (37 + kept) zeros) (37 + k) 0 ≡ get_or (resized (content s) n) k 0
        where_k (yes x) =
            overwrite_before s (37 + kept) zeros (omega (arith, room)) (37 + k) (omega arith) ∙ sym (content_at s k (omega arith)) ∙ sym (resized_front (content s) n k lt (omega arith))
        where_k (no x) =
            overwrite_inside s (37 + kept) zeros (omega (arith, room)) (37 + k) (omega arith) (omega (arith, count))
            ∙ ap (λ (l : Bytes). get_or l (37 + k - (37 + kept)) 0) zero ∙ get_or-replicate (n - kept) (37 + k - (37 + kept)) 0 0 (omega arith)
            ∙ sym (resized_past (content s) n k lt (omega arith))
