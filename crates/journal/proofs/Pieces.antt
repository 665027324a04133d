-- Parts of bytes, and bytes put together of their parts.
use Rattle.std.proofs.Common.{◌≡◌, ℕ, ◌+◌, ◌<◌, ◌≤◌, ◌++◌, length, get_or, take, drop, sym, ap, ◌∙◌, ap₂, append_assoc, arith, length-append, length-drop, length-take, take-add}
use native.Mathlib.Decide.{dec_lt}
use borrow.Rule.Slice.PartMut.{put_mid}
use Rattle.std.proofs.lemmas.List.{drop-drop, drop-take, take-take, take_all, take_at, drop_at, get_or-take, get_or-drop, get_or_past}
use Rattle.card.specs.Meaning.{Bytes}
use Rattle.card.specs.Calls.{part, overwrite}
use Rattle.journal.specs.Format.{Octets}

module _ (b : Bytes) where
  pub part_split : (i m n : ℕ) → part b i (m + n) ≡ part b i m ++ part b (i + m) n
  part_split i m n = take-add m n (drop i b) ∙ ap (λ (s : Bytes). take m (drop i b) ++ take n s) (drop-drop m i b)

  -- the same, where the places are told in other words
  pub part_cut : (i m n j s : ℕ) → s ≡ m + n → i + m ≡ j → part b i s ≡ part b i m ++ part b j n
  part_cut i m n j s e f = ap (part b i) e ∙ part_split i m n ∙ ap (λ (k : ℕ). part b i m ++ part b k n) f

  -- a part of a part
  pub part_part : (i j k n : ℕ) → n ≤ k → part (part b i (j + k)) j n ≡ part b (i + j) n
  part_part i j k n h = ap (take n) (drop-take j k (drop i b)) ∙ take-take n k (drop j (drop i b)) h ∙ ap (take n) (drop-drop j i b)

  pub part_end : (i n : ℕ) → length b ≤ i + n → part b i n ≡ drop i b
  part_end i n h = take_all n (drop i b) (omega (arith, length-drop i b))

  pub length_part : (i n : ℕ) → i + n ≤ length b → length (part b i n) ≡ n
  length_part i n h = simp (length-take, length-drop) (omega arith)

  pub octets_part : (i n : ℕ) → Octets b → Octets (part b i n)
  octets_part i n fit k = inside (dec_lt k n)
    where
      inside : Dec (k < n) → get_or (part b i n) k 0 < 256
      inside (yes lt) = omega (arith, get_or-take n (drop i b) k 0 lt, get_or-drop i b k 0, fit (i + k))
      inside (no ge) = omega (arith, get_or_past (part b i n) k 0 (omega (arith, length-take n (drop i b))))

  pub octets_drop : (i : ℕ) → Octets b → Octets (drop i b)
  octets_drop i fit k = omega (arith, get_or-drop i b k 0, fit (i + k))

-- a part that is written is its bytes put over the whole
pub put_overwrite : (a k : ℕ) (xs ys zs : Bytes) → ys ≡ zs → k ≡ length zs → put_mid a k xs ys ≡ overwrite xs a zs
put_overwrite a k xs ys zs e n = ap₂ (λ (u v : Bytes). take a xs ++ (u ++ v)) e (drop-drop k a xs ∙ ap (λ (m : ℕ). drop (a + m) xs) n)

-- bytes put right after others are put with them
pub overwrite_append :
    (s : Bytes) (p : ℕ) (x y : Bytes) (q : ℕ) → p + length x ≡ q → q ≤ length s → overwrite (overwrite s p x) q y ≡ overwrite s p (x ++ y)
overwrite_append s p x y q e h =
    ap₂ (λ (u v : Bytes). u ++ (y ++ v)) front back ∙ append_assoc (take p s) x (y ++ drop (p + length (x ++ y)) s)
    ∙ ap (λ (t : Bytes). take p s ++ t) (sym (append_assoc x y (drop (p + length (x ++ y)) s)))
  where
    whole : Bytes
    whole = take p s ++ (x ++ drop (p + length x) s)

    grouped : whole ≡ (take p s ++ x) ++ drop (p + length x) s
    grouped = sym (append_assoc (take p s) x (drop (p + length x) s))

    long : length (take p s ++ x) ≡ q
    long = length-append (take p s) x ∙ omega (arith, length-take p s, e)

    front : take q whole ≡ take p s ++ x
    front = ap (take q) grouped ∙ take_at (take p s ++ x) (drop (p + length x) s) q long

    back : drop (q + length y) whole ≡ drop (p + length (x ++ y)) s
    back =
        let sums : p + length x + length y ≡ p + length (x ++ y) = simp length-append (omega arith) in
        sym (drop-drop (length y) q whole)
        ∙ ap (drop (length y)) (ap (drop q) grouped ∙ drop_at (take p s ++ x) (drop (p + length x) s) q long)
        ∙ drop-drop (length y) (p + length x) s ∙ ap (λ (m : ℕ). drop m s) sums
