-- Contents written over, and cut or filled to a length: how long they are, and their bytes.
use Rattle.std.proofs.Common.{◌≡◌, ℕ, ◌+◌, ◌-◌, ◌<◌, ◌≤◌, max, ◌++◌, length, get_or, take, drop, replicate, refl, ap, ◌∙◌, arith, length-append, length-drop, length-take}
use lib.ListN.{length-replicate}
use Rattle.std.proofs.lemmas.List.{get_or_append_left, get_or-append_right, get_or-take, get_or-drop, get_or-replicate, length-take-le}
use Rattle.card.specs.Meaning.{Bytes}
use Rattle.card.specs.Calls.{overwrite, resized}

module _ (old : Bytes) (p : ℕ) (bytes : Bytes) (h : p ≤ length old) where
  pub length_overwrite : length (overwrite old p bytes) ≡ max (length old) (p + length bytes)
  length_overwrite = simp (length-append, length-take, length-drop) (omega arith)

  pub overwrite_before : (k : ℕ) → k < p → get_or (overwrite old p bytes) k 0 ≡ get_or old k 0
  overwrite_before k lt =
      get_or_append_left (take p old) (bytes ++ drop (p + length bytes) old) 0 k (omega (arith, length-take-le p old h)) ∙ get_or-take p old k 0 lt

  pub overwrite_inside : (k : ℕ) → p ≤ k → k < p + length bytes → get_or (overwrite old p bytes) k 0 ≡ get_or bytes (k - p) 0
  overwrite_inside k le lt =
      get_or-append_right (take p old) (bytes ++ drop (p + length bytes) old) p k 0 (length-take-le p old h) le
      ∙ get_or_append_left bytes (drop (p + length bytes) old) 0 (k - p) (omega arith)

  pub overwrite_after : (k : ℕ) → p + length bytes ≤ k → get_or (overwrite old p bytes) k 0 ≡ get_or old k 0
  overwrite_after k le =
      get_or-append_right (take p old) (bytes ++ drop (p + length bytes) old) p k 0 (length-take-le p old h) (omega arith)
      ∙ get_or-append_right bytes (drop (p + length bytes) old) (length bytes) (k - p) 0 refl (omega arith)
      ∙ get_or-drop (p + length bytes) old (k - p - length bytes) 0
      ∙ ap (λ (i : ℕ). get_or old i 0) (omega arith)

pub length_resized : (old : Bytes) (n : ℕ) → length (resized old n) ≡ n
length_resized old n = simp (length-append, length-take, length-replicate) (omega arith)

pub resized_front : (old : Bytes) (n k : ℕ) → k < n → k < length old → get_or (resized old n) k 0 ≡ get_or old k 0
resized_front old n k lt inside =
    get_or_append_left (take n old) (replicate (n - length old) 0) 0 k (simp length-take (omega arith)) ∙ get_or-take n old k 0 lt

pub resized_past : (old : Bytes) (n k : ℕ) → k < n → length old ≤ k → get_or (resized old n) k 0 ≡ 0
resized_past old n k lt past =
    get_or-append_right (take n old) (replicate (n - length old) 0) (length old) k 0 (simp length-take (omega arith)) past
    ∙ get_or-replicate (n - length old) (k - length old) 0 0 (omega arith)
