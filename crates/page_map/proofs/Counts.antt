-- The pages of a map, counted word by word.
use Rattle.std.proofs.Common.{◌≡◌, ℕ, zero, suc, ◌+◌, ◌*◌, ◌/◌, ◌%◌, ◌^◌, ◌<◌, ◌≤◌, eqb, ◌⊎◌, List, length, get_or, take, sym, refl, ap, ◌∙◌, ap₂, subst, inl, inr, add-zero, add-one, add_assoc, add-suc, mod-lt, mod-eq_of_lt, arith}
use lib.Count.{ones, ones_cat}
use Rattle.std.specs.List.{sum_by}
use Rattle.std.proofs.lemmas.List.{take_all, get_or_default}
use Rattle.std.proofs.lemmas.List.Sums.{sum_by_more, sum_by-le}
use Rattle.std.proofs.lemmas.Nat.{mod-pow-add, pow_pos, ones-le}
use Rattle.page_map.specs.Sets.{counted, one_if}
use Rattle.page_map.specs.Words.{bit, pages_of}
use Rattle.page_map.proofs.Digits.{bit_two}
use Rattle.page_map.proofs.Members.{digit_at}

ones_digit : (x : ℕ) → (x ≡ 0) ⊎ (x ≡ 1) → ones x ≡ x
unfolding ones
ones_digit x (inl e) = ap ones e ∙ sym e
ones_digit x (inr e) = ap ones e ∙ sym e

one_digit : (x : ℕ) → (x ≡ 0) ⊎ (x ≡ 1) → one_if (eqb x 1) ≡ x
one_digit x (inl e) = ap (λ (y : ℕ). one_if (eqb y 1)) e ∙ sym e
one_digit x (inr e) = ap (λ (y : ℕ). one_if (eqb y 1)) e ∙ sym e

-- the digits below k + 1 are those below k and the one at k
more : (w k : ℕ) → ones (w % 2 ^ suc k) ≡ ones (w % 2 ^ k) + bit w k
unfolding bit
more w k =
    ap (λ (j : ℕ). ones (w % 2 ^ j)) (sym (omega arith))
    ∙ ap ones (mod-pow-add w 1 k)
    ∙ ones_cat k (w / 2 ^ k % 2) (w % 2 ^ k) (mod-lt w (pow_pos k))
    ∙ ap (λ (x : ℕ). x + ones (w % 2 ^ k)) (ones_digit (w / 2 ^ k % 2) (bit_two w k))
    ∙ omega arith

page_at : (ws : List ℕ) (i k : ℕ) → k < 64 → one_if (pages_of ws (suc (i * 64 + k))) ≡ bit (get_or ws i 0) k
unfolding pages_of
page_at ws i k h = ap (λ (d : ℕ). one_if (eqb d 1)) (digit_at ws i k h) ∙ one_digit (bit (get_or ws i 0) k) (bit_two (get_or ws i 0) k)

-- the pages in the first i words and the first k digits of the next
part : (ws : List ℕ) (i k : ℕ) → k ≤ 64 → counted (pages_of ws) (i * 64 + k) ≡ counted (pages_of ws) (i * 64) + ones (get_or ws i 0 % 2 ^ k)
unfolding counted ones
part ws i zero h =
    let e : get_or ws i 0 % 1 ≡ 0 = omega arith in
    let s = pages_of ws in
    ap (counted s) (add-zero (i * 64)) ∙ sym (ap (λ (x : ℕ). counted s (i * 64) + ones x) e ∙ add-zero (counted s (i * 64)))
part ws i (suc k) h =
    let s = pages_of ws in
    ap (counted s) (add-suc (i * 64) k)
    ∙ ap₂ (λ (x y : ℕ). x + y) (part ws i k (omega arith)) (page_at ws i k (omega arith))
    ∙ add_assoc (counted s (i * 64)) (ones (get_or ws i 0 % 2 ^ k)) (bit (get_or ws i 0) k)
    ∙ ap (λ (x : ℕ). counted s (i * 64) + x) (sym (more (get_or ws i 0) k))

-- one more word
pub word_more : (ws : List ℕ) (i : ℕ) → get_or ws i 0 < 2 ^ 64 → counted (pages_of ws) ((i + 1) * 64) ≡ counted (pages_of ws) (i * 64) + ones (get_or ws i 0)
word_more ws i h =
    ap (counted (pages_of ws)) (omega arith) ∙ part ws i 64 (omega arith) ∙ ap (λ (x : ℕ). counted (pages_of ws) (i * 64) + ones x) (mod-eq_of_lt h)

-- the first n words
words : (ws : List ℕ) (fit : (i : ℕ) → i < length ws → get_or ws i 0 < 2 ^ 64) (n : ℕ) → n ≤ length ws → counted (pages_of ws) (n * 64) ≡ sum_by ones (take n ws)
unfolding counted
words ws fit zero le = refl
words ws fit (suc n) le =
    ap (λ (k : ℕ). counted (pages_of ws) (k * 64)) (sym (add-one n)) ∙ word_more ws n (fit n (omega arith))
    ∙ ap (λ (x : ℕ). x + ones (get_or ws n 0)) (words ws fit n (omega arith))
    ∙ sym (sum_by_more ones ws n 0 (omega arith)) ∙ ap (λ (k : ℕ). sum_by ones (take k ws)) (add-one n)

-- the pages of a map are the ones of its words, and no word has more than 64
module _ (ws : List ℕ) (long : length ws ≡ 64) (fit : (i : ℕ) → i < length ws → get_or ws i 0 < 2 ^ 64) where
  pub counted_words : sum_by ones ws ≡ counted (pages_of ws) 4096
  counted_words = sym (words ws fit 64 (omega arith) ∙ ap (sum_by ones) (take_all 64 ws (omega arith)))

  pub few_ones : sum_by ones ws ≤ 4096
  few_ones = omega (arith, long, sum_by-le ones 64 ws (λ i d lt. ones-le 64 (get_or ws i d) (subst (λ (w : ℕ). w < 2 ^ 64) (get_or_default ws i 0 d lt) (fit i lt))))
