-- The least page above a given one, by the trailing zeros of the first word that is not zero.
use Rattle.std.proofs.Common.{◌≡◌, ℕ, zero, suc, ◌+◌, ◌-◌, ◌*◌, ◌/◌, ◌%◌, ◌^◌, ◌<◌, ◌≤◌, Bool, true, false, not, eqb, ltb, ◌⊎◌, List, length, get_or, take, drop, Some, None, sym, ap, ◌∙◌, subst, inl, inr, ⊎_elim, lt_of_lt_of_le, arith, pow_mono, shr_lt, length-drop, length-take-le}
use lib.Count.{count_trailing_zeros}
use Rattle.std.specs.List.{position, position_or_len}
use Rattle.std.proofs.lemmas.List.{get_or-take, get_or-drop}
use Rattle.std.proofs.lemmas.List.Quantifiers.{position-Some}
use Rattle.std.proofs.lemmas.List.Sums.{fails_before_first}
use Rattle.std.proofs.lemmas.Option.{none-some}
use Rattle.std.proofs.lemmas.Nat.{mod_below, div-add-mod'}
use Rattle.std.proofs.lemmas.Bool.{cases_lt, cases_Bool, cond-true, eqb-true, eq-eqb, ltb-false, not-false, both_ways}
use Rattle.page_map.specs.Sets.{NoneAbove, NextAbove}
use Rattle.page_map.specs.Words.{bit, digit, pages_of}
use Rattle.page_map.proofs.Digits.{bit_shr, bit_zero, bit_within, lowest}
use Rattle.page_map.proofs.Members.{digit_at, digit_past, page_in, page_out}

-- no digit from low on and below high is set
abbrev pub Clear : List ℕ → ℕ → ℕ → Type 0
Clear ws low high = (k : ℕ) → low ≤ k → k < high → digit ws k ≡ 0

-- n is the place of the first digit from p on that is set
pub record First (ws : List ℕ) (p n : ℕ) : Type 0 where
  pub low : p ≤ n
  pub set : digit ws n ≡ 1
  pub clear : Clear ws p n

pub next_page : (ws : List ℕ) (p n : ℕ) → First ws p n → NextAbove (pages_of ws) p (suc n)
next_page ws p n first = record { above = omega (arith, first.low); member = page_in ws n first.set; least = λ q. least q }
  where
    least : (q : ℕ) → p < q → q < suc n → pages_of ws q ≡ false
    least zero a b = absurd (omega arith)
    least (suc k) a b = page_out ws k (first.clear k (omega arith) (omega arith))

pub no_page : (ws : List ℕ) (p : ℕ) → length ws ≡ 64 → Clear ws p 4096 → NoneAbove (pages_of ws) p
no_page ws p long clear zero a = absurd (omega arith)
no_page ws p long clear (suc k) a = page_out ws k (⊎_elim (λ (l : k < 4096). clear k (omega arith) l) (λ (g : 4096 ≤ k). digit_past ws k long g) (cases_lt k 4096))

-- what is clear up to a word stays so through the first k digits of the word
clear_word : (ws : List ℕ) (p i k : ℕ) → Clear ws p (i * 64) → k ≤ 64 → ((j : ℕ) → j < k → bit (get_or ws i 0) j ≡ 0) → Clear ws p (i * 64 + k)
clear_word ws p i k before h zeros q low below = ⊎_elim (before q low) inside (cases_lt q (i * 64))
  where
    inside : i * 64 ≤ q → digit ws q ≡ 0
    inside g =
        let e : i * 64 + (q - i * 64) ≡ q = omega arith in
        ap (digit ws) (sym e) ∙ digit_at ws i (q - i * 64) (omega arith) ∙ zeros (q - i * 64) (omega arith)

-- the first word, from p on
clear_first : (ws : List ℕ) (p k : ℕ) → p % 64 + k ≤ 64 → ((j : ℕ) → j < k → bit (get_or ws (p / 64) 0 / 2 ^ (p % 64)) j ≡ 0) → Clear ws p (p + k)
clear_first ws p k h zeros q low below =
    let d = div-add-mod' p 64 in
    let e : p / 64 * 64 + (p % 64 + (q - p)) ≡ q = omega arith in
    ap (digit ws) (sym e) ∙ digit_at ws (p / 64) (p % 64 + (q - p)) (omega arith) ∙ sym (bit_shr (get_or ws (p / 64) 0) (p % 64) (q - p)) ∙ zeros (q - p) (omega arith)

module _ (ws : List ℕ) (p : ℕ) where
  pub first_here :
      get_or ws (p / 64) 0 < 2 ^ 64 → (get_or ws (p / 64) 0 / 2 ^ (p % 64) ≡ 0 → ⊥) →
      First ws p (p + count_trailing_zeros 64 (get_or ws (p / 64) 0 / 2 ^ (p % 64))) × (p % 64 + count_trailing_zeros 64 (get_or ws (p / 64) 0 / 2 ^ (p % 64)) < 64)
  first_here fits ne =
      let w : ℕ = get_or ws (p / 64) 0 in
      let f : ℕ = w / 2 ^ (p % 64) in
      let t : ℕ = count_trailing_zeros 64 f in
      let small : f < 2 ^ 64 = shr_lt 64 (p % 64) (lt_of_lt_of_le fits (pow_mono {i = 64} {j = 64 + p % 64} (omega arith))) in
      let l = lowest 64 f (omega arith) small in
      let one : bit w (p % 64 + t) ≡ 1 = sym (bit_shr w (p % 64) t) ∙ l.set in
      let within : p % 64 + t < 64 = bit_within w (p % 64 + t) 64 fits one in
      let d = div-add-mod' p 64 in
      let e : p / 64 * 64 + (p % 64 + t) ≡ p + t = omega arith in
      (record { low = omega arith; set = ap (digit ws) (sym e) ∙ digit_at ws (p / 64) (p % 64 + t) within ∙ one; clear = clear_first ws p t (omega arith) l.clear }, within)

  pub first_word :
      (i : ℕ) → p ≤ i * 64 → Clear ws p (i * 64) → get_or ws i 0 < 2 ^ 64 → (get_or ws i 0 ≡ 0 → ⊥) →
      First ws p (i * 64 + count_trailing_zeros 64 (get_or ws i 0)) × (count_trailing_zeros 64 (get_or ws i 0) < 64)
  first_word i g before fits ne =
      let w : ℕ = get_or ws i 0 in
      let t : ℕ = count_trailing_zeros 64 w in
      let l = lowest 64 w (omega arith) fits in
      let within : t < 64 = bit_within w t 64 fits l.set in
      (record { low = omega arith; set = digit_at ws i t within ∙ l.set; clear = clear_word ws p i t before (omega arith) l.clear }, within)

  pub clear_here : get_or ws (p / 64) 0 / 2 ^ (p % 64) ≡ 0 → Clear ws p ((p / 64 + 1) * 64)
  clear_here z =
      let d = div-add-mod' p 64 in
      let m = mod_below p 64 (omega arith) in
      let e : p + (64 - p % 64) ≡ (p / 64 + 1) * 64 = omega arith in
      let P : ℕ → Type 0 = λ n. Clear ws p n in
      subst P e (clear_first ws p (64 - p % 64) (omega arith) (λ j _. ap (λ (x : ℕ). bit x j) z ∙ bit_zero j))

  pub clear_next : (i : ℕ) → Clear ws p (i * 64) → get_or ws i 0 ≡ 0 → Clear ws p ((i + 1) * 64)
  clear_next i before z =
      let e : i * 64 + 64 ≡ (i + 1) * 64 = omega arith in
      let P : ℕ → Type 0 = λ n. Clear ws p n in
      subst P e (clear_word ws p i 64 before (omega arith) (λ j _. ap (λ (x : ℕ). bit x j) z ∙ bit_zero j))

  -- over words of zeros
  pub clear_to : (i : ℕ) → Clear ws p (i * 64) → (k : ℕ) → ((j : ℕ) → j < k → get_or ws (i + j) 0 ≡ 0) → Clear ws p ((i + k) * 64)
  clear_to i before zero zeros = let e : i * 64 ≡ (i + 0) * 64 = omega arith in subst (λ (n : ℕ). Clear ws p n) e before
  clear_to i before (suc k) zeros =
      let e : (i + k + 1) * 64 ≡ (i + suc k) * 64 = omega arith in
      subst (λ (n : ℕ). Clear ws p n) e (clear_next (i + k) (clear_to i before k (λ j lt. zeros j (omega arith))) (zeros k (omega arith)))

  -- the words from n on, and the first of them that is not zero
  module _ (n : ℕ) (long : length ws ≡ 64) (rest : List ℕ) (is : rest ≡ take (64 - n) (drop n ws)) where
    is_set : ℕ → Bool
    is_set w = not (eqb w 0)

    at_rest : (j : ℕ) → n + j < 64 → get_or rest j 0 ≡ get_or ws (n + j) 0
    at_rest j lt = ap (λ (l : List ℕ). get_or l j 0) is ∙ get_or-take (64 - n) (drop n ws) j 0 (omega arith) ∙ get_or-drop n ws j 0

    length_rest : length rest ≡ 64 - n
    length_rest = ap length is ∙ length-take-le (64 - n) (drop n ws) (omega (arith, length-drop n ws))

    pub rest_none : position (λ w. not (eqb w 0)) rest ≡ None → (j : ℕ) → n + j < 64 → get_or ws (n + j) 0 ≡ 0
    unfolding is_set
    rest_none none j lt = sym (at_rest j lt) ∙ eqb-true (get_or rest j 0) 0 (not-false _ (fails_before_first is_set rest j 0 (by (cases_Bool (ltb (position_or_len is_set rest) (length rest))))))
      where
        by : (ltb (position_or_len is_set rest) (length rest) ≡ true) ⊎ (ltb (position_or_len is_set rest) (length rest) ≡ false) → j < position_or_len is_set rest
        by (inl t) = absurd (none-some _ (sym none ∙ cond-true _ _ _ t))
        by (inr u) = omega (arith, length_rest, ltb-false _ _ u)

    pub rest_some : (j : ℕ) → position (λ w. not (eqb w 0)) rest ≡ Some j → (n + j < 64) × (get_or ws (n + j) 0 ≡ 0 → ⊥) × ((k : ℕ) → k < j → get_or ws (n + k) 0 ≡ 0)
    unfolding is_set
    rest_some j some = (within, λ e. both_ways _ (ap not (eq-eqb (get_or rest j 0) 0 (at_rest j within ∙ e))) found.1, λ k lt. sym (at_rest k (omega (arith, within))) ∙ eqb-true (get_or rest k 0) 0 (not-false _ (found.2 k lt)))
      where
        found : (j < length rest) × (is_set (get_or rest j 0) ≡ true) × ((k : ℕ) → k < j → is_set (get_or rest k 0) ≡ false)
        found = position-Some is_set rest j 0 some

        within : n + j < 64
        within = omega (arith, found.0, length_rest)
