-- Which pages are in a map after one bit of one word is set or cleared.
use Rattle.std.proofs.Common.{◌≡◌, ℕ, zero, suc, ◌+◌, ◌-◌, ◌*◌, ◌/◌, ◌%◌, ◌^◌, ◌<◌, ◌≤◌, Bool, true, false, cond, eqb, ◌⊎◌, List, length, get_or, set, replicate, sym, refl, ap, ◌∙◌, subst, inl, inr, ⊎_elim, arith}
use native.Mathlib.Decide.{ℕ_discrete}
use lib.Bits.{bit_and, bit_or, or_zero_r}
use Rattle.std.proofs.lemmas.List.{get_or-set_same, get_or-set_other, get_or_past, get_or-replicate, length-replicate}
use Rattle.std.proofs.lemmas.Bool.{cases_eq, cases_lt, eq-eqb, ne_eqb, le-leb, leb-true, and_from, and_parts, both_ways}
use Rattle.std.proofs.lemmas.Nat.{one_shl, and_mask, mod_below, div-add-mod', div-mul-add, mod-mul-add}
use Rattle.page_map.specs.Sets.{including, without, is_page}
use Rattle.page_map.specs.Words.{bit, digit, pages_of}
use Rattle.page_map.proofs.Digits.{bit_of_or, bit_of_and, bit_two, bit_zero, mask_same, mask_other}

-- the digit k of the word i
pub digit_at : (ws : List ℕ) (i k : ℕ) → k < 64 → digit ws (i * 64 + k) ≡ bit (get_or ws i 0) k
unfolding digit
digit_at ws i k h =
    ap (λ (x : ℕ). bit (get_or ws x 0) ((i * 64 + k) % 64)) (div-mul-add i 64 k h) ∙ ap (bit (get_or ws i 0)) (mod-mul-add i 64 k h)

-- past the words there is no page
pub digit_past : (ws : List ℕ) (k : ℕ) → length ws ≡ 64 → 4096 ≤ k → digit ws k ≡ 0
unfolding digit
digit_past ws k long far = ap (λ (w : ℕ). bit w (k % 64)) (get_or_past ws (k / 64) 0 (omega arith)) ∙ bit_zero (k % 64)

pub page_in : (ws : List ℕ) (k : ℕ) → digit ws k ≡ 1 → pages_of ws (suc k) ≡ true
unfolding pages_of
page_in ws k e = ap (λ (d : ℕ). eqb d 1) e

pub page_out : (ws : List ℕ) (k : ℕ) → digit ws k ≡ 0 → pages_of ws (suc k) ≡ false
unfolding pages_of
page_out ws k e = ap (λ (d : ℕ). eqb d 1) e

pub page_past : (ws : List ℕ) (q : ℕ) → length ws ≡ 64 → 4096 < q → pages_of ws q ≡ false
page_past ws zero long far = absurd (omega arith)
page_past ws (suc k) long far = page_out ws k (digit_past ws k long (omega arith))

pub page_none : (ws : List ℕ) → pages_of ws 0 ≡ false
unfolding pages_of
page_none ws = refl

-- the words zs differ from ws at most in the digit p, which is v
pub record Puts (ws zs : List ℕ) (p v : ℕ) : Type 0 where
  pub here : digit zs p ≡ v
  pub others : (q : ℕ) → (q ≡ p → ⊥) → digit zs q ≡ digit ws q

pub puts_in : (ws zs : List ℕ) (p : ℕ) → Puts ws zs p 1 → (q : ℕ) → pages_of zs q ≡ including (pages_of ws) (suc p) q
unfolding pages_of
puts_in ws zs p puts zero = sym (ap (λ (b : Bool). cond b true false) (ne_eqb 0 (suc p) (λ z. omega arith)))
puts_in ws zs p puts (suc k) = by (ℕ_discrete k p)
  where
    by : Dec (k ≡ p) → eqb (digit zs k) 1 ≡ cond (eqb (suc k) (suc p)) true (eqb (digit ws k) 1)
    by (yes e) = ap (λ (d : ℕ). eqb d 1) (ap (digit zs) e ∙ puts.here) ∙ sym (ap (λ (b : Bool). cond b true (eqb (digit ws k) 1)) (eq-eqb (suc k) (suc p) (ap suc e)))
    by (no ne) = ap (λ (d : ℕ). eqb d 1) (puts.others k ne) ∙ sym (ap (λ (b : Bool). cond b true (eqb (digit ws k) 1)) (ne_eqb (suc k) (suc p) (λ z. ne (omega arith))))

pub puts_out : (ws zs : List ℕ) (p : ℕ) → Puts ws zs p 0 → (q : ℕ) → pages_of zs q ≡ without (pages_of ws) (suc p) q
unfolding pages_of
puts_out ws zs p puts zero = sym (ap (λ (b : Bool). cond b false false) (ne_eqb 0 (suc p) (λ z. omega arith)))
puts_out ws zs p puts (suc k) = by (ℕ_discrete k p)
  where
    by : Dec (k ≡ p) → eqb (digit zs k) 1 ≡ cond (eqb (suc k) (suc p)) false (eqb (digit ws k) 1)
    by (yes e) = ap (λ (d : ℕ). eqb d 1) (ap (digit zs) e ∙ puts.here) ∙ sym (ap (λ (b : Bool). cond b false (eqb (digit ws k) 1)) (eq-eqb (suc k) (suc p) (ap suc e)))
    by (no ne) = ap (λ (d : ℕ). eqb d 1) (puts.others k ne) ∙ sym (ap (λ (b : Bool). cond b false (eqb (digit ws k) 1)) (ne_eqb (suc k) (suc p) (λ z. ne (omega arith))))

-- taking out a page that is not in changes nothing
pub out_already : (ws : List ℕ) (p q : ℕ) → pages_of ws p ≡ false → pages_of ws q ≡ without (pages_of ws) p q
out_already ws p q none = by (ℕ_discrete q p)
  where
    by : Dec (q ≡ p) → pages_of ws q ≡ cond (eqb q p) false (pages_of ws q)
    by (yes e) = ap (pages_of ws) e ∙ none ∙ sym (ap (λ (b : Bool). cond b false (pages_of ws q)) (eq-eqb q p e))
    by (no ne) = sym (ap (λ (b : Bool). cond b false (pages_of ws q)) (ne_eqb q p ne))

or_one : (x : ℕ) → (x ≡ 0) ⊎ (x ≡ 1) → bit_or x 1 ≡ 1
or_one x (inl e) = ap (λ (y : ℕ). bit_or y 1) e
or_one x (inr e) = ap (λ (y : ℕ). bit_or y 1) e

and_none : (x : ℕ) → (x ≡ 0) ⊎ (x ≡ 1) → bit_and x 0 ≡ 0
and_none x (inl e) = ap (λ (y : ℕ). bit_and y 0) e
and_none x (inr e) = ap (λ (y : ℕ). bit_and y 0) e

and_one : (x : ℕ) → (x ≡ 0) ⊎ (x ≡ 1) → bit_and x 1 ≡ x
and_one x (inl e) = ap (λ (y : ℕ). bit_and y 1) e ∙ sym e
and_one x (inr e) = ap (λ (y : ℕ). bit_and y 1) e ∙ sym e

module _ (ws : List ℕ) (p : ℕ) (inside : p / 64 < length ws) where
  small : p % 64 < 64
  small = mod_below p 64 (omega arith)

  -- one word is written, of which only the digit p % 64 may differ
  written :
      (z v : ℕ) → bit z (p % 64) ≡ v → ((j : ℕ) → j < 64 → (j ≡ p % 64 → ⊥) → bit z j ≡ bit (get_or ws (p / 64) 0) j) →
      Puts ws (set ws (p / 64) z) p v
  unfolding digit
  written z v same other = record {
    here = ap (λ (x : ℕ). bit x (p % 64)) (get_or-set_same ws (p / 64) z 0 inside) ∙ same;
    others = λ q ne. by q ne (cases_eq (q / 64) (p / 64));
  }
    where
      by : (q : ℕ) → (q ≡ p → ⊥) → (q / 64 ≡ p / 64) ⊎ (q / 64 ≡ p / 64 → ⊥) → bit (get_or (set ws (p / 64) z) (q / 64) 0) (q % 64) ≡ bit (get_or ws (q / 64) 0) (q % 64)
      by q ne (inl e) =
          let far : (q % 64 ≡ p % 64 → ⊥) = λ f. ne (omega (arith, div-add-mod' q 64, div-add-mod' p 64)) in
          ap (λ (i : ℕ). bit (get_or (set ws (p / 64) z) i 0) (q % 64)) e
          ∙ ap (λ (x : ℕ). bit x (q % 64)) (get_or-set_same ws (p / 64) z 0 inside)
          ∙ other (q % 64) (mod_below q 64 (omega arith)) far
          ∙ ap (λ (i : ℕ). bit (get_or ws i 0) (q % 64)) (sym e)
      by q ne (inr f) = ap (λ (x : ℕ). bit x (q % 64)) (get_or-set_other ws (p / 64) (q / 64) z 0 f)

  pub bit_set : Puts ws (set ws (p / 64) (bit_or (get_or ws (p / 64) 0) ((1 * 2 ^ (p % 64)) % 2 ^ 64))) p 1
  bit_set =
      let w : ℕ = get_or ws (p / 64) 0 in
      let P : ℕ → Type 0 = λ m. Puts ws (set ws (p / 64) (bit_or w m)) p 1 in
      subst P (sym (one_shl (p % 64) 64 small))
      (written (bit_or w (2 ^ (p % 64))) 1
      (bit_of_or w (2 ^ (p % 64)) (p % 64) ∙ ap (bit_or (bit w (p % 64))) (mask_same (p % 64) small).0 ∙ or_one (bit w (p % 64)) (bit_two w (p % 64)))
      (λ j l ne. bit_of_or w (2 ^ (p % 64)) j ∙ ap (bit_or (bit w j)) (mask_other (p % 64) j small l ne).0 ∙ or_zero_r (bit w j)))

  pub bit_cleared : Puts ws (set ws (p / 64) (bit_and (get_or ws (p / 64) 0) (18446744073709551615 - (1 * 2 ^ (p % 64)) % 2 ^ 64))) p 0
  bit_cleared =
      let w : ℕ = get_or ws (p / 64) 0 in
      let P : ℕ → Type 0 = λ m. Puts ws (set ws (p / 64) (bit_and w (18446744073709551615 - m))) p 0 in
      let n : ℕ = 18446744073709551615 - 2 ^ (p % 64) in
      subst P (sym (one_shl (p % 64) 64 small))
      (written (bit_and w n) 0
      (bit_of_and w n (p % 64) ∙ ap (bit_and (bit w (p % 64))) (mask_same (p % 64) small).1 ∙ and_none (bit w (p % 64)) (bit_two w (p % 64)))
      (λ j l ne. bit_of_and w n j ∙ ap (bit_and (bit w j)) (mask_other (p % 64) j small l ne).1 ∙ and_one (bit w j) (bit_two w j)))

-- a page that no database can have is not in
pub page_bad : (ws : List ℕ) (p : ℕ) → length ws ≡ 64 → is_page p ≡ false → pages_of ws p ≡ false
page_bad ws zero long bad = page_none ws
page_bad ws (suc k) long bad = ⊎_elim (λ (l : k < 4096). absurd (both_ways (is_page (suc k)) bad (and_from _ _ (le-leb 1 (suc k) (omega arith)) (le-leb (suc k) 4096 (omega arith))))) (λ (g : 4096 ≤ k). page_past ws (suc k) long (omega arith)) (cases_lt k 4096)

pub page_read : (ws : List ℕ) (k : ℕ) → eqb (bit_and (get_or ws (k / 64) 0 / 2 ^ (k % 64)) 1) 1 ≡ pages_of ws (suc k)
unfolding pages_of digit bit
page_read ws k = ap (λ (x : ℕ). eqb x 1) (and_mask (get_or ws (k / 64) 0 / 2 ^ (k % 64)) 1)

-- words of zeros have no page
pub page_zero : (q : ℕ) → pages_of (replicate 64 0) q ≡ false
unfolding digit
page_zero zero = page_none (replicate 64 0)
page_zero (suc k) = page_out (replicate 64 0) k (zeros (k / 64) (cases_lt (k / 64) 64))
  where
    zeros : (i : ℕ) → (i < 64) ⊎ (64 ≤ i) → bit (get_or (replicate 64 0) i 0) (k % 64) ≡ 0
    zeros i (inl l) = ap (λ (w : ℕ). bit w (k % 64)) (get_or-replicate 64 i 0 0 l) ∙ bit_zero (k % 64)
    zeros i (inr g) = ap (λ (w : ℕ). bit w (k % 64)) (get_or_past (replicate 64 0) i 0 (omega (arith, length-replicate {A = ℕ} 64 0))) ∙ bit_zero (k % 64)

pub is_at_least : (p : ℕ) → is_page p ≡ true → suc (p - 1) ≡ p
is_at_least p is = omega (arith, leb-true 1 p (and_parts _ _ is).0)

pub is_at_most : (p : ℕ) → is_page p ≡ true → p ≤ 4096
is_at_most p is = leb-true p 4096 (and_parts _ _ is).1
