-- The small map of pages is as the examples say.
use Rattle.std.proofs.Common.{◌≡◌, ℕ, ◌<◌, ◌≤◌, Bool, false, cond, ◌||◌, eqb, ◌⊎◌, List, [], ◌∷◌, length, ⊎_elim, refl, sym, ap, ◌∙◌, inl, inr, arith}
use Rattle.std.proofs.lemmas.Bool.{cases_lt, ne_eqb, or_from, agree_below_at, cond-true, cond-false, cases_eq, eq-eqb}
use Rattle.page_map.specs.Sets.{counted, without, NextAbove, NoneAbove}
use Rattle.page_map.specs.Words.{bit, digit, pages_of}
use Rattle.page_map.specs.Listed.{above}
use Rattle.page_map.specs.Examples.{Examples, words, four}
use Rattle.page_map.proofs.Members.{page_past}
use Rattle.page_map.proofs.Listed.{above_none, above_next, above_counted}
use Rattle.page_map.proofs.Walks.{above_step}

abbrev one_of : ℕ → Bool
one_of q = eqb q 1 || (eqb q 64 || (eqb q 65 || eqb q 4096))

other : (q : ℕ) → (q ≡ 1 → ⊥) → (q ≡ 64 → ⊥) → (q ≡ 65 → ⊥) → (q ≡ 4096 → ⊥) → one_of q ≡ false
other q a b c d = or_from _ _ (ne_eqb q 1 a) (or_from _ _ (ne_eqb q 64 b) (or_from _ _ (ne_eqb q 65 c) (ne_eqb q 4096 d)))

member : (q : ℕ) → four q ≡ one_of q
unfolding pages_of digit bit
member q = ⊎_elim (λ (lt : q < 4097). agree_below_at four one_of 4097 q refl lt) (λ (le : 4097 ≤ q). page_past words q refl (omega arith) ∙ sym (other q (λ e. omega arith) (λ e. omega arith) (λ e. omega arith) (λ e. omega arith))) (cases_lt q 4097)

first : NextAbove four 0 1
first = record { above = omega arith; member = member 1; least = λ q a b. absurd (omega arith) }

same_word : NextAbove four 1 64
same_word = record { above = omega arith; member = member 64; least = λ q a b. member q ∙ other q (λ e. omega arith) (λ e. omega arith) (λ e. omega arith) (λ e. omega arith) }

next_word : NextAbove four 64 65
next_word = record { above = omega arith; member = member 65; least = λ q a b. absurd (omega arith) }

far_on : NextAbove four 65 4096
far_on = record { above = omega arith; member = member 4096; least = λ q a b. member q ∙ other q (λ e. omega arith) (λ e. omega arith) (λ e. omega arith) (λ e. omega arith) }

end : NoneAbove four 4096
end q past = page_past words q refl past

all : above four 0 4096 ≡ 1 ∷ 64 ∷ 65 ∷ 4096 ∷ []
all =
    above_step four 0 1 first (omega arith)
    ∙ ap (λ (l : List ℕ). 1 ∷ l) (above_step four 1 64 same_word (omega arith)
    ∙ ap (λ (l : List ℕ). 64 ∷ l) (above_step four 64 65 next_word (omega arith)
    ∙ ap (λ (l : List ℕ). 65 ∷ l) (above_step four 65 4096 far_on (omega arith)
    ∙ ap (λ (l : List ℕ). 4096 ∷ l) (above_none four 4096 0 end))))

nothing : above four 65 0 ≡ []
unfolding above
nothing = refl

some : above four 1 64 ≡ 64 ∷ 65 ∷ []
some =
    above_next four 1 64 64 same_word (omega arith)
    ∙ ap (λ (l : List ℕ). 64 ∷ l) (above_next four 64 65 1 next_word (omega arith) ∙ ap (λ (l : List ℕ). 65 ∷ l) nothing)

none : counted four 0 ≡ 0
unfolding counted
none = refl

number : counted four 4096 ≡ 4
number = omega (arith, above_counted four 0 4096, ap length all, none)

taken : NextAbove (without four 64) 1 65
taken = record { above = omega arith; member = cond-false (eqb 65 64) false (four 65) refl ∙ member 65; least = least }
  where
    least : (q : ℕ) → 1 < q → q < 65 → without four 64 q ≡ false
    least q a b = by (cases_eq q 64)
      where
        by : (q ≡ 64) ⊎ (q ≡ 64 → ⊥) → cond (eqb q 64) false (four q) ≡ false
        by (inl e) = cond-true _ _ _ (eq-eqb q 64 e)
        by (inr ne) = cond-false _ _ _ (ne_eqb q 64 ne) ∙ same_word.least q a (omega arith)

pub examples : Examples
examples =
    record {
      pages = refl;
      member = member;
      number = number;
      first = first;
      same_word = same_word;
      next_word = next_word;
      far_on = far_on;
      end = end;
      some = some;
      all = all;
      taken = taken;
    }
