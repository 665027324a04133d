-- Pages that ascend, tested one by one.
use Rattle.std.proofs.Common.{◌≡◌, ◌↔◌, ℕ, zero, suc, ◌+◌, ◌<◌, ◌≤◌, Bool, true, false, ◌&&◌, ltb, leb, List, [], ◌∷◌, length, get_or, sym, refl, ⊎_elim, add-one, arith}
use Rattle.std.specs.List.{EachIndex, IsAllAdjacentAnswer}
use Rattle.std.specs.Bool.{IsTrue}
use Rattle.std.proofs.lemmas.Bool.{and_parts, and_from, both_ways, cases_Bool, false≢true, lt-ltb, le-leb, ltb-true, leb-true}
use Rattle.card.specs.Meaning.{Bytes}
use Rattle.journal.specs.Format.{Ascending}
use Rattle.journal.specs.Judged.{record_place}
use Rattle.journal_writer.specs.Written.{ascend, originals}
use Rattle.journal.proofs.Pieces.{length_part}

not_so : (b : Bool) → (b ≡ true → ⊥) → b ≡ false
not_so b not = ⊎_elim (λ t. absurd (not t)) (λ f. f) (cases_Bool b)

module _ (size : ℕ) where
  abbrev Rise : List ℕ → Type 0
  Rise ps = (k : ℕ) → suc k < length ps → get_or ps k 0 < get_or ps (suc k) 0

  ascend_from : (last : ℕ) (ps : List ℕ) → (0 < length ps → last < get_or ps 0 0) → Rise ps → EachIndex ps (λ k. get_or ps k 0 ≤ size) → ascend size last ps ≡ true
  unfolding ascend
  ascend_from last [] above rise within = refl
  ascend_from last (p ∷ ps) above rise within =
      and_from _ _ (lt-ltb last p (above (omega arith)))
      (and_from _ _ (le-leb p size (within 0 (omega arith))) (ascend_from p ps (λ some. rise 0 (omega arith)) (λ k lt. rise (suc k) (omega arith)) (λ k lt. within (suc k) (omega arith))))

  ascend_rises : (last : ℕ) (ps : List ℕ) → ascend size last ps ≡ true → Rise (last ∷ ps)
  unfolding ascend
  ascend_rises last [] up k lt = absurd (omega arith)
  ascend_rises last (p ∷ ps) up zero lt = ltb-true last p (and_parts (ltb last p) _ up).0
  ascend_rises last (p ∷ ps) up (suc k) lt = ascend_rises p ps (and_parts (leb p size) _ (and_parts (ltb last p) _ up).1).1 k (omega arith)

  ascend_within : (last : ℕ) (ps : List ℕ) → ascend size last ps ≡ true → EachIndex ps (λ k. get_or ps k 0 ≤ size)
  unfolding ascend
  ascend_within last [] up k lt = absurd (omega arith)
  ascend_within last (p ∷ ps) up zero lt = leb-true p size (and_parts (leb p size) _ (and_parts (ltb last p) _ up).1).0
  ascend_within last (p ∷ ps) up (suc k) lt = ascend_within p ps (and_parts (leb p size) _ (and_parts (ltb last p) _ up).1).1 k (omega arith)

  module _ (ps : List ℕ) where
    -- pages that are sorted ascend if none is past the size
    pub ascend_sorted :
        (sorted within : Bool) → sorted ≡ true → 0 < get_or ps 0 0 → IsAllAdjacentAnswer (λ x y b. b ≡ ltb x y) ps sorted → (IsTrue within ↔ EachIndex ps (λ k. get_or ps k 0 ≤ size)) →
        within ≡ ascend size 0 ps
    ascend_sorted true true is first up all = sym (ascend_from 0 ps (λ some. first) (λ k lt. ltb-true _ _ (sym (rw add-one at (up k 0 (omega arith))))) (all.0 refl))
    ascend_sorted true false is first up all = sym (not_so _ (λ is. false≢true (all.1 (ascend_within 0 ps is))))
    ascend_sorted false within is first up all = absurd (false≢true is)

    -- and others do not
    pub ascend_unsorted : (sorted : Bool) → sorted ≡ false → IsAllAdjacentAnswer (λ x y b. b ≡ ltb x y) ps sorted → sorted ≡ ascend size 0 ps
    ascend_unsorted true is up = absurd (false≢true (sym is))
    ascend_unsorted false is up = sym (not_so _ (λ is. both_ways _ (sym (rw add-one at (up.2 0))) (lt-ltb _ _ (ascend_rises 0 ps is (suc up.0) (omega (arith, up.1))))))

-- records of pages that ascend do
pub originals_ascend : (size last : ℕ) (b : Bytes) (k : ℕ) (pages : List ℕ) → ascend size last pages ≡ true → record_place (k + length pages) ≤ length b → Ascending size last (originals b k pages)
unfolding ascend originals Ascending
originals_ascend size last b k [] up room = tt
originals_ascend size last b k (p ∷ ps) up room =
    let up₀ = and_parts (ltb last p) (leb p size && ascend size p ps) up in
    let up₁ = and_parts (leb p size) (ascend size p ps) up₀.1 in
    (ltb-true last p up₀.0, leb-true p size up₁.0, length_part b (record_place k + 4) 512 (omega arith), originals_ascend size p b (suc k) ps up₁.1 (omega arith))
