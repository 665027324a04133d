-- Which name a slot has, and whether it is free.
use Rattle.std.proofs.Common.{◌≡◌, ℕ, ◌≤◌, true, false, ◌&&◌, eqb, leb, ◌⊎◌, length, get_or, take, sym, ap, ◌∙◌, inl, inr, ⊎_elim, arith}
use native.Mathlib.Decide.{ℕ_discrete}
use Rattle.std.specs.Str.{bytes_eq}
use Rattle.std.proofs.lemmas.Bool.Decides.{nat_tests}
use Rattle.std.proofs.lemmas.Slice.Eq.{bytes_eq-Decides}
use Rattle.std.proofs.lemmas.List.{get_or-take, take-take}
use Rattle.std.proofs.lemmas.Bool.{cases_Bool, and_parts, leb-true, eqb-true}
use Rattle.card.specs.Meaning.{Bytes, Name}
use Rattle.card.specs.Calls.{name_ok}
use Rattle.image.specs.Layout.{free, named}

-- a slot with no name's length has no name
pub unnamed : (n : Name) (s : Bytes) → get_or s 32 0 ≡ 0 → named n s ≡ false
unfolding named
unnamed n s e = grind (arith, nat_tests, e)

pub is_free : (s : Bytes) → 37 ≤ length s → get_or s 32 0 ≡ 0 → free s ≡ true
unfolding free
is_free s h e = grind (arith, nat_tests, e)

pub not_free : (s : Bytes) → 1 ≤ get_or s 32 0 → free s ≡ false
unfolding free
not_free s h = grind (arith, nat_tests)

-- a free slot has no name
pub free_unnamed : (n : Name) (s : Bytes) → free s ≡ true → named n s ≡ false
unfolding free named
free_unnamed n s e = grind (arith, nat_tests, e)

sameBytes_length : (a b : Name) → (length a ≡ length b → ⊥) → bytes_eq a b ≡ false
sameBytes_length a b ne = ⊎_elim (λ t. absurd (ne (ap length ((bytes_eq-Decides a b).0 t)))) (λ f. f) (cases_Bool (bytes_eq a b))

-- a slot with a name of 1 to 32 bytes has that name, and no other
pub named_as : (name n : Name) (s : Bytes) → 37 ≤ length s → 1 ≤ length name → length name ≤ 32 → get_or s 32 0 ≡ length name → take (length name) s ≡ name → named n s ≡ bytes_eq name n
unfolding named
named_as name n s head low high size front = by (ℕ_discrete (length name) (length n))
  where
    by : Dec (length name ≡ length n) → (name_ok n && (leb 37 (length s) && (eqb (get_or s 32 0) (length n) && bytes_eq (take (length n) s) n))) ≡ bytes_eq name n
    by (yes e) =
        let same : bytes_eq (take (length n) s) n ≡ bytes_eq name n = ap (λ (x : Bytes). bytes_eq x n) (ap (λ (k : ℕ). take k s) (sym e) ∙ front) in
        grind (arith, nat_tests, same, e, size)
    by (no ne) = let apart = sameBytes_length name n ne in grind (arith, nat_tests, apart, size)

-- the name is told by the bytes before the file's length
pub named_front : (n : Name) (s s' : Bytes) → length s' ≡ length s → take 33 s' ≡ take 33 s → named n s' ≡ named n s
unfolding named
named_front n s s' long front = by (cases_Bool (name_ok n))
  where
    size : get_or s' 32 0 ≡ get_or s 32 0
    size = sym (get_or-take 33 s' 32 0 (omega arith)) ∙ ap (λ (l : Bytes). get_or l 32 0) front ∙ get_or-take 33 s 32 0 (omega arith)

    by : (name_ok n ≡ true) ⊎ (name_ok n ≡ false) →
        (name_ok n && (leb 37 (length s') && (eqb (get_or s' 32 0) (length n) && bytes_eq (take (length n) s') n))) ≡ (name_ok n && (leb 37 (length s) && (eqb (get_or s 32 0) (length n) && bytes_eq (take (length n) s) n)))
    by (inl ok) =
        let short : length n ≤ 33 = grind (arith, nat_tests, ok) in
        let same : take (length n) s' ≡ take (length n) s = sym (take-take (length n) 33 s' short) ∙ ap (take (length n)) front ∙ take-take (length n) 33 s short in
        simp (long, size, same)
    by (inr bad) = simp bad

pub free_front : (s s' : Bytes) → length s' ≡ length s → take 33 s' ≡ take 33 s → free s' ≡ free s
unfolding free
free_front s s' long front =
    let size : get_or s' 32 0 ≡ get_or s 32 0 = sym (get_or-take 33 s' 32 0 (omega arith)) ∙ ap (λ (l : Bytes). get_or l 32 0) front ∙ get_or-take 33 s 32 0 (omega arith) in
    simp (long, size)

-- what the test of a name tells: the name is lawful, and stands in the slot's head
pub named_parts : (n : Name) (s : Bytes) → named n s ≡ true → (name_ok n ≡ true) × (37 ≤ length s) × (get_or s 32 0 ≡ length n) × (take (length n) s ≡ n)
unfolding named
named_parts n s e =
    let ok = and_parts (name_ok n) (leb 37 (length s) && (eqb (get_or s 32 0) (length n) && bytes_eq (take (length n) s) n)) e in
    let head = and_parts (leb 37 (length s)) (eqb (get_or s 32 0) (length n) && bytes_eq (take (length n) s) n) ok.1 in
    let name = and_parts (eqb (get_or s 32 0) (length n)) (bytes_eq (take (length n) s) n) head.1 in
    (ok.0, leb-true 37 (length s) head.0, eqb-true (get_or s 32 0) (length n) name.0, (bytes_eq-Decides (take (length n) s) n).0 name.1)

-- a slot has one name
pub not_named : (n m : Name) (s : Bytes) → (m ≡ n → ⊥) → named n s ≡ true → named m s ≡ false
not_named n m s ne e = ⊎_elim (λ t. absurd (ne (once t))) (λ f. f) (cases_Bool (named m s))
  where
    once : named m s ≡ true → m ≡ n
    once t =
        let a = named_parts n s e in
        let b = named_parts m s t in
        sym b.3 ∙ ap (λ (k : ℕ). take k s) (sym b.2 ∙ a.2) ∙ a.3

pub free_head : (s : Bytes) → free s ≡ true → 37 ≤ length s
unfolding free
free_head s e = leb-true 37 (length s) (and_parts (leb 37 (length s)) (eqb (get_or s 32 0) 0) e).0
