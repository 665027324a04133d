-- The names of a super-journal, cut at its zero bytes.
use Rattle.std.proofs.Common.{◌≡◌, ℕ, Bool, true, false, zero, suc, ◌<◌, ◌≤◌, eqb, cond, List, [], ◌∷◌, ◌++◌, length, get_or, map, sym, refl, ap, ◌∙◌, subst, append_assoc, arith, Bor}
use Rattle.std.specs.List.{All, AllByRecursion, slice_split, onto_first}
use Rattle.std.proofs.lemmas.Bool.{ne_eqb, eqb-true, eqb-false}
use Rattle.std.proofs.lemmas.List.{append_cancel_right, get_or_default}
use Rattle.std.proofs.lemmas.List.Splits.{slice_split_at, length-slice_split}
use Rattle.std.proofs.lemmas.Iterator.{YieldsList}
use Rattle.std.proofs.lemmas.Iterator.Consumers.{YieldsList-at}
use Rattle.std.proofs.lemmas.Iterator.Splits.{YieldsList-from_slice_split}
use Rattle.std.specs.Fn.{CalledAt}
use Rattle.std.specs.Iterator.{Yields}
use Rattle.std.specs.Slice.Iter.{split_steps, split_rest, split_done, split_callee}
use denote.Param.Members.{Mut}
use Rattle.card.specs.Meaning.{Bytes, Name}
use Rattle.super_journal.specs.Super.{super_journal_bytes, Unbroken, Plain, LawfulNames}
use Rattle.super_journal.specs.Written.{texts}

pub super_push : (ns : List Name) (n : Name) → super_journal_bytes (ns ++ (n ∷ [])) ≡ super_journal_bytes ns ++ (n ++ (0 ∷ []))
unfolding super_journal_bytes
super_push [] n = refl
super_push (m ∷ ns) n = ap (λ (t : Bytes). m ++ (0 ∷ t)) (super_push ns n) ∙ sym (append_assoc m (0 ∷ super_journal_bytes ns) (n ++ (0 ∷ [])))

-- the bytes of names end by a zero byte
pub super_ends : (ns : List Name) → 1 ≤ length ns → (front : Bytes) × (super_journal_bytes ns ≡ front ++ (0 ∷ []))
unfolding super_journal_bytes
super_ends [] some = absurd (omega arith)
super_ends (n ∷ []) some = (n, refl)
super_ends (n ∷ m ∷ ns) some =
    let more = super_ends (m ∷ ns) (omega arith) in (n ++ (0 ∷ more.0), ap (λ (t : Bytes). n ++ (0 ∷ t)) more.1 ∙ sym (append_assoc n (0 ∷ more.0) (0 ∷ [])))

-- the parts between the zero bytes of some bytes
abbrev pub parts : Bytes → List Name
parts b = slice_split (λ x. eqb x 0) b

pub some_part : (b : Bytes) → 1 ≤ length (parts b)
some_part b = omega (arith, length-slice_split (λ x. eqb x 0) b)

-- no part has a zero byte
cons_unbroken : (x : ℕ) (n : Name) → (x ≡ 0 → ⊥) → Unbroken n → Unbroken (x ∷ n)
cons_unbroken x n ne un zero lt = ne
cons_unbroken x n ne un (suc k) lt = un k (omega arith)

pub unbroken : (b : Bytes) → AllByRecursion Unbroken (parts b)
unbroken [] = (λ k lt. absurd (omega arith), tt)
unbroken (x ∷ b) = by (unbroken b) (eqb x 0) (eqb-false x 0)
  where
    onto : (x ≡ 0 → ⊥) → (ns : List Name) → AllByRecursion Unbroken ns → AllByRecursion Unbroken (onto_first x ns)
    onto ne [] all = (cons_unbroken x [] ne (λ k lt. absurd (omega arith)), tt)
    onto ne (n ∷ ns) all = (cons_unbroken x n ne all.0, all.1)

    by : AllByRecursion Unbroken (parts b) → (t : Bool) → (t ≡ false → x ≡ 0 → ⊥) → AllByRecursion Unbroken (cond t ([] ∷ parts b) (onto_first x (parts b)))
    by rest true ne = (λ k lt. absurd (omega arith), rest)
    by rest false ne = onto (ne refl) (parts b) rest

-- the parts, each ended by a zero byte, are the bytes and one more
pub joined : (b : Bytes) → super_journal_bytes (parts b) ≡ b ++ (0 ∷ [])
unfolding super_journal_bytes
joined [] = refl
joined (x ∷ b) = by (joined b) (eqb x 0) (eqb-true x 0)
  where
    onto : (ns : List Name) → 1 ≤ length ns → super_journal_bytes (onto_first x ns) ≡ x ∷ super_journal_bytes ns
    onto [] some = absurd (omega arith)
    onto (n ∷ ns) some = refl

    by : super_journal_bytes (parts b) ≡ b ++ (0 ∷ []) → (t : Bool) → (t ≡ true → x ≡ 0) → super_journal_bytes (cond t ([] ∷ parts b) (onto_first x (parts b))) ≡ x ∷ (b ++ (0 ∷ []))
    by rest true is = ap (λ (y : ℕ). y ∷ super_journal_bytes (parts b)) (sym (is refl)) ∙ ap (λ (t : Bytes). x ∷ t) rest
    by rest false is = onto (parts b) (some_part b) ∙ ap (λ (t : Bytes). x ∷ t) rest

-- names, each ended by a zero byte, are cut into the names, and nothing past the last
cut_super : (ns : List Name) → AllByRecursion Plain ns → parts (super_journal_bytes ns) ≡ ns ++ ([] ∷ [])
unfolding super_journal_bytes
cut_super [] all = refl
cut_super (n ∷ ns) all = slice_split_at (λ x. eqb x 0) n 0 (super_journal_bytes ns) none refl ∙ ap (λ (ps : List Name). n ∷ ps) (cut_super ns all.1)
  where
    none : All (λ x. eqb x 0 ≡ false) n
    none k d lt = ne_eqb (get_or n k d) 0 (λ e. all.0.unbroken k lt (get_or_default n k 0 d lt ∙ e))

cut_ended : (b : Bytes) → parts (b ++ (0 ∷ [])) ≡ parts b ++ ([] ∷ [])
cut_ended [] = refl
cut_ended (x ∷ b) = by (cut_ended b) (eqb x 0)
  where
    onto : (ns : List Name) → 1 ≤ length ns → onto_first x (ns ++ ([] ∷ [])) ≡ onto_first x ns ++ ([] ∷ [])
    onto [] some = absurd (omega arith)
    onto (n ∷ ns) some = refl

    by :
        parts (b ++ (0 ∷ [])) ≡ parts b ++ ([] ∷ []) → (t : Bool) →
        cond t ([] ∷ parts (b ++ (0 ∷ []))) (onto_first x (parts (b ++ (0 ∷ [])))) ≡ cond t ([] ∷ parts b) (onto_first x (parts b)) ++ ([] ∷ [])
    by rest true = ap (λ (ps : List Name). [] ∷ ps) rest
    by rest false = ap (onto_first x) rest ∙ onto (parts b) (some_part b)

-- bytes that make a super-journal with one zero byte more are cut into its names
pub cut : (b : Bytes) (ns : List Name) → AllByRecursion Plain ns → b ++ (0 ∷ []) ≡ super_journal_bytes ns → parts b ≡ ns
cut b ns all e = append_cancel_right (parts b) ns ([] ∷ []) (sym (cut_ended b) ∙ ap parts e ∙ cut_super ns all)

-- what `split` at zero bytes gives
pub splits :
    {F : Type 0} {g : Mut F (Bor ℕ × Unit {0}) Bool} {f : F} {s u : _} {b : Bytes} (given : List (Bor Bytes)) (t : _) → Yields (split_steps g) s given t → s ≡ u → split_rest u ≡ b → split_done u ≡ false → split_callee u ≡ f →
    ((x : ℕ) (r : Bool) (q : F) → CalledAt g f x r q → (q ≡ f) × (r ≡ eqb x 0)) → YieldsList (split_steps g) (λ x. x.now) s (parts b)
splits given t y e rest done closure tests = YieldsList-at e (YieldsList-from_slice_split _ (λ x. eqb x 0) _ rest done closure tests)

-- a name may be so long
abbrev pub Long : Name → Type 0
Long n = (1 ≤ length n) × (length n ≤ 32)

-- the names taken so far: all that were given, not more than may be, each as long as it may be
pub record Taken (given names : List (Bor Bytes)) : Type 0 where
  pub all : names ≡ given
  pub few : length names ≤ 4
  pub each : AllByRecursion Long (texts names)

plain_each : (ns : List Name) → AllByRecursion Long ns → AllByRecursion Unbroken ns → AllByRecursion Plain ns
plain_each [] long un = tt
plain_each (n ∷ ns) long un = (record { some = long.0.0; short = long.0.1; unbroken = un.0 }, plain_each ns long.1 un.1)

-- the names, where all parts were taken
pub all_taken :
    (b front : Bytes) (given names : List (Bor Bytes)) → Taken given names → map (λ (r : Bor Bytes). r.now) given ≡ parts front → b ≡ front ++ (0 ∷ []) →
    LawfulNames (texts names) × (b ≡ super_journal_bytes (texts names)) × (length names ≤ 4)
all_taken b front given names taken all ends = (
  record {
    some = omega (arith, some_part front, ap length is);
    few = omega (arith, taken.few, size names);
    each = plain_each (texts names) taken.each (subst (AllByRecursion Unbroken) (sym is) (unbroken front));
  },
  ends ∙ sym (joined front) ∙ ap super_journal_bytes (sym is),
  taken.few,
)
  where
    is : texts names ≡ parts front
    is = ap texts taken.all ∙ all

    size : (rs : List (Bor Bytes)) → length (texts rs) ≡ length rs
    size [] = refl
    size (r ∷ rs) = ap suc (size rs)

-- a part of a super-journal that comes after so many is one of its names
pub part_fits :
    (front : Bytes) (n : ℕ) (name : Name) → (n < length (parts front)) × (name ≡ get_or (parts front) n name) →
    (ns : List Name) → LawfulNames ns → front ++ (0 ∷ []) ≡ super_journal_bytes ns → (n < 4) × Long name
part_fits front n name turn ns ok e = (omega (arith, size, ok.few, turn.0), subst Long (sym here) (at ns ok.each n (omega (arith, size, turn.0))))
  where
    is : parts front ≡ ns
    is = cut front ns ok.each e

    size : length (parts front) ≡ length ns
    size = ap length is

    here : name ≡ get_or ns n name
    here = turn.1 ∙ ap (λ (ps : List Name). get_or ps n name) is

    at : (ms : List Name) → AllByRecursion Plain ms → (k : ℕ) → k < length ms → Long (get_or ms k name)
    at [] all k lt = absurd (omega arith)
    at (m ∷ ms) all zero lt = (all.0.some, all.0.short)
    at (m ∷ ms) all (suc k) lt = at ms all.1 k (omega arith)
