-- The names of files, by their numbers.
use Rattle.std.proofs.Common.{◌≡◌, ℕ, ◌+◌, ◌-◌, ◌<◌, ◌≤◌, Bool, true, false, cond, ◌&&◌, ◌||◌, eqb, ltb, leb, ◌⊎◌, List, [], ◌++◌, length, Option, Some, None, MatchOption, sym, refl, ap, ◌∙◌, ap₂, inl, inr, ⊎_elim, arith, length-append}
use mathlib.Core.Logic.{∥∥₁_elim}
use Rattle.std.proofs.lemmas.Bool.{cases_lt, le-leb, lt-ltb, le-ltb, ltb-true, leb-true, eqb-true, or_cases, and_parts, cond-true, cond-false}
use Rattle.names.specs.declared.names.Names.{Names}
use Rattle.names.specs.Files.{names_of, how_many, file_of, FileNamed, NoFileNamed}
use Rattle.names.specs.Names.{Bytes, is_file, file_name, listed, named, journal_ending, super_ending, Apart}

-- a file of a list of n databases is one of them, a journal of one of them, or the super-journal
pub ways : (n k : ℕ) → is_file n k ≡ true → (k < n) ⊎ (((4 ≤ k) × (k < 4 + n)) ⊎ (k ≡ 8))
ways n k is = ⊎_elim (λ a. inl (ltb-true k n a)) (λ b. inr (⊎_elim (λ w. inl (leb-true 4 k (and_parts _ _ w).0, ltb-true k (4 + n) (and_parts _ _ w).1)) (λ e. inr (eqb-true k 8 e)) (or_cases _ _ b))) (or_cases _ _ is)

pub file_last : (n k : ℕ) → n ≤ 4 → is_file n k ≡ true → k < 9
file_last n k few is = by (ways n k is)
  where
    by : (k < n) ⊎ (((4 ≤ k) × (k < 4 + n)) ⊎ (k ≡ 8)) → k < 9
    by (inl a) = omega arith
    by (inr (inl b)) = omega (arith, b.1)
    by (inr (inr e)) = omega arith

pub file_database : (n k : ℕ) → is_file n k ≡ true → k < 4 → k < n
file_database n k is low = by (ways n k is)
  where
    by : (k < n) ⊎ (((4 ≤ k) × (k < 4 + n)) ⊎ (k ≡ 8)) → k < n
    by (inl a) = a
    by (inr (inl b)) = absurd (omega (arith, b.0))
    by (inr (inr e)) = absurd (omega arith)

pub file_journal : (n k : ℕ) → n ≤ 4 → is_file n k ≡ true → 4 ≤ k → k < 8 → k - 4 < n
file_journal n k few is low high = by (ways n k is)
  where
    by : (k < n) ⊎ (((4 ≤ k) × (k < 4 + n)) ⊎ (k ≡ 8)) → k - 4 < n
    by (inl a) = absurd (omega arith)
    by (inr (inl b)) = omega (arith, b.1)
    by (inr (inr e)) = absurd (omega arith)

module _ (name : ℕ → Bytes) (k : ℕ) where
  pub name_database : k < 4 → file_name name k ≡ name k
  unfolding file_name
  name_database low = cond-true _ _ _ (lt-ltb k 4 low)

  pub name_journal : 4 ≤ k → k < 8 → file_name name k ≡ name (k - 4) ++ journal_ending
  unfolding file_name
  name_journal low high = cond-false _ _ _ (le-ltb k 4 low) ∙ cond-true _ _ _ (lt-ltb k 8 high)

  pub name_super : 8 ≤ k → file_name name k ≡ name 0 ++ super_ending
  unfolding file_name
  name_super low = cond-false _ _ _ (le-ltb k 4 (omega arith)) ∙ cond-false _ _ _ (le-ltb k 8 low)

-- a file that the list has goes by its name
pub named_file : (names : List Bytes) (k : ℕ) → is_file (length names) k ≡ true → named names k ≡ file_name (listed names) k
unfolding named
named_file names k is = ap (λ (b : Bool). cond b (file_name (listed names) k) []) is

pub super_is_file : (n : ℕ) → is_file n 8 ≡ true
super_is_file n = by (ltb 8 n) (leb 4 8 && ltb 8 (4 + n))
  where
    by : (a b : Bool) → (a || (b || true)) ≡ true
    by true b = refl
    by false true = refl
    by false false = refl

pub database_is_file : (n k : ℕ) → k < n → is_file n k ≡ true
database_is_file n k lt = ap (λ (b : Bool). b || ((leb 4 k && ltb k (4 + n)) || eqb k 8)) (lt-ltb k n lt)

pub journal_is_file : (n k : ℕ) → k < n → is_file n (4 + k) ≡ true
journal_is_file n k lt = by (ltb (4 + k) n) (le-leb 4 (4 + k) (omega arith)) (lt-ltb (4 + k) (4 + n) (omega arith))
  where
    by : (a : Bool) → leb 4 (4 + k) ≡ true → ltb (4 + k) (4 + n) ≡ true → (a || ((leb 4 (4 + k) && ltb (4 + k) (4 + n)) || eqb (4 + k) 8)) ≡ true
    by true p q = refl
    by false p q = ap₂ (λ (x y : Bool). (x && y) || eqb (4 + k) 8) p q

-- the super-journal's name is long enough
pub super_long : (names : List Bytes) → 3 ≤ length (named names 8)
super_long names = omega (arith, ap length (named_file names 8 (super_is_file (length names)) ∙ name_super (listed names) 8 (omega arith)), length-append (listed names 0) super_ending)

-- two files of a list have two names
pub files_apart : (s : Names) (j k : ℕ) → is_file (how_many s) j ≡ true → is_file (how_many s) k ≡ true → (j ≡ k → ⊥) → file_of s j ≡ file_of s k → ⊥
files_apart s j k ij ik ne e = ∥∥₁_elim s.apart (λ x y. elim x [ ]) (λ a. by a (cases_lt j k))
  where
    same : file_name (listed (names_of s)) j ≡ file_name (listed (names_of s)) k
    same = sym (named_file (names_of s) j ij) ∙ e ∙ named_file (names_of s) k ik

    by : Apart (names_of s) → (j < k) ⊎ (k ≤ j) → ⊥
    by a (inl lt) = a j k (ij, ik, lt, same)
    by a (inr ge) = a k j (ik, ij, omega (arith, ne), sym same)

-- the file of this number is there, and has the name
abbrev pub Has : List Bytes → Bytes → ℕ → Type 0
Has names w k = (is_file (length names) k ≡ true) × (file_name (listed names) k ≡ w)

-- what a search of the numbers for a name told
pub found_named :
    (s : Names) (w : Bytes) (o : Option ℕ) →
    MatchOption o ((k : ℕ) → 0 ≤ k → k < 9 → Has (names_of s) w k → ⊥) (λ i. (0 ≤ i) × (i < 9) × Has (names_of s) w i × ((k : ℕ) → 0 ≤ k → k < i → Has (names_of s) w k → ⊥)) →
    MatchOption o (NoFileNamed (file_of s) (how_many s) w) (FileNamed (file_of s) (how_many s) w)
found_named s w None h = λ k is e. h k (omega arith) (file_last (how_many s) k s.list.few is) (is, sym (named_file (names_of s) k is) ∙ e)
found_named s w (Some k) h = (h.2.0, named_file (names_of s) k h.2.0 ∙ h.2.1)
