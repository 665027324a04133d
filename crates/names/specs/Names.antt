-- Checked lists of names, and the names of the files that go with them.
-- Files go by number: 0 to 3 a database, 4 to 7 its journal, 8 the super-journal.
use Rattle.std.specs.Prelude.{◌≡◌, ℕ, ◌+◌, ◌-◌, ◌<◌, Bool, true, cond, ◌&&◌, ◌||◌, List, [], ◌∷◌, ◌++◌, map, length, ◌==◌, nat_le, nat_lt, slice_index_or}
use Rattle.std.specs.List.{list_all}
use Rattle.std.specs.Borrow.{Bor}
use Rattle.few.specs.Items.{Few}

abbrev pub Bytes : Type 0
Bytes = List ℕ

-- "-journal"
abbrev pub journal_ending : Bytes
journal_ending = 45 ∷ 106 ∷ 111 ∷ 117 ∷ 114 ∷ 110 ∷ 97 ∷ 108 ∷ []

-- "-mj"
abbrev pub super_ending : Bytes
super_ending = 45 ∷ 109 ∷ 106 ∷ []

-- a list has 1 to 4 names
abbrev pub count_ok : ℕ → Bool
count_ok n = nat_le 1 n && nat_le n 4

-- a name has 1 to 24 bytes
abbrev pub length_ok : Bytes → Bool
length_ok w = nat_le 1 (length w) && nat_le (length w) 24

abbrev pub printable : ℕ → Bool
printable b = nat_le 32 b && nat_le b 126

-- each byte of a name is printable
abbrev pub bytes_ok : Bytes → Bool
bytes_ok w = list_all printable w

-- with n databases there is a file of this number
abbrev pub is_file : ℕ → ℕ → Bool
is_file n k = nat_lt k n || ((nat_le 4 k && nat_lt k (4 + n)) || k == 8)

-- the name of the file of this number, from the names of the databases
unfoldable pub file_name : (ℕ → Bytes) → ℕ → Bytes
file_name name k = cond (nat_lt k 4) (name k) (cond (nat_lt k 8) (name (k - 4) ++ journal_ending) (name 0 ++ super_ending))

-- the name at a place of a list
abbrev pub listed : List Bytes → ℕ → Bytes
listed names i = slice_index_or names i []

-- a test is true of each name
abbrev pub Each : (Bytes → Bool) → List Bytes → Type 0
Each good names = (i : ℕ) → i < length names → good (listed names i) ≡ true

-- two files have one name
abbrev pub Alike : List Bytes → ℕ → ℕ → Type 0
Alike names j k =
    (is_file (length names) j ≡ true) × (is_file (length names) k ≡ true) × (j < k) × (file_name (listed names) j ≡ file_name (listed names) k)

-- the names of all files differ
abbrev pub Apart : List Bytes → Type 0
Apart names = (j k : ℕ) → Alike names j k → ⊥

-- what a list of references refers to
abbrev pub texts : List (Bor Bytes) → List Bytes
texts rs = map (λ r. r.now) rs

-- the names of a fixed list
abbrev pub held : List (Few ℕ) → List Bytes
held ws = map (λ w. w.items) ws

-- the name of the file of this number; empty if there is none
unfoldable pub named : List Bytes → ℕ → Bytes
named names k = cond (is_file (length names) k) (file_name (listed names) k) []

-- the name is that of a journal of the list
abbrev pub JournalOf : List Bytes → Bytes → Type 0
JournalOf names w = (i : ℕ) × (i < length names) × (named names (4 + i) ≡ w)
