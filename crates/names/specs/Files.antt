-- What a checked list of names tells.
use Rattle.std.specs.Prelude.{◌≡◌, ℕ, ◌+◌, true, List, length, ◌≢◌}
use Rattle.names.specs.declared.names.NameList.{NameList}
use Rattle.names.specs.declared.names.Names.{Names}
use Rattle.names.specs.Names.{Bytes, held, named, is_file}

-- the names of a list in fixed memory
abbrev pub names_in : NameList → List Bytes
names_in l = held l.names.items

-- the names of the databases
abbrev pub names_of : Names → List Bytes
names_of s = names_in s.list

-- how many databases there are
abbrev pub how_many : Names → ℕ
how_many s = length (names_of s)

-- the name of the file of a number
abbrev pub file_of : Names → ℕ → Bytes
file_of s k = named (names_of s) k

-- the name of a database's journal
abbrev pub journal_file : Names → ℕ → Bytes
journal_file s d = file_of s (4 + d)

-- the name of the super-journal
abbrev pub super_file : Names → Bytes
super_file s = file_of s 8

-- with n databases there is a file of the number k, and it has the name w
abbrev pub FileNamed : (ℕ → Bytes) → ℕ → Bytes → ℕ → Type 0
FileNamed file n w k = (is_file n k ≡ true) × (file k ≡ w)

-- no file has the name w
abbrev pub NoFileNamed : (ℕ → Bytes) → ℕ → Bytes → Type 0
NoFileNamed file n w = (k : ℕ) → is_file n k ≡ true → file k ≢ w
