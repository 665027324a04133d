-- The files of two small lists of names, for readers of the definitions.
use Rattle.std.specs.Prelude.{◌≡◌, true, false, List, [], ◌∷◌, map}
use Rattle.names.specs.Names.{Bytes, is_file, named, Alike, Apart}

-- a, a-journal and a-mj
abbrev pub a : Bytes
a = 97 ∷ []

abbrev pub a_journal : Bytes
a_journal = 97 ∷ 45 ∷ 106 ∷ 111 ∷ 117 ∷ 114 ∷ 110 ∷ 97 ∷ 108 ∷ []

abbrev pub a_mj : Bytes
a_mj = 97 ∷ 45 ∷ 109 ∷ 106 ∷ []

-- b and b-journal
abbrev pub b : Bytes
b = 98 ∷ []

abbrev pub b_journal : Bytes
b_journal = 98 ∷ 45 ∷ 106 ∷ 111 ∷ 117 ∷ 114 ∷ 110 ∷ 97 ∷ 108 ∷ []

abbrev pub a_and_b : List Bytes
a_and_b = a ∷ b ∷ []

pub record Examples : Type 0 where
  -- with two databases the files are 0 and 1, 4 and 5, and 8
  pub files : map (is_file 2) (0 ∷ 1 ∷ 2 ∷ 3 ∷ 4 ∷ 5 ∷ 6 ∷ 7 ∷ 8 ∷ 9 ∷ []) ≡ true ∷ true ∷ false ∷ false ∷ true ∷ true ∷ false ∷ false ∷ true ∷ false ∷ []
  -- the databases, their journals, and the super-journal, which goes by the first database's name
  pub first : named a_and_b 0 ≡ a
  pub second : named a_and_b 1 ≡ b
  pub first_journal : named a_and_b 4 ≡ a_journal
  pub second_journal : named a_and_b 5 ≡ b_journal
  pub super_journal : named a_and_b 8 ≡ a_mj
  -- a file that is not there has the empty name
  pub absent : named a_and_b 2 ≡ []
  -- their names all differ
  pub apart : Apart a_and_b
  -- a database named as the other one's journal
  pub alike : Alike (a ∷ a_journal ∷ []) 1 4
