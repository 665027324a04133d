-- The super-journal: the names of the journals that one commit makes, each ended by a zero byte.
use Rattle.std.specs.Prelude.{ℕ, ◌<◌, ◌≤◌, List, [], ◌∷◌, ◌++◌, length, ◌≢◌, slice_index}
use Rattle.std.specs.List.{AllByRecursion}
use Rattle.card.specs.Meaning.{Bytes, Name}
use Rattle.card.specs.Calls.{name_limit}

abbrev pub name_count_limit : ℕ
name_count_limit = 4

unfoldable pub super_journal_bytes : List Name → Bytes
super_journal_bytes [] = []
super_journal_bytes (n ∷ ns) = n ++ (0 ∷ super_journal_bytes ns)

-- no byte of it is zero
abbrev pub Unbroken : Bytes → Type 0
Unbroken n = (k : ℕ) → k < length n → slice_index n k ≢ 0

-- a name that can be told by its end
pub record Plain (n : Name) : Type 0 where
  pub some : 1 ≤ length n
  pub short : length n ≤ name_limit
  pub unbroken : Unbroken n

pub record LawfulNames (ns : List Name) : Type 0 where
  pub some : 1 ≤ length ns
  pub few : length ns ≤ name_count_limit
  pub each : AllByRecursion Plain ns
