-- When a list of names is refused, and for which cause: the tests go in the order of their numbers.
use Rattle.std.specs.Prelude.{◌≡◌, ℕ, ◌<◌, Bool, true, false, List, length}
use Rattle.refusal.specs.declared.refusals.Refusal.{Refusal}
use Rattle.refusal.specs.declared.refusals.Refusal.TheVariants.{NameCount, NameLength, NameByte, NamesEqual}
use Rattle.names.specs.Names.{Bytes, Each, count_ok, length_ok, bytes_ok, listed, Alike, Apart}

-- the first name of which a test is false
pub record FirstBad (good : Bytes → Bool) (names : List Bytes) (i : ℕ) : Type 0 where
  pub within : i < length names
  pub bad : good (listed names i) ≡ false
  pub before : (j : ℕ) → j < i → good (listed names j) ≡ true

-- what a refusal of a list says of its names; a list is refused for no other cause
abbrev pub Refused : Refusal → List Bytes → Type 0
Refused NameCount names = count_ok (length names) ≡ false
Refused (NameLength i) names = (count_ok (length names) ≡ true) × FirstBad length_ok names i
Refused (NameByte i) names = (count_ok (length names) ≡ true) × Each length_ok names × FirstBad bytes_ok names i
Refused NamesEqual names =
    (count_ok (length names) ≡ true) × Each length_ok names × Each bytes_ok names × ((j : ℕ) × ((k : ℕ) × Alike names j k))
Refused _ names = ⊥

-- a list that passes every test, and is held as it was given
pub record Checked (names : List Bytes) (kept : List Bytes) : Type 0 where
  pub held : kept ≡ names
  pub count_ok : count_ok (length names) ≡ true
  pub lengths : Each length_ok names
  pub bytes : Each bytes_ok names
  pub apart : Apart names
