-- A file of which a power failure cannot take anything.
use Rattle.std.specs.Prelude.{◌≡◌, Some}
use Rattle.card.specs.Meaning.{Meaning, Bytes, Name}

-- nothing may remain of the file but what it holds
abbrev pub Safe : {C : Type 0} → Meaning C → C → Name → Type 0
Safe m c k = (b : Bytes) → m.remains c k b → m.holds c k ≡ Some b
