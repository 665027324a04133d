-- A journal on a card: the calls that store it.
use Rattle.std.specs.Prelude.{ℕ, List, [], ◌∷◌}
use Rattle.card.specs.Meaning.{Bytes, Name}
use Rattle.card.specs.Calls.{write, sync}
use Rattle.card.specs.Runs.{Act}
use Rattle.card.specs.Numbers.{number_bytes}

-- the whole journal, made safe, and then its count, made safe
abbrev pub store_acts : Name → Bytes → ℕ → List Act
store_acts n b count =
    record { name = n; op = write 0 b } ∷ record { name = n; op = sync } ∷ record { name = n; op = write 8 (number_bytes count) } ∷ record { name = n; op = sync } ∷ []
