-- An answer of an image as the answer of a card's call.
use Rattle.std.specs.Prelude.{◌≡◌, ℕ, Ok, Err, Result}
use Rattle.card.specs.declared.fault.Cause.{Cause}
use Rattle.card.specs.declared.fault.CardCall.{CardCall}
use Rattle.card.specs.declared.fault.CardFault.{CardFault}

-- a cause as the fault of a call
abbrev pub blamed : {V : Type 0} → CardCall → ℕ → Result V Cause → Result V CardFault
blamed call origin (Ok v) = Ok v
blamed call origin (Err x) = Err (record { cause = x; call = call; origin = origin })

-- a fault carries this origin
abbrev pub FromOrigin : {V : Type 0} → ℕ → Result V CardFault → Type 0
FromOrigin origin (Ok v) = Unit {0}
FromOrigin origin (Err f) = f.origin ≡ origin
