-- The calls on the two halves of a card's image in which power may fail: what each answers and leaves.
use Rattle.std.specs.Prelude.{◌≡◌, Bool, true, false, Some, None, Ok, Err, Option, Result}
use Rattle.card.specs.declared.fault.Cause.{Cause}
use Rattle.card.specs.declared.fault.Cause.TheVariants.{Power}
use Rattle.card.specs.Meaning.{Bytes, Name}
use Rattle.card.specs.Calls.{Op}
use Rattle.image.specs.Stored.{answer_of, refusal}
use Rattle.halves.specs.declared.kept.Kept.{Kept}
use Rattle.halves.specs.declared.kept.Kept.TheVariants.{Synced, Current, Mixed}
use Rattle.halves.specs.declared.both.Halves.{Halves}
use Rattle.halves.specs.Halves.{PairLeft, KeptAs}
use Rattle.halves.specs.Answers.{Answers}

-- the call before the loss: undone, or done if it is lawful and the image has room
abbrev pub BeforeLoss : Kept → Op → Name → Bytes → Bytes → Bytes → Bytes → Type 0
BeforeLoss Synced op n current synced mid mid-synced = (mid ≡ current) × (mid-synced ≡ synced)
BeforeLoss Current op n current synced mid mid-synced = PairLeft (answer_of op n current) op n current synced mid mid-synced
BeforeLoss Mixed op n current synced mid mid-synced = PairLeft (answer_of op n current) op n current synced mid mid-synced

-- a call with power on: answered as the image asks, or power is lost in it
abbrev pub Call : {V : Type 0} → Option Kept → Op → Name → Halves → Result V Cause → Halves → Type 0
Call None op n h r h' = Answers op n h r h'
Call (Some kept) op n h r h' =
    (refusal r ≡ Some Power)
    × (mid : Bytes) × (mid-synced : Bytes) × BeforeLoss kept op n h.current.now h.synced.now mid mid-synced × KeptAs kept mid mid-synced h'.current.now h'.synced.now

-- the loss of power itself
abbrev pub Lose : Option Kept → Halves → Result (Unit {0}) Cause → Halves → Type 0
Lose None h r h' = (r ≡ Ok tt) × (h' ≡ h)
Lose (Some kept) h r h' = (r ≡ Err Power) × KeptAs kept h.current.now h.synced.now h'.current.now h'.synced.now

-- only what was synced is kept, so that the call is left undone
abbrev pub is_undone : Option Kept → Bool
is_undone None = false
is_undone (Some Synced) = true
is_undone (Some Current) = false
is_undone (Some Mixed) = false

-- some work on the halves, unless it is left undone, and then the loss
abbrev pub Cut : (Halves → Result (Unit {0}) Cause → Halves → Type 0) → Option Kept → Halves → Result (Unit {0}) Cause → Halves → Type 0
Cut Work None h r h' = Work h r h'
Cut Work (Some Synced) h r h' = Lose (Some Synced) h r h'
Cut Work (Some Current) h r h' = (a : Result (Unit {0}) Cause) × (mid : Halves) × Work h a mid × Lose (Some Current) mid r h'
Cut Work (Some Mixed) h r h' = (a : Result (Unit {0}) Cause) × (mid : Halves) × Work h a mid × Lose (Some Mixed) mid r h'
