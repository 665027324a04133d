-- What the two halves answer a call, and what they are after it.
use Rattle.std.specs.Prelude.{Result}
use Rattle.card.specs.declared.fault.Cause.{Cause}
use Rattle.card.specs.Meaning.{Name}
use Rattle.card.specs.Calls.{Op}
use Rattle.halves.specs.declared.both.Halves.{Halves}
use Rattle.halves.specs.Halves.{Paired}

abbrev pub Answers : {V : Type 0} → Op → Name → Halves → Result V Cause → Halves → Type 0
Answers op n h r h' = Paired op n h.current.now h.synced.now r h'.current.now h'.synced.now
