-- The refusal in a result.
use Rattle.std.specs.Prelude.{Some, None, Ok, Err, Option, Result}
use Rattle.refusal.specs.declared.refusals.Refusal.{Refusal}

-- the refusal of an answer, if it is one
abbrev pub refused : {V : Type 0} → Result V Refusal → Option Refusal
refused (Ok v) = None
refused (Err e) = Some e
