-- Calls of a card one after the other, up to the first that is refused.
use Rattle.std.specs.Prelude.{List, [], ◌∷◌, Some, None}
use Rattle.card.specs.declared.fault.Cause.{Cause}
use Rattle.card.specs.Meaning.{Meaning, Name}
use Rattle.card.specs.Calls.{Op, Called}

-- a call on the file of that name
pub record Act : Type 0 where
  pub name : Name
  pub op : Op

-- all calls were answered well, or the run stopped at one, with its cause
pub data End : Type 0 where
  through : End
  stopped : Act → Cause → End

pub data Runs {C : Type 0} (m : Meaning C) : List Act → C → End → C → Type 0 where
  end : {c : C} → Runs m [] c through c
  next : {a : Act} {acts : List Act} {c c₁ c₂ : C} {e : End} → Called m c a.name a.op None c₁ → Runs m acts c₁ e c₂ → Runs m (a ∷ acts) c e c₂
  stop : {a : Act} {acts : List Act} {c c₁ : C} {x : Cause} → Called m c a.name a.op (Some x) c₁ → Runs m (a ∷ acts) c (stopped a x) c₁
