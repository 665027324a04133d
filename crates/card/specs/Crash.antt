-- Reasoning about power failure: what is true of a file whatever remains of it, and the law that
-- lets a proof carry it over any call, however the call is answered.
use Rattle.std.specs.Prelude.{◌≡◌, ◌⊎◌, List, [], ◌∷◌, None, Option, ◌≢◌}
use Rattle.card.specs.declared.fault.Cause.{Cause}
use Rattle.card.specs.Meaning.{Meaning, May, Bytes, Name}
use Rattle.card.specs.Calls.{Op, Could, Called, tested}
use Rattle.card.specs.Runs.{Act, End, Runs}

-- whatever the file n may be after a power failure, P holds of it
abbrev pub Every : {C : Type 0} → Meaning C → C → Name → (Option Bytes → Type 0) → Type 0
Every m c n P = (o : Option Bytes) → May m c n o → P o

-- no act of the list is on the file k
abbrev pub Leaves : Name → List Act → Type 0
Leaves k [] = Unit {0}
Leaves k (a ∷ acts) = (k ≢ a.name) × Leaves k acts

-- What a file may be after a call could remain before it, or, of the call's own file, after its work;
-- what a file holds now may remain; and a run leaves the files alone that none of its acts is on.
pub record CrashLaw {C : Type 0} (m : Meaning C) : Type 0 where
  pub held : (c : C) (n : Name) → May m c n (m.holds c n)
  pub other :
      (c c' : C) (n k : Name) (op : Op) (a : Option Cause) (o : Option Bytes) → (k ≢ n) → Called m c n op a c' → May m c' k o → May m c k o
  pub own :
      (c c' : C) (n : Name) (op : Op) (a : Option Cause) (o : Option Bytes) → Called m c n op a c' → May m c' n o →
      May m c n o ⊎ ((tested op n (m.holds c n) ≡ None) × Could op (May m c n) (m.holds c n) o)
  pub run : (c c' : C) (k : Name) (acts : List Act) (e : End) (o : Option Bytes) → Leaves k acts → Runs m acts c e c' → May m c' k o → May m c k o
