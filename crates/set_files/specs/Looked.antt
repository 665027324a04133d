-- Answers of a part of recovery, and a part that only looks at files.
use Rattle.std.specs.Prelude.{◌≡◌, ℕ, ◌⊎◌, List, Some, Ok, Err, Result}
use Rattle.std.specs.List.{AllByRecursion}
use Rattle.card.specs.Meaning.{Meaning, Name}
use Rattle.refusal.specs.declared.step.Step.{Step}
use Rattle.refusal.specs.declared.fault.SetFault.{SetFault}
use Rattle.refusal.specs.declared.refusals.Refusal.{Refusal}
use Rattle.refusal.specs.declared.refusals.Refusal.TheVariants.{Damaged, Foreign, Database, Card}
use Rattle.steps.specs.Tasks.{Task, Looks, Went}
use Rattle.names.specs.declared.names.Names.{Names}
use Rattle.names.specs.Files.{file_of, how_many, FileNamed, NoFileNamed}

-- an answer without its value
abbrev pub ended : {V : Type 0} → Result V SetFault → Result (Unit {0}) SetFault
ended (Ok v) = Ok tt
ended (Err f) = Err f

-- how the card's calls ended: only a fault of the card stops them, and what else an answer says is dropped
abbrev pub stop_of : Refusal → Result (Unit {0}) SetFault
stop_of (Card f) = Err f
stop_of _ = Ok tt

abbrev pub dropped : {V : Type 0} → Result V Refusal → Result (Unit {0}) SetFault
dropped (Ok v) = Ok tt
dropped (Err e) = stop_of e

-- what a refusal says, by what damaged, foreign and bad files mean; no other refusal is given but the card's
abbrev pub Says : Refusal → (ℕ → ℕ → Type 0) → (ℕ → Type 0) → (ℕ → Type 0) → Type 0
Says (Damaged f k) damaged foreign bad = damaged f k
Says (Foreign f) damaged foreign bad = foreign f
Says (Database d) damaged foreign bad = bad d
Says (Card f) damaged foreign bad = Unit {0}
Says _ damaged foreign bad = ⊥

-- what an answer says
abbrev pub Told : {V : Type 0} → Result V Refusal → (V → Type 0) → (ℕ → ℕ → Type 0) → (ℕ → Type 0) → (ℕ → Type 0) → Type 0
Told (Ok v) good damaged foreign bad = good v
Told (Err e) good damaged foreign bad = Says e damaged foreign bad

-- never said
abbrev pub never : ℕ → Type 0
never k = ⊥

abbrev pub never₂ : ℕ → ℕ → Type 0
never₂ f k = ⊥

-- the file that is told for a name: the set's that has it, or 9 where none of the set's has it
abbrev pub FileTold : (ℕ → Name) → ℕ → Name → ℕ → Type 0
FileTold file n w k = FileNamed file n w k ⊎ ((k ≡ 9) × NoFileNamed file n w)

-- a call that looks at a file, in a step, told as the set's file or another
pub record Looking (step : Step) (file : ℕ → Name) (n : ℕ) (t : Task) : Type 0 where
  pub in_step : t.site.step ≡ Some step
  pub no_record : t.site.«record» ≡ 0
  pub looks : Looks t.act.op
  pub named : FileTold file n t.act.name t.site.file

-- calls of a step that only look, done up to the first that the card refuses
pub record Looked {C : Type 0} (m : Meaning C) (step : Step) (file : ℕ → Name) (n : ℕ) (c : C) (r : Result (Unit {0}) SetFault) (c' : C) : Type 0 where
  pub list : List Task
  pub each : AllByRecursion (Looking step file n) list
  pub went : Went m list c r c'

-- a part of a recovery that only looks at files
abbrev pub OnlyLooked : {C V : Type 0} → Meaning C → Step → Names → C → Result V Refusal → C → Type 0
OnlyLooked m step names c r c' = Looked m step (file_of names) (how_many names) c (dropped r) c'
