-- The card calls of a commit or a recovery: a task is a call and where it stands. A list of tasks is
-- done in order up to the first that the card refuses, and the fault then tells that task.
use Rattle.std.specs.Prelude.{◌≡◌, ℕ, zero, suc, List, [], ◌∷◌, ◌++◌, map, length, Some, Ok, Err, Option, Result}
use Rattle.card.specs.declared.fault.Cause.{Cause}
use Rattle.card.specs.declared.fault.CardFault.{CardFault}
use Rattle.card.specs.Meaning.{Meaning, Bytes, Name}
use Rattle.card.specs.Calls.{Op, length_of, read, create, write, set_length, sync, delete, Called, call_of, length_told, part_of}
use Rattle.card.specs.Runs.{Act, through, Runs}
use Rattle.journal.specs.declared.fault.JournalFault.{JournalFault}
use Rattle.refusal.specs.declared.fault.SetFault.{SetFault}
use Rattle.refusal.specs.declared.step.Step.{Step}
use Rattle.steps.specs.declared.site.Site.{Site}

-- a file, in a step
abbrev pub at : Step → ℕ → Site
at step file = record { step = Some step; file = file; «record» = 0 }

-- the same, for a page record
abbrev pub at_record : Step → ℕ → ℕ → Site
at_record step file k = record { step = Some step; file = file; «record» = k }

pub record Task : Type 0 where
  pub site : Site
  pub act : Act

abbrev pub task : Site → Name → Op → Task
task s n op = record { site = s; act = record { name = n; op = op } }

-- acts that all stand at one site
abbrev pub tasks : Site → List Act → List Task
tasks s list = map (λ a. record { site = s; act = a }) list

abbrev pub acts : List Task → List Act
acts ts = map (λ t. t.act) ts

-- the lists of the indices below n, one after the other
unfoldable pub up_to : (ℕ → List Task) → ℕ → List Task
up_to f zero = []
up_to f (suc k) = up_to f k ++ f k

-- a call that only looks
abbrev pub Looks : Op → Type 0
Looks length_of = Unit {0}
Looks (read place count) = Unit {0}
Looks create = ⊥
Looks (write place bytes) = ⊥
Looks (set_length n) = ⊥
Looks sync = ⊥
Looks delete = ⊥

-- what the journal's part answered, told with a site
abbrev pub told_journal : {V : Type 0} → Site → Result V JournalFault → Result V SetFault
told_journal s (Ok v) = Ok v
told_journal s (Err f) = Err (record { journal = record { card = f.card; «record» = s.«record» }; step = s.step; file = s.file })

-- what the card answered, told with a site
abbrev pub told_card : {V : Type 0} → Site → Result V CardFault → Result V SetFault
told_card s (Ok v) = Ok v
told_card s (Err f) = Err (record { journal = record { card = f; «record» = s.«record» }; step = s.step; file = s.file })

-- the fault names the task: its step, its file, its page record and its call
pub record Tells (t : Task) (f : SetFault) : Type 0 where
  pub step : f.step ≡ t.site.step
  pub file : f.file ≡ t.site.file
  pub entry : f.journal.«record» ≡ t.site.«record»
  pub call : f.journal.card.call ≡ call_of t.act.op

module _ {C : Type 0} (m : Meaning C) where
  -- the tasks before t were answered well, and t was refused
  pub record Stopped (ts : List Task) (c : C) (t : Task) (x : Cause) (c' : C) : Type 0 where
    pub before : List Task
    pub after : List Task
    pub here : C
    pub split : ts ≡ before ++ (t ∷ after)
    pub ran : Runs m (acts before) c through here
    pub refused : Called m here t.act.name t.act.op (Some x) c'

  -- all tasks were answered well; or one was refused, and the fault is its
  abbrev pub Ended : {V : Type 0} → List Task → C → Result V SetFault → C → Type 0
  Ended ts c (Ok v) c' = Runs m (acts ts) c through c'
  Ended ts c (Err f) c' = (t : Task) × Stopped ts c t f.journal.card.cause c' × Tells t f × m.origins c f.journal.card.origin

  pub record Went {V : Type 0} (ts : List Task) (c : C) (r : Result V SetFault) (c' : C) : Type 0 where
    pub ended : Ended ts c r c'
    pub origins : (o : ℕ) → m.origins c' o → m.origins c o

-- what a file's length is told as
abbrev pub ToldLength : Option Bytes → Result (Option ℕ) SetFault → Type 0
ToldLength f (Ok told) = told ≡ length_told f
ToldLength f (Err e) = Unit {0}

-- what a buffer holds after a read: the part of the file, or, after a refusal, what it held
abbrev pub ToldBytes : Option Bytes → ℕ → Bytes → Result (Unit {0}) SetFault → Bytes → Type 0
ToldBytes f place old (Ok u) new = new ≡ part_of f place (length old)
ToldBytes f place old (Err e) new = new ≡ old
