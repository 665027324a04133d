-- A journal on a card: the calls that judge it, and what their answers tell.
use Rattle.std.specs.Prelude.{◌≡◌, ℕ, min, List, [], ◌∷◌, length, take, Some, None, Ok, Err, Option, Result}
use Rattle.card.specs.Meaning.{Meaning, Bytes, Name}
use Rattle.card.specs.Calls.{length_of, read, call_of, overwrite}
use Rattle.card.specs.Runs.{Act, through, stopped, Runs}
use Rattle.journal.specs.Judged.{Judged}
use Rattle.journal.specs.declared.verdict.Verdict.{Verdict}
use Rattle.journal.specs.declared.fault.JournalFault.{JournalFault}

-- the most bytes that a journal has
abbrev pub journal_limit : ℕ
journal_limit = 17724

-- the file's length, and of a present file one read of as much as a journal can be
abbrev pub front_act : Name → Option Bytes → List Act
front_act n None = []
front_act n (Some b) = record { name = n; op = read 0 (min (length b) journal_limit) } ∷ []

abbrev pub judge_acts : Name → Option Bytes → List Act
judge_acts n f = record { name = n; op = length_of } ∷ front_act n f

-- the acts were done up to the first that the card refused; the fault carries the card's whole, and no record
abbrev pub Ran : {C V : Type 0} → Meaning C → List Act → C → Result V JournalFault → C → Type 0
Ran m acts c (Ok v) c' = Runs m acts c through c'
Ran m acts c (Err f) c' =
    (a : Act) × Runs m acts c (stopped a f.card.cause) c' × (f.card.call ≡ call_of a.op) × m.origins c f.card.origin × (f.«record» ≡ 0)

pub record Acted {C V : Type 0} (m : Meaning C) (acts : List Act) (c : C) (r : Result V JournalFault) (c' : C) : Type 0 where
  pub ran : Ran m acts c r c'
  pub origins : (o : ℕ) → m.origins c' o → m.origins c o

-- the verdict on a file: none if it is absent; the buffer has what was read of it, and after a refusal what it had
abbrev pub ToldVerdict : Option Bytes → Bytes → Result (Option Verdict) JournalFault → Bytes → Type 0
ToldVerdict f old (Ok None) new = (f ≡ None) × (new ≡ old)
ToldVerdict f old (Ok (Some v)) new = (b : Bytes) × (f ≡ Some b) × Judged b v × (new ≡ overwrite old 0 (take journal_limit b))
ToldVerdict f old (Err e) new = new ≡ old
