-- The files of a set, by number, and what is told of them.
-- 0 to 3 are the databases, 4 to 7 their journals, 8 the super-journal, 9 any other.
use Rattle.std.specs.Prelude.{◌≡◌, take, Some, None, Ok, Err, Option, Result}
use Rattle.card.specs.Meaning.{Bytes, Name}
use Rattle.card.specs.Calls.{overwrite}
use Rattle.journal.specs.Judged.{Judged}
use Rattle.journal.specs.OnCard.{journal_limit}
use Rattle.journal.specs.declared.verdict.Verdict.{Verdict}
use Rattle.refusal.specs.declared.fault.SetFault.{SetFault}

-- what each file holds
abbrev pub Holds : Type 0
Holds = Name → Option Bytes

abbrev pub Present : Option Bytes → Type 0
Present f = (b : Bytes) × (f ≡ Some b)

-- the verdict on a journal: none if it is absent; the buffer has what was read of it, and after a refusal what it had
abbrev pub ToldVerdict : Option Bytes → Bytes → Result (Option Verdict) SetFault → Bytes → Type 0
ToldVerdict f old (Ok None) new = (f ≡ None) × (new ≡ old)
ToldVerdict f old (Ok (Some v)) new = (b : Bytes) × (f ≡ Some b) × Judged b v × (new ≡ overwrite old 0 (take journal_limit b))
ToldVerdict f old (Err e) new = new ≡ old
