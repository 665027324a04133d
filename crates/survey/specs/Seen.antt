-- What a database's journal is when power comes back.
use Rattle.std.specs.Prelude.{◌≡◌, ℕ, ◌+◌, ◌<◌, ◌⊎◌, List, length, Some, None, Option, ◌≢◌, slice_index_or}
use Rattle.card.specs.Meaning.{Bytes, Name}
use Rattle.journal.specs.Format.{Journal, LawfulJournal, full}
use Rattle.journal.specs.Judged.{Judged}
use Rattle.journal.specs.declared.verdict.Verdict.TheVariants.{Spent}
use Rattle.survey.specs.declared.report.Found.{Found}
use Rattle.survey.specs.declared.report.Found.TheVariants.{None as FoundNone, Spent as FoundSpent, Hot as FoundHot}
use Rattle.set_files.specs.Files.{Holds}

-- absent, of no more use, or to be played back
pub data Seen : Type 0 where
  none : Seen
  spent : Seen
  hot : Journal → Seen

-- a sound journal whose super-journal is absent
abbrev pub Orphan : Holds → Bytes → Type 0
Orphan files b = (j : Journal) × LawfulJournal j × (b ≡ full j) × ((w : Name) × (j.super ≡ Some w) × (files w ≡ None))

-- a sound journal, with its super-journal if it names one
pub record Hot (files : Holds) (f : Option Bytes) (j : Journal) : Type 0 where
  pub lawful : LawfulJournal j
  pub held : f ≡ Some (full j)
  pub present : (w : Name) → j.super ≡ Some w → files w ≢ None

-- what the journal of the database d is
abbrev pub SeenAs : Holds → (ℕ → Name) → ℕ → Seen → Type 0
SeenAs files file d none = files (file (4 + d)) ≡ None
SeenAs files file d spent = (b : Bytes) × (files (file (4 + d)) ≡ Some b) × (Judged b Spent ⊎ Orphan files b)
SeenAs files file d (hot j) = Hot files (files (file (4 + d))) j

-- as it is reported
abbrev pub FoundOf : Seen → Found → Type 0
FoundOf none FoundNone = Unit {0}
FoundOf none FoundSpent = ⊥
FoundOf none (FoundHot k) = ⊥
FoundOf spent FoundNone = ⊥
FoundOf spent FoundSpent = Unit {0}
FoundOf spent (FoundHot k) = ⊥
FoundOf (hot j) FoundNone = ⊥
FoundOf (hot j) FoundSpent = ⊥
FoundOf (hot j) (FoundHot k) = k ≡ length j.records

-- what is reported of the database d
abbrev pub found_at : List Found → ℕ → Found
found_at found d = slice_index_or found d FoundNone

-- what the journals are, and as they are reported
abbrev pub AllSeen : Holds → (ℕ → Name) → ℕ → List Found → (ℕ → Seen) → Type 0
AllSeen files file n found seen = (d : ℕ) → d < n → SeenAs files file d (seen d) × FoundOf (seen d) (found_at found d)

-- a journal to be played back is there
abbrev pub Stands : Holds → (ℕ → Name) → ℕ → Seen → Type 0
Stands files file d none = Unit {0}
Stands files file d spent = Unit {0}
Stands files file d (hot j) = LawfulJournal j × (files (file (4 + d)) ≡ Some (full j))
