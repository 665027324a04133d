-- What recovery finds before it changes anything, or why it refuses.
use Rattle.std.specs.Prelude.{◌≡◌, ℕ, ◌+◌, ◌<◌, ◌≤◌, ◌⊎◌, List, [], length, Some, None, Result, ◌≢◌, slice_index_or}
use Rattle.card.specs.Meaning.{Bytes, Name}
use Rattle.journal.specs.Format.{Journal}
use Rattle.journal.specs.Judged.{Judged}
use Rattle.super_journal.specs.Super.{LawfulNames, super_journal_bytes}
use Rattle.journal.specs.declared.verdict.Verdict.TheVariants.{Damaged}
use Rattle.refusal.specs.declared.refusals.Refusal.{Refusal}
use Rattle.survey.specs.declared.report.Found.{Found}
use Rattle.survey.specs.declared.report.Found.TheVariants.{None as FoundNone}
use Rattle.set_files.specs.Files.{Holds, Present}
use Rattle.set_files.specs.Looked.{Told}
use Rattle.survey.specs.Seen.{Seen, SeenAs, Hot, AllSeen, found_at}

-- every database is present
abbrev pub AllPresent : Holds → (ℕ → Name) → ℕ → Type 0
AllPresent files file n = (d : ℕ) → d < n → Present (files (file d))

-- the first database that is absent
pub record FirstAbsent (files : Holds) (file : ℕ → Name) (n d : ℕ) : Type 0 where
  pub within : d < n
  pub absent : files (file d) ≡ None
  pub before : (i : ℕ) → i < d → Present (files (file i))

-- the journal of the database d is damaged at a record
abbrev pub DamagedAt : Holds → (ℕ → Name) → ℕ → ℕ → Type 0
DamagedAt files file d k = (b : Bytes) × (files (file (4 + d)) ≡ Some b) × Judged b (Damaged k)

-- the journal of the database d is hot, and is this one
abbrev pub HotAt : Holds → (ℕ → Name) → ℕ → Journal → Type 0
HotAt files file d j = Hot files (files (file (4 + d))) j

-- each hot journal of the first n databases that names a super-journal names the set's
abbrev pub NamesOurs : Holds → (ℕ → Name) → ℕ → Type 0
NamesOurs files file n = (d : ℕ) (j : Journal) (w : Name) → d < n → HotAt files file d j → j.super ≡ Some w → w ≡ file 8

-- a hot journal names the set's super-journal
abbrev pub Asked : Holds → (ℕ → Name) → ℕ → Type 0
Asked files file n = (d : ℕ) × (j : Journal) × (d < n) × HotAt files file d j × (j.super ≡ Some (file 8))

-- the bytes of no list of names
abbrev pub NoNames : Bytes → Type 0
NoNames b = (ns : List Name) → LawfulNames ns → b ≢ super_journal_bytes ns

-- the name is that of a journal of the set
abbrev pub JournalName : (ℕ → Name) → ℕ → Name → Type 0
JournalName file n w = (i : ℕ) × (i < n) × (file (4 + i) ≡ w)

-- each name is that of a journal of the set, or its file is absent
abbrev pub AllFine : Holds → (ℕ → Name) → ℕ → List Name → Type 0
AllFine files file n ns = (i : ℕ) → i < length ns → JournalName file n (slice_index_or ns i []) ⊎ (files (slice_index_or ns i []) ≡ None)

-- a name is no journal's of the set, and its file is present
abbrev pub Stray : Holds → (ℕ → Name) → ℕ → List Name → Type 0
Stray files file n ns = (i : ℕ) × (i < length ns) × (JournalName file n (slice_index_or ns i []) → ⊥) × Present (files (slice_index_or ns i []))

-- the super-journal lists journals of the set, and else absent files
pub record Listed (files : Holds) (file : ℕ → Name) (n : ℕ) (b : Bytes) (ns : List Name) : Type 0 where
  pub lawful : LawfulNames ns
  pub bytes : b ≡ super_journal_bytes ns
  pub each : AllFine files file n ns

-- it lists a present file that is not a journal of the set
pub record Strays (files : Holds) (file : ℕ → Name) (n : ℕ) (b : Bytes) (ns : List Name) : Type 0 where
  pub lawful : LawfulNames ns
  pub bytes : b ≡ super_journal_bytes ns
  pub stray : Stray files file n ns

-- each journal is none, spent or hot, and no more is reported
pub record Reported (files : Holds) (file : ℕ → Name) (n : ℕ) (found : List Found) : Type 0 where
  pub seen : (d : ℕ) → d < n → (s : Seen) × SeenAs files file d s
  pub reported : (seen : ℕ → Seen) × AllSeen files file n found seen
  pub rest : (d : ℕ) → n ≤ d → d < 4 → found_at found d ≡ FoundNone

-- all is in order
pub record Good (files : Holds) (file : ℕ → Name) (n : ℕ) (found : List Found) : Type 0 where
  pub present : AllPresent files file n
  pub journals : Reported files file n found
  pub ours : NamesOurs files file n
  pub listed : Asked files file n → (b : Bytes) × (files (file 8) ≡ Some b) × ((ns : List Name) × Listed files file n b ns)

-- the first damaged journal
pub record DamagedJournal (files : Holds) (file : ℕ → Name) (n d k : ℕ) : Type 0 where
  pub within : d < n
  pub present : AllPresent files file n
  pub before : (i : ℕ) → i < d → (s : Seen) × SeenAs files file i s
  pub damaged : DamagedAt files file d k

-- a hot journal names the set's super-journal, and it is no list of names
pub record DamagedSuper (files : Holds) (file : ℕ → Name) (n : ℕ) : Type 0 where
  pub present : AllPresent files file n
  pub seen : (i : ℕ) → i < n → (s : Seen) × SeenAs files file i s
  pub ours : NamesOurs files file n
  pub asked : Asked files file n
  pub damaged : (b : Bytes) × (files (file 8) ≡ Some b) × NoNames b

-- the first hot journal that names another super-journal
pub record ForeignJournal (files : Holds) (file : ℕ → Name) (n d : ℕ) : Type 0 where
  pub within : d < n
  pub present : AllPresent files file n
  pub seen : (i : ℕ) → i < n → (s : Seen) × SeenAs files file i s
  pub before : NamesOurs files file d
  pub foreign : (j : Journal) × (w : Name) × HotAt files file d j × (j.super ≡ Some w) × (w ≢ file 8)

-- a hot journal names the set's super-journal, and it lists a file that is present and not of the set
pub record ForeignFile (files : Holds) (file : ℕ → Name) (n : ℕ) : Type 0 where
  pub present : AllPresent files file n
  pub seen : (i : ℕ) → i < n → (s : Seen) × SeenAs files file i s
  pub ours : NamesOurs files file n
  pub asked : Asked files file n
  pub foreign : (b : Bytes) × (files (file 8) ≡ Some b) × ((ns : List Name) × Strays files file n b ns)

abbrev pub Damage : Holds → (ℕ → Name) → ℕ → ℕ → ℕ → Type 0
Damage files file n f k = ((d : ℕ) × (f ≡ 4 + d) × DamagedJournal files file n d k) ⊎ ((f ≡ 8) × (k ≡ 0) × DamagedSuper files file n)

abbrev pub Stranger : Holds → (ℕ → Name) → ℕ → ℕ → Type 0
Stranger files file n f = ((d : ℕ) × (f ≡ 4 + d) × ForeignJournal files file n d) ⊎ ((f ≡ 9) × ForeignFile files file n)

-- what is found in the files, by the answer
abbrev pub Finds : Holds → (ℕ → Name) → ℕ → Result (List Found) Refusal → Type 0
Finds files file n r = Told r (Good files file n) (Damage files file n) (Stranger files file n) (FirstAbsent files file n)
