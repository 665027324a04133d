-- The looks that a survey makes, in order, by what the files hold.
use Rattle.std.specs.Prelude.{◌≡◌, ℕ, ◌+◌, ◌<◌, cond, ◌⊎◌, List, [], ◌∷◌, ◌++◌, length, Some, None, Result, nat_le, slice_index_or}
use Rattle.card.specs.Meaning.{Meaning, Bytes, Name}
use Rattle.card.specs.Calls.{length_of, read}
use Rattle.journal.specs.Format.{Journal, LawfulJournal, full}
use Rattle.journal.specs.OnCard.{judge_acts, journal_limit}
use Rattle.super_journal.specs.Super.{LawfulNames, super_journal_bytes}
use Rattle.refusal.specs.declared.step.Step.TheVariants.{R1}
use Rattle.refusal.specs.declared.refusals.Refusal.{Refusal}
use Rattle.names.specs.declared.names.Names.{Names}
use Rattle.names.specs.Files.{how_many, file_of}
use Rattle.steps.specs.Tasks.{Task, Went, task, tasks, at, up_to}
use Rattle.set_files.specs.Files.{Holds, Present}
use Rattle.set_files.specs.Looked.{FileTold, dropped}
use Rattle.survey.specs.Finds.{DamagedAt, NamesOurs, Asked, NoNames, JournalName}

-- so many of n: up to and with the first that ends it, or all where none does
abbrev pub Until : (ℕ → Type 0) → ℕ → ℕ → Type 0
Until ends n count =
    ((count ≡ n) × ((i : ℕ) → i < n → ends i → ⊥)) ⊎ ((d : ℕ) × (count ≡ d + 1) × (d < n) × ends d × ((i : ℕ) → i < d → ends i → ⊥))

-- the parts of n, in order, up to and with the first that ends it
pub record InOrder (Part : ℕ → List Task → Type 0) (ends : ℕ → Type 0) (n : ℕ) (list : List Task) : Type 0 where
  pub parts : ℕ → List Task
  pub count : ℕ
  pub until : Until ends n count
  pub each : (i : ℕ) → i < count → Part i (parts i)
  pub is : list ≡ up_to parts count

-- first looks, and others after them, if those found nothing that ends the survey
pub record Then (First : List Task → Type 0) (Ends : Type 0) (Rest : List Task → Type 0) (list : List Task) : Type 0 where
  pub first : List Task
  pub rest : List Task
  pub looks : First first
  pub after : (Ends × (rest ≡ [])) ⊎ ((Ends → ⊥) × Rest rest)
  pub is : list ≡ first ++ rest

-- any list of looks that P has is the one that was gone through, up to the first that the card refused
abbrev pub AskedFor : {C V : Type 0} → Meaning C → (List Task → Type 0) → C → Result V Refusal → C → Type 0
AskedFor m P c r c' = (list : List Task) → P list → Went m list c (dropped r) c'

-- the length of a file, told with its number
abbrev pub length_look : ℕ → Name → List Task
length_look k w = task (at R1 k) w length_of ∷ []

-- the super-journal's length, and one read of all of it, if it is not longer than a journal
abbrev pub super_looks : Name → Bytes → List Task
super_looks w b = length_look 8 w ++ cond (nat_le (length b) journal_limit) (task (at R1 8) w (read 0 (length b)) ∷ []) []

-- the length of the file of a name, told as the set's that has the name, or as another's
abbrev pub AsksNamed : (ℕ → Name) → ℕ → Name → List Task → Type 0
AsksNamed file n w list = (k : ℕ) × FileTold file n w k × (list ≡ length_look k w)

module _ (files : Holds) (file : ℕ → Name) where
  -- the database is absent
  abbrev pub Absent : ℕ → Type 0
  Absent d = files (file d) ≡ None

  -- its length is asked for
  abbrev pub AsksDatabase : ℕ → List Task → Type 0
  AsksDatabase d list = list ≡ length_look d (file d)

  -- its journal is damaged
  abbrev pub Damaged : ℕ → Type 0
  Damaged d = (k : ℕ) × DamagedAt files file d k

  -- its journal is judged
  abbrev pub judge_looks : ℕ → List Task
  judge_looks d = tasks (at R1 (4 + d)) (judge_acts (file (4 + d)) (files (file (4 + d))))

  -- its journal is a sound one that names w
  abbrev pub SoundNaming : ℕ → Name → Type 0
  SoundNaming d w = (j : Journal) × LawfulJournal j × (files (file (4 + d)) ≡ Some (full j)) × (j.super ≡ Some w)

  module _ (n : ℕ) where
    -- the journal is judged, and if it is sound and names a super-journal, the length of that is asked for
    abbrev pub AsksJournal : ℕ → List Task → Type 0
    AsksJournal d list =
        (((w : Name) → SoundNaming d w → ⊥) × (list ≡ judge_looks d))
        ⊎ ((w : Name) × (rest : List Task) × SoundNaming d w × AsksNamed file n w rest × (list ≡ judge_looks d ++ rest))

    -- a listed file that is no journal of the set's, and is there
    abbrev pub StrayName : Name → Type 0
    StrayName w = (JournalName file n w → ⊥) × Present (files w)

    -- the length of a listed file is asked for, if it is no journal of the set's
    abbrev pub AsksListed : Name → List Task → Type 0
    AsksListed w list = (JournalName file n w × (list ≡ [])) ⊎ ((JournalName file n w → ⊥) × AsksNamed file n w list)

    -- the listed files in order, up to and with the first stray one
    abbrev pub AsksNames : List Name → List Task → Type 0
    AsksNames ns = InOrder (λ i. AsksListed (slice_index_or ns i [])) (λ i. StrayName (slice_index_or ns i [])) (length ns)

    -- the files that these bytes list; none if they are no list of names
    abbrev pub AsksList : Bytes → List Task → Type 0
    AsksList b list = (NoNames b × (list ≡ [])) ⊎ ((ns : List Name) × LawfulNames ns × (b ≡ super_journal_bytes ns) × AsksNames ns list)

    -- the super-journal, and the files that it lists
    abbrev pub AsksSuper : List Task → Type 0
    AsksSuper list = (b : Bytes) × (rest : List Task) × (files (file 8) ≡ Some b) × AsksList b rest × (list ≡ super_looks (file 8) b ++ rest)

    -- the databases in order, up to and with the first absent one
    abbrev pub AsksDatabases : List Task → Type 0
    AsksDatabases = InOrder AsksDatabase Absent n

    -- the journals in order, up to and with the first damaged one
    abbrev pub AsksJournals : List Task → Type 0
    AsksJournals = InOrder AsksJournal Damaged n

    -- it is so of one of the first n
    abbrev pub Any : (ℕ → Type 0) → Type 0
    Any P = (d : ℕ) × (d < n) × P d

    -- a hot journal names the set's super-journal, and none another
    abbrev pub OursNamed : Type 0
    OursNamed = NamesOurs files file n × Asked files file n

    -- then the super-journal is looked at
    abbrev pub AsksOurs : List Task → Type 0
    AsksOurs list = ((OursNamed → ⊥) × (list ≡ [])) ⊎ (OursNamed × AsksSuper list)

    -- the journals; if none is damaged, the super-journal
    abbrev pub AfterDatabases : List Task → Type 0
    AfterDatabases = Then AsksJournals (Any Damaged) AsksOurs

    -- the databases; if all are there, what comes after them
    abbrev pub Asks : List Task → Type 0
    Asks = Then AsksDatabases (Any Absent) AfterDatabases

-- the files ask for a list of looks, and those of a set for one alone
pub record AsksLaw : Type 0 where
  pub some : (files : Holds) (file : ℕ → Name) (n : ℕ) → ((list : List Task) → Asks files file n list → ⊥) → ⊥
  pub one : (s : Names) (files : Holds) (a b : List Task) → Asks files (file_of s) (how_many s) a → Asks files (file_of s) (how_many s) b → a ≡ b
