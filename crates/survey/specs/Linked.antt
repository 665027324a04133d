-- Looks at one journal: what it is, and which super-journal a hot one names.
use Rattle.std.specs.Prelude.{◌≡◌, ℕ, ◌<◌, ◌≤◌, ◌⊎◌, List, length, Some, None, Option, ◌≢◌, slice_index_or}
use Rattle.card.specs.Meaning.{Name}
use Rattle.survey.specs.declared.report.Found.{Found}
use Rattle.survey.specs.declared.report.Found.TheVariants.{None as FoundNone, Spent as FoundSpent, Hot as FoundHot}
use Rattle.survey.specs.declared.look.Link.{Link}
use Rattle.survey.specs.declared.look.Link.TheVariants.{Ours as LinkOurs, Other as LinkOther}
use Rattle.survey.specs.declared.look.Look.{Look}
use Rattle.survey.specs.declared.look.Look.TheVariants.{Absent as LookAbsent, Spent as LookSpent, Hot as LookHot}
use Rattle.set_files.specs.Files.{Holds}
use Rattle.survey.specs.Seen.{Seen, none, spent, hot, SeenAs}

-- as it is reported
abbrev pub found_of : Look → Found
found_of LookAbsent = FoundNone
found_of LookSpent = FoundSpent
found_of (LookHot k l) = FoundHot k

-- which super-journal it names, if it is hot and names one
abbrev pub link_of : Look → Option Link
link_of LookAbsent = None
link_of LookSpent = None
link_of (LookHot k l) = l

-- a name is told as the set's super-journal's, or as another's
abbrev pub LinkAs : (ℕ → Name) → Name → Link → Type 0
LinkAs file w LinkOurs = w ≡ file 8
LinkAs file w LinkOther = w ≢ file 8

abbrev pub LinkBy : (ℕ → Name) → Option Name → Option Link → Type 0
LinkBy file None l = l ≡ None
LinkBy file (Some w) None = ⊥
LinkBy file (Some w) (Some l) = LinkAs file w l

-- what is told of a journal, by what it is
abbrev pub LookOf : (ℕ → Name) → Seen → Look → Type 0
LookOf file none x = x ≡ LookAbsent
LookOf file spent x = x ≡ LookSpent
LookOf file (hot j) x = (l : Option Link) × (x ≡ LookHot (length j.records) l) × LinkBy file j.super l

-- a sound journal of k records that names w is spent if that is absent, else hot
abbrev pub SuperLook : Holds → (ℕ → Name) → ℕ → Name → Look → Type 0
SuperLook files file k w x = ((files w ≡ None) × (x ≡ LookSpent)) ⊎ ((files w ≢ None) × ((l : Link) × (x ≡ LookHot k (Some l)) × LinkAs file w l))

-- what was found of the journal of the database d
abbrev pub LookedAs : Holds → (ℕ → Name) → ℕ → Look → Type 0
LookedAs files file d x = (s : Seen) × SeenAs files file d s × LookOf file s x

abbrev pub look_at : List Look → ℕ → Look
look_at looks d = slice_index_or looks d LookAbsent

-- what was found of the first n journals
pub record AllLooked (files : Holds) (file : ℕ → Name) (n : ℕ) (looks : List Look) : Type 0 where
  pub each : (d : ℕ) → d < n → LookedAs files file d (look_at looks d)
  pub rest : (d : ℕ) → n ≤ d → d < 4 → look_at looks d ≡ LookAbsent
