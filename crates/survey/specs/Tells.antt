-- What each part of a survey tells of a set's files, as the card held them.
use Rattle.std.specs.Prelude.{◌≡◌, ℕ, ◌+◌, ◌<◌, ◌⊎◌, List, None, Some, Result}
use Rattle.card.specs.Meaning.{Meaning, Bytes, Name}
use Rattle.names.specs.declared.names.Names.{Names}
use Rattle.names.specs.Files.{how_many, file_of, super_file}
use Rattle.refusal.specs.declared.refusals.Refusal.{Refusal}
use Rattle.set_files.specs.Files.{Holds, Present}
use Rattle.set_files.specs.Looked.{Told, never, never₂}
use Rattle.survey.specs.declared.look.Look.{Look}
use Rattle.survey.specs.Finds.{AllPresent, FirstAbsent, DamagedAt, NoNames, JournalName, AllFine, Stray, Listed, Strays}
use Rattle.survey.specs.Linked.{SuperLook, LookedAs, AllLooked}
use Rattle.survey.specs.Seen.{Seen, SeenAs}

module _ {C : Type 0} (m : Meaning C) (names : Names) (c : C) where
  abbrev files : Holds
  files = m.holds c

  abbrev file : ℕ → Name
  file = file_of names

  abbrev n : ℕ
  n = how_many names

  -- each database is present, or the first is named that is absent
  abbrev pub TellsPresence : Result (Unit {0}) Refusal → Type 0
  TellsPresence r = Told r (λ _. AllPresent files file n) never₂ never (FirstAbsent files file n)

  -- what a sound journal of k records is that names w
  abbrev pub TellsNamed : ℕ → Name → Result Look Refusal → Type 0
  TellsNamed k w r = Told r (SuperLook files file k w) never₂ never never

  -- what the journal of the database d is, or where it is damaged
  abbrev pub TellsJournal : ℕ → Result Look Refusal → Type 0
  TellsJournal d r = Told r (LookedAs files file d) (λ f k. (f ≡ 4 + d) × DamagedAt files file d k) never never

  -- what each journal is, or the first that is damaged, with those before it seen
  abbrev pub TellsJournals : Result (List Look) Refusal → Type 0
  TellsJournals r =
      Told r (AllLooked files file n)
      (λ f k. (d : ℕ) × (f ≡ 4 + d) × (d < n) × ((i : ℕ) → i < d → (s : Seen) × SeenAs files file i s) × DamagedAt files file d k)
      never never

  -- a listed file is a journal of the set or absent, or it is another's
  abbrev pub TellsListed : Name → Result (Unit {0}) Refusal → Type 0
  TellsListed w r =
      Told r (λ _. JournalName file n w ⊎ (files w ≡ None)) never₂ (λ f. (f ≡ 9) × (JournalName file n w → ⊥) × Present (files w)) never

  -- so is each of a list, or one is another's
  abbrev pub TellsNames : List Name → Result (Unit {0}) Refusal → Type 0
  TellsNames ns r = Told r (λ _. AllFine files file n ns) never₂ (λ f. (f ≡ 9) × Stray files file n ns) never

  -- the bytes are a list of such names, or of names with another's, or of none
  abbrev pub TellsList : Bytes → Result (Unit {0}) Refusal → Type 0
  TellsList b r =
      Told r (λ _. (ns : List Name) × Listed files file n b ns) (λ f k. (f ≡ 8) × (k ≡ 0) × NoNames b)
      (λ f. (f ≡ 9) × ((ns : List Name) × Strays files file n b ns)) never

  -- the same of the set's super-journal
  abbrev pub TellsSuper : Result (Unit {0}) Refusal → Type 0
  TellsSuper r =
      Told r (λ _. (b : Bytes) × (files (super_file names) ≡ Some b) × ((ns : List Name) × Listed files file n b ns))
      (λ f k. (f ≡ 8) × (k ≡ 0) × ((b : Bytes) × (files (super_file names) ≡ Some b) × NoNames b))
      (λ f. (f ≡ 9) × ((b : Bytes) × (files (super_file names) ≡ Some b) × ((ns : List Name) × Strays files file n b ns))) never
