-- What recovery does with the journals that it found, in order: each hot one is played back into its
-- database and then deleted, each spent one is deleted, and the super-journal goes last.
use Rattle.std.specs.Prelude.{◌≡◌, ℕ, ◌+◌, ◌-◌, ◌*◌, List, [], ◌∷◌, ◌++◌, length, Some, None, Option}
use Rattle.card.specs.Meaning.{Meaning, Bytes, Name}
use Rattle.card.specs.Calls.{length_of, write, set_length, sync, delete}
use Rattle.journal.specs.Format.{Journal, LawfulJournal, full, record_of}
use Rattle.journal.specs.OnCard.{judge_acts}
use Rattle.refusal.specs.declared.step.Step.TheVariants.{R2, R3}
use Rattle.steps.specs.Tasks.{Task, task, tasks, at, at_record, up_to}
use Rattle.names.specs.declared.names.Names.{Names}
use Rattle.names.specs.Files.{how_many, file_of, journal_file}
use Rattle.survey.specs.declared.report.Found.{Found}
use Rattle.survey.specs.Seen.{Seen, none, spent, hot, AllSeen}

module _ {C : Type 0} (m : Meaning C) (names : Names) (c : C) where
  -- what the journals of a set are, and as they are reported
  abbrev pub SeenOf : List Found → (ℕ → Seen) → Type 0
  SeenOf found seen = AllSeen (m.holds c) (file_of names) (how_many names) found seen

  -- the journal of the database d is this one, whole
  abbrev pub WholeOf : ℕ → Journal → Type 0
  WholeOf d j = LawfulJournal j × (m.holds c (journal_file names d) ≡ Some (full j))

-- the page of the record k, from 0, goes back to its place; the record is told from 1
abbrev pub record_task : (ℕ → Name) → ℕ → Journal → ℕ → Task
record_task file d j k = task (at_record R2 d (k + 1)) (file d) (write (((record_of j.records k).page - 1) * 512) (record_of j.records k).bytes)

-- then the database has its first size, is made safe, and its journal goes
abbrev pub finish_tasks : (ℕ → Name) → ℕ → ℕ → List Task
finish_tasks file d size =
    task (at R2 d) (file d) (set_length (size * 512)) ∷ task (at R2 d) (file d) sync ∷ task (at R2 (4 + d)) (file (4 + d)) delete ∷ []

abbrev pub write_tasks : (ℕ → Name) → ℕ → Journal → List Task
write_tasks file d j = up_to (λ k. record_task file d j k ∷ []) (length j.records)

abbrev pub hot_tasks : (ℕ → Name) → ℕ → Journal → List Task
hot_tasks file d j = tasks (at R2 (4 + d)) (judge_acts (file (4 + d)) (Some (full j))) ++ (write_tasks file d j ++ finish_tasks file d j.size)

abbrev pub restore_tasks : (ℕ → Name) → ℕ → Seen → List Task
restore_tasks file d none = []
restore_tasks file d spent = task (at R2 (4 + d)) (file (4 + d)) delete ∷ []
restore_tasks file d (hot j) = hot_tasks file d j

-- the super-journal is deleted if it is present
abbrev pub super_tasks : (ℕ → Name) → Option Bytes → List Task
super_tasks file None = task (at R3 8) (file 8) length_of ∷ []
super_tasks file (Some b) = task (at R3 8) (file 8) length_of ∷ task (at R3 8) (file 8) delete ∷ []

abbrev pub all_tasks : (ℕ → Name) → ℕ → (ℕ → Seen) → List Task
all_tasks file n seen = up_to (λ d. restore_tasks file d (seen d)) n

-- the databases in order, and then the super-journal
abbrev pub settle_tasks : (ℕ → Name) → ℕ → (ℕ → Seen) → Option Bytes → List Task
settle_tasks file n seen f = all_tasks file n seen ++ super_tasks file f
