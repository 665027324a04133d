-- What is found in a few small sets of files, for readers of the definitions.
use Rattle.std.specs.Prelude.{ℕ, List, [], ◌∷◌, ◌++◌, replicate, Some, None, Option, Ok, Err, slice_index_or}
use Rattle.card.specs.Meaning.{Bytes, Name}
use Rattle.journal.specs.Format.{Journal, full}
use Rattle.card.specs.Calls.{read}
use Rattle.journal.specs.OnCard.{judge_acts}
use Rattle.steps.specs.Tasks.{Task, task, tasks, at}
use Rattle.refusal.specs.declared.step.Step.TheVariants.{R1}
use Rattle.refusal.specs.declared.refusals.Refusal.TheVariants.{Database}
use Rattle.survey.specs.declared.report.Found.{Found}
use Rattle.survey.specs.declared.report.Found.TheVariants.{None as FoundNone, Spent as FoundSpent}
use Rattle.set_files.specs.Files.{Holds}
use Rattle.survey.specs.Seen.{none, spent, hot, SeenAs}
use Rattle.survey.specs.Finds.{Finds}
use Rattle.survey.specs.Asks.{length_look, Asks}

-- the name of the file k is the one byte k
abbrev pub file : ℕ → Name
file k = k ∷ []

-- the files that hold these, from the file 0 on; past the list they are absent
abbrev pub holding : List (Option Bytes) → Holds
holding list [] = None
holding list (k ∷ w) = slice_index_or list k None

-- a file with no bytes
abbrev pub empty : Option Bytes
empty = Some []

-- three databases, with no other file
abbrev pub bare : Holds
bare = holding (empty ∷ empty ∷ empty ∷ [])

-- the same, and an empty file as the journal of database 2
abbrev pub created : Holds
created = holding (empty ∷ empty ∷ empty ∷ None ∷ None ∷ None ∷ empty ∷ [])

-- of three databases only the first is there
abbrev pub first_only : Holds
first_only = holding (empty ∷ [])

-- a sound journal that names the super-journal
abbrev pub journal : Journal
journal = record { nonce = 5; size = 1; records = record { page = 1; bytes = replicate 512 7 } ∷ []; super = Some (file 8) }

-- a database with that journal and the super-journal
abbrev pub joined : Holds
joined = holding (empty ∷ None ∷ None ∷ None ∷ Some (full journal) ∷ None ∷ None ∷ None ∷ empty ∷ [])

-- the same, with the super-journal gone
abbrev pub orphaned : Holds
orphaned = holding (empty ∷ None ∷ None ∷ None ∷ Some (full journal) ∷ [])

-- the looks at a journal of the number k, by what the file is
abbrev pub judged : ℕ → Option Bytes → List Task
judged k f = tasks (at R1 k) (judge_acts (file k) f)

-- the looks at that database, its journal, and the super-journal: as the journal's, and then as the set's
abbrev pub joined_looks : List Task
joined_looks =
    length_look 0 (file 0) ++ (judged 4 (Some (full journal)) ++ (length_look 8 (file 8) ++ (length_look 8 (file 8) ++ (task (at R1 8) (file 8) (read 0 0) ∷ []))))

pub record Examples : Type 0 where
  -- an absent journal is none, and an empty one is spent
  pub absent : SeenAs created file 0 none
  pub empty_spent : SeenAs created file 2 spent
  -- a sound one is hot while its super-journal is there; with that gone it is spent, and no longer hot
  pub hot_joined : SeenAs joined file 0 (hot journal)
  pub orphan_spent : SeenAs orphaned file 0 spent
  pub orphan_not_hot : SeenAs orphaned file 0 (hot journal) → ⊥
  -- with all databases there and no journal, all is in order and nothing is found
  pub nothing : Finds bare file 3 (Ok (FoundNone ∷ FoundNone ∷ FoundNone ∷ FoundNone ∷ []))
  -- what is found stands in the order of the databases
  pub third : Finds created file 3 (Ok (FoundNone ∷ FoundNone ∷ FoundSpent ∷ FoundNone ∷ []))
  -- of absent databases the first is told, and no later one; with one absent no journal is told
  pub first_absent : Finds first_only file 3 (Err (Database 1))
  pub not_later : Finds first_only file 3 (Err (Database 2)) → ⊥
  pub not_good : (found : List Found) → Finds first_only file 3 (Ok found) → ⊥
  -- the databases are asked for, and then the journals; a super-journal that no hot journal names is not
  pub asks_nothing :
      Asks bare file 3
      (length_look 0 (file 0) ++ (length_look 1 (file 1) ++ (length_look 2 (file 2) ++ (judged 4 None ++ (judged 5 None ++ judged 6 None)))))
  -- after the first absent database no file is looked at
  pub asks_first_absent : Asks first_only file 3 (length_look 0 (file 0) ++ length_look 1 (file 1))
  -- a sound journal's super-journal is asked for by the journal, and once more as the set's; it is read, and lists nothing
  pub asks_joined : Asks joined file 1 joined_looks
