-- What the files of a set hold after a recovery, and after a commit.
use Rattle.std.specs.Prelude.{◌≡◌, ℕ, ◌<◌, true}
use Rattle.card.specs.Meaning.{Meaning, Bytes}
use Rattle.names.specs.Files.{how_many}
use Rattle.pager.specs.Machine.{cleared}
use Rattle.pager.specs.View.{view, Stored}
use Rattle.steps.specs.Safe.{Safe}
use Rattle.journaling.specs.Changes.{is_changed}
use Rattle.store.specs.declared.set.Set.{Set}
use Rattle.store.specs.Reads.{file_of, files_of}

-- the files hold so many whole pages as the set says, and the machine shows just what they hold
pub record AsFiles {C : Type 0} (m : Meaning C) (s : Set C) : Type 0 where
  pub stored : Stored (files_of m s) s.stored.rows
  pub machine : view (files_of m s) s.memory ≡ cleared (files_of m s)

module _ {C : Type 0} (m : Meaning C) (s : Set C) where
  -- what a transaction holds of a database, over what the files hold
  abbrev pub current_of : ℕ → Bytes
  current_of = (view (files_of m s) s.memory).held.current

  -- a transaction has changed a page of the database
  abbrev pub Changed : ℕ → Type 0
  Changed d = is_changed (view (files_of m s) s.memory).held.changed d ≡ true

-- what a commit that is done leaves in the files, by the number of journals that are left
pub record Stores {C : Type 0} (m : Meaning C) (s : Set C) (left : ℕ) (s' : Set C) : Type 0 where
  -- each database that it changed holds what the transaction held, and nothing else may remain of it
  pub changed : (d : ℕ) → d < how_many s.names → Changed m s d → files_of m s' d ≡ current_of m s d
  pub safe : (d : ℕ) → d < how_many s.names → Changed m s d → Safe m s'.card (file_of s d)
  -- with no journal left all databases hold it, and the set shows just what they hold
  pub all : left ≡ 0 → (d : ℕ) → d < how_many s.names → files_of m s' d ≡ current_of m s d
  pub shows : left ≡ 0 → AsFiles m s'
