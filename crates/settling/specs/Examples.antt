-- What a recovery does with two small sets, for readers of the definitions.
use Rattle.std.specs.Prelude.{◌≡◌, ℕ, zero, suc, [], ◌∷◌, replicate, Some, None}
use Rattle.card.specs.Meaning.{Bytes, Name}
use Rattle.card.specs.Calls.{length_of, read, write, set_length, sync, delete}
use Rattle.journal.specs.Format.{Journal}
use Rattle.refusal.specs.declared.step.Step.TheVariants.{R2, R3}
use Rattle.steps.specs.Tasks.{task, at, at_record}
use Rattle.survey.specs.Seen.{Seen, none, spent, hot}
use Rattle.settling.specs.Settled.{settle_tasks}

-- the name of the file k is the one byte k
abbrev pub file : ℕ → Name
file k = k ∷ []

-- a page of this byte alone
abbrev pub page : ℕ → Bytes
page b = replicate 512 b

-- the database had three pages, and its pages 1 and 3 were changed together with another database
abbrev pub journal : Journal
journal =
    record {
      nonce = 5;
      size = 3;
      records = record { page = 1; bytes = page 7 } ∷ record { page = 3; bytes = page 9 } ∷ [];
      super = Some (file 8);
    }

-- the journal of database 0 is hot, and that of any other is spent
abbrev pub one_hot : ℕ → Seen
one_hot zero = hot journal
one_hot (suc d) = spent

-- no database has a journal
abbrev pub all_none : ℕ → Seen
all_none d = none

pub record Examples : Type 0 where
  -- the hot journal is read, its pages go back in order, the database gets its first size and is made safe, and only then
  -- the journal goes; the spent one goes next, and the super-journal last
  pub both :
      settle_tasks file 2 one_hot (Some [])
      ≡ task (at R2 4) (file 4) length_of
      ∷ task (at R2 4) (file 4) (read 0 1573)
      ∷ task (at_record R2 0 1) (file 0) (write 0 (page 7))
      ∷ task (at_record R2 0 2) (file 0) (write 1024 (page 9))
      ∷ task (at R2 0) (file 0) (set_length 1536)
      ∷ task (at R2 0) (file 0) sync
      ∷ task (at R2 4) (file 4) delete
      ∷ task (at R2 5) (file 5) delete
      ∷ task (at R3 8) (file 8) length_of
      ∷ task (at R3 8) (file 8) delete
      ∷ []
  -- with nothing found, only the super-journal is asked for
  pub nothing : settle_tasks file 2 all_none None ≡ task (at R3 8) (file 8) length_of ∷ []
