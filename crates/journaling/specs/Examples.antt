-- Small commits, for readers of the plan: what is changed, what is recorded, and the calls in their order.
use Rattle.std.specs.Prelude.{◌≡◌, ℕ, true, ◌&&◌, ◌||◌, [], ◌∷◌, map, replicate, Some, None, Option, ◌==◌}
use Rattle.card.specs.Meaning.{Bytes, Name}
use Rattle.card.specs.Numbers.{number_bytes}
use Rattle.card.specs.Calls.{read, create, write, sync, delete}
use Rattle.journal.specs.Format.{encode}
use Rattle.refusal.specs.declared.step.Step.{Step}
use Rattle.refusal.specs.declared.step.Step.TheVariants.{C1, C2, C3, C4}
use Rattle.steps.specs.Tasks.{Task, task, at, at_record}
use Rattle.journaling.specs.Plan.{Change, journal_of, super_of, plan, drops}
use Rattle.journaling.specs.Changes.{recorded, changed_list}

-- the file k has the name k
abbrev pub name : ℕ → Name
name k = k ∷ []

-- a page of this byte alone
abbrev pub page : ℕ → Bytes
page b = replicate 512 b

-- database 0 has one page, of 7; it becomes 8, and a page of 9 is added
abbrev pub first : Change
first = record {
  database = 0;
  stored = page 7;
  size = 1;
  recorded = 1 ∷ [];
  pages = record { page = 1; bytes = page 8 } ∷ record { page = 2; bytes = page 9 } ∷ [];
}

-- database 1 has one page, which becomes 5
abbrev pub second : Change
second = record {
  database = 1;
  stored = page 4;
  size = 1;
  recorded = 1 ∷ [];
  pages = record { page = 1; bytes = page 5 } ∷ [];
}

-- where a task stands: its step and its file
abbrev pub place_of : Task → Option Step × ℕ
place_of t = (t.site.step, t.site.file)

pub record Examples : Type 0 where
  -- page 3 of database 1 is changed
  pub listed : changed_list (λ d p. d == 1 && p == 3) 3 ≡ 1 ∷ []
  -- of a database of 3 pages the changed pages 2 and 3 are recorded, and page 1; the added page 4 is not
  pub within : recorded (λ p. p == 2 || p == 3 || p == 4) 3 ≡ 1 ∷ 2 ∷ 3 ∷ []
  pub added : recorded (λ p. p == 2) 1 ≡ 1 ∷ []
  -- with nothing changed no call is made
  pub nothing : plan name 7 [] ≡ []
  -- one database: its journal, its pages, and the deletion of the journal, which makes the commit count
  pub alone :
      plan name 7 (first ∷ [])
      ≡ task (at C2 4) (name 4) create
      ∷ task (at_record C2 0 1) (name 0) (read 0 512)
      ∷ task (at C2 4) (name 4) (write 0 (encode 0 (journal_of 7 None first)))
      ∷ task (at C2 4) (name 4) sync
      ∷ task (at C2 4) (name 4) (write 8 (number_bytes 1))
      ∷ task (at C2 4) (name 4) sync
      ∷ task (at C3 0) (name 0) (write 0 (page 8))
      ∷ task (at C3 0) (name 0) (write 512 (page 9))
      ∷ task (at C3 0) (name 0) sync
      ∷ task (at C4 4) (name 4) delete ∷ []
  pub alone_left : drops name (first ∷ []) ≡ []
  -- two databases: the super-journal first, both journals, the pages of both, and the super-journal's deletion
  pub both :
      map place_of (plan name 7 (first ∷ second ∷ []))
      ≡ (Some C1, 8) ∷ (Some C1, 8) ∷ (Some C1, 8)
      ∷ (Some C2, 4) ∷ (Some C2, 0) ∷ (Some C2, 4) ∷ (Some C2, 4) ∷ (Some C2, 4) ∷ (Some C2, 4)
      ∷ (Some C2, 5) ∷ (Some C2, 1) ∷ (Some C2, 5) ∷ (Some C2, 5) ∷ (Some C2, 5) ∷ (Some C2, 5)
      ∷ (Some C3, 0) ∷ (Some C3, 0) ∷ (Some C3, 0) ∷ (Some C3, 1) ∷ (Some C3, 1)
      ∷ (Some C4, 8) ∷ []
  -- each journal names the super-journal, and both are deleted last
  pub named : super_of name true ≡ Some (name 8)
  pub both_left : drops name (first ∷ second ∷ []) ≡ record { name = name 4; op = delete } ∷ record { name = name 5; op = delete } ∷ []
