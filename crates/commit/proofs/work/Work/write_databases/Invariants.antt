use Rattle.std.proofs.Common.{ℕ, List}
use Rattle.pager.specs.View.{view}
use Rattle.journaling.specs.Plan.{change_tasks}
use Rattle.journaling.specs.Changes.{change_of}
use Rattle.commit.specs.Works.{files}
use Rattle.commit.proofs.Turns.{Round}
use Rattle.commit.proofs.work.Work.write_databases.Given as goal

abbrev pub invariant-loop-database : goal.invariant-loop-database
invariant-loop-database g l =
    (stored : ℕ → List ℕ) (base : List ℕ) →
    Round g.C.Card.meaning (λ d. change_tasks (files l.self) (change_of stored base (view stored l.self.memory.now) d)) l.database-items l.initial.card l.database-index l.card
