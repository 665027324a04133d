use Rattle.std.proofs.Common.{◌+◌, ◌≤◌}
use Rattle.card.specs.Calls.{delete}
use Rattle.commit.specs.Works.{files}
use Rattle.commit.proofs.Trying.{Trying}
use Rattle.commit.proofs.work.Work.delete_spent_journals.Given as goal

abbrev pub invariant-loop-database : goal.invariant-loop-database
invariant-loop-database g l =
    Trying g.C.Card.meaning (λ d. record { name = files l.self (4 + d); op = delete }) l.database-items l.initial.card l.database-index l.left l.card
    × (l.left ≤ l.database-index)
