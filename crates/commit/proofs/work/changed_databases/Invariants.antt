use Rattle.std.proofs.Common.{◌≡◌}
use Rattle.commit.proofs.work.changed_databases.Given as goal

abbrev pub invariant-loop-database : goal.invariant-loop-database
invariant-loop-database l =
    (goal.iterator-loop-database).can_next l.database-iterator × (goal.iterator-loop-database).is_finite l.database-iterator × (l.changed.items ≡ l.yielded)
