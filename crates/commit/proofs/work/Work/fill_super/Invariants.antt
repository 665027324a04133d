use Rattle.std.proofs.Common.{◌+◌}
use Rattle.commit.specs.Works.{files}
use Rattle.commit.proofs.Listing.{Listing}
use Rattle.commit.proofs.work.Work.fill_super.Given as goal

abbrev pub invariant-loop-database : goal.invariant-loop-database
invariant-loop-database l = Listing (λ d. files l.self (4 + d)) l.database-items l.database-index l.buffer l.end
