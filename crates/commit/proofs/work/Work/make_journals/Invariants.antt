use Rattle.names.specs.Files.{how_many}
use Rattle.journaling.specs.Plan.{super_of}
use Rattle.commit.specs.Works.{files, several}
use Rattle.commit.proofs.Making.{Making}
use Rattle.commit.proofs.work.Work.make_journals.Given as goal

abbrev pub invariant-loop-database : goal.invariant-loop-database
invariant-loop-database g l =
    Making g.C.Card.meaning (files l.self) l.self.nonce (super_of (files l.self) (several l.self)) l.self.memory.now l.self.sizes.now.rows (how_many l.self.names.now) l.database-items l.initial.card l.database-index l.card
