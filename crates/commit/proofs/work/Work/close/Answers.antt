use Rattle.std.proofs.Common.{rules, arith}
use Rattle.steps.proofs.Went.{went_end}
use Rattle.commit.specs.Works.{listed}
use Rattle.commit.proofs.Closing.{closing_none, closing_one}
use Rattle.commit.proofs.work.Work.close.Goals as goal

pub returns-in-empty : goal.returns-in-empty
returns-in-empty g c = rw (closing_none _ _ (listed c.args.self.now) (grind arith)) (went_end g.C.Card.meaning c.args.card.now tt)

pub returns-in-len1 : goal.returns-in-len1
returns-in-len1 g c = rw (closing_one _ _ (listed c.args.self.now) (grind arith) (grind arith)) (search rules)
