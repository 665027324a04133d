use Rattle.std.proofs.Common.{sym, ◌∙◌, arith, below_more}
use Rattle.journal.proofs.records.Records.first_wrong.Goals as goal

pub loop-index-init : goal.loop-index-init
loop-index-init c = λ k lt. absurd (omega arith)

pub returns-then-not-holds : goal.returns-then-not-holds
returns-then-not-holds c = (omega arith, c.loop-index.invariant, sym c.holds.ensures ∙ c.if-not-holds.true)

pub loop-index-preserved : goal.loop-index-preserved
loop-index-preserved c = below_more _ _ c.loop-index.invariant (sym c.holds.ensures ∙ c.if-not-holds.false)

pub returns : goal.returns
returns c = λ k lt. c.loop-index.invariant k (omega arith)
