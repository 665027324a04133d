use Rattle.halves.specs.Halves.{KeptBelow}
use Rattle.halves.proofs.both.Halves.keep.Given as goal

abbrev pub invariant-loop-k : goal.invariant-loop-k
invariant-loop-k l = KeptBelow l.choice l.initial.self.current.now l.initial.self.synced.now l.k l.self.current.now l.self.synced.now
