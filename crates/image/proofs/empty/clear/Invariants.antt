use Rattle.image.proofs.Freeing.{Vacant}
use Rattle.image.proofs.empty.clear.Given as goal

abbrev pub invariant-loop-k : goal.invariant-loop-k
invariant-loop-k l = Vacant l.image l.k
