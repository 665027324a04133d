use Rattle.halves.specs.Halves.{MixedBelow}
use Rattle.halves.proofs.loss.mix.Given as goal

abbrev pub invariant-loop-place : goal.invariant-loop-place
invariant-loop-place l = MixedBelow l.initial.byte-items l.file l.place l.byte-items
