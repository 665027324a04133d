use Rattle.std.proofs.Common.{◌-◌}
use Rattle.image.specs.Layout.{named, free_slots}
use Rattle.image.proofs.Freeing.{Freeing}
use Rattle.image.proofs.slots.free_all.Given as goal

abbrev pub invariant-loop-k : goal.invariant-loop-k
invariant-loop-k l = Freeing (named l.name) l.initial.image l.image

abbrev pub decreases-loop-k : goal.decreases-loop-k
decreases-loop-k l = 16 - free_slots l.image
