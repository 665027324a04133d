use Rattle.journaling.proofs.Readings.{Reading}
use Rattle.journaling.proofs.originals.read_originals.Given as goal

abbrev pub invariant-loop-index : goal.invariant-loop-index
invariant-loop-index g l =
    Reading g.C.Card.meaning l.name l.database l.pages l.initial.card l.index l.card l.buffer
