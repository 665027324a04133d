use Rattle.super_journal.proofs.Names.{Taken}
use Rattle.super_journal.proofs.reader.read_names.Given as goal

abbrev pub invariant-loop-name : goal.invariant-loop-name
invariant-loop-name l = Taken l.yielded l.names.items
