use Rattle.std.proofs.Common.{◌≡◌, length, take}
use Rattle.card.specs.Calls.{overwrite}
use Rattle.super_journal.specs.Super.{super_journal_bytes}
use Rattle.super_journal.specs.Written.{texts}
use Rattle.super_journal.proofs.writer.fill_names.Given as goal

abbrev pub invariant-loop-name : goal.invariant-loop-name
invariant-loop-name l =
    (l.buffer ≡ overwrite l.initial.buffer 0 (super_journal_bytes (take l.name-index (texts l.names)))) × (l.end ≡ length (super_journal_bytes (take l.name-index (texts l.names))))
