use Rattle.std.proofs.Common.{◌≡◌, take}
use Rattle.card.specs.Calls.{overwrite}
use Rattle.journal.specs.Format.{records_bytes}
use Rattle.journal_writer.specs.Written.{originals}
use Rattle.journal_writer.proofs.filler.seal_records.Given as goal

abbrev pub invariant-loop-index : goal.invariant-loop-index
invariant-loop-index l = l.buffer ≡ overwrite l.initial.buffer 512 (records_bytes l.nonce (originals l.initial.buffer 0 (take l.index l.pages)))
