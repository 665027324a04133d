use Rattle.std.proofs.Common.{sym, arith}
use Rattle.journal_writer.proofs.Sealed.{sealed_none, sealed_more}
use Rattle.journal_writer.proofs.filler.seal_records.Goals as goal

pub loop-index-init : goal.loop-index-init
loop-index-init c = sym (sealed_none c.args.buffer.now c.args.nonce c.args.pages.now)

pub loop-index-preserved : goal.loop-index-preserved
loop-index-preserved c =
    sealed_more c.args.buffer.now c.args.nonce c.args.pages.now c.loop-index.index c.loop-index.buffer c.seal_record.new.buffer (omega arith) c.requires.room c.loop-index.invariant c.seal_record.ensures
