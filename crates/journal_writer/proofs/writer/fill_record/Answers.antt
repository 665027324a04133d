use Rattle.std.proofs.Common.{◌≡◌, ◌+◌, arith}
use Rattle.journal.specs.Judged.{record_place}
use Rattle.journal_writer.proofs.Sealed.{record_put}
use Rattle.journal_writer.proofs.writer.fill_record.Goals as goal

pub returns : goal.returns
returns c =
    let at : c.record_place-place.result + 4 ≡ record_place c.args.index + 4 = omega (arith, c.record_place-place.ensures) in
    record_put c.args.buffer.now c.put_bytes.new.buffer _ c.args.index c.args.nonce c.args.page c.args.bytes.now (c.record_place-place.result + 4) at c.requires.whole c.requires.room c.put_bytes.ensures c.seal_record.ensures
