use Rattle.std.proofs.Common.{◌≡◌, arith}
use Rattle.journal.specs.Format.{record_of}
use Rattle.set_files.proofs.Played.{page_bounds}
use Rattle.settling.proofs.playback.write_record.Goals as goal

pub page_place-requires-clause-some : goal.page_place-requires-clause-some
page_place-requires-clause-some g c =
    let j = c.requires.0 in
    let is : c.unwrap-number.result ≡ (record_of j.records c.args.index).page = cc (c.page_number.ensures.told j c.requires.1 c.requires.2) in
    omega (arith, is, (page_bounds j c.args.index c.requires.1.lawful c.requires.2).0)

pub page_place-requires-clause-small : goal.page_place-requires-clause-small
page_place-requires-clause-small g c =
    let j = c.requires.0 in
    let is : c.unwrap-number.result ≡ (record_of j.records c.args.index).page = cc (c.page_number.ensures.told j c.requires.1 c.requires.2) in
    omega (arith, is, (page_bounds j c.args.index c.requires.1.lawful c.requires.2).1)
