use Rattle.std.proofs.Common.{arith}
use Rattle.super_journal.specs.Written.{texts}
use Rattle.super_journal.proofs.Listed.{length_names, length_few}
use Rattle.super_journal.proofs.writer.super_length.Goals as goal

pub names_length-requires : goal.names_length-requires
names_length-requires c =
    let names = c.args.names.now in
    let lawful = c.names_hold.ensures.0 c.if-not-names_hold.false in
    omega (arith, length_names names, length_few (texts names) lawful.each, lawful.few)
