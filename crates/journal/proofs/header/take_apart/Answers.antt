use Rattle.std.proofs.lemmas.List.{take_rest}
use Rattle.journal.proofs.header.take_apart.Goals as goal

pub returns-clause-padding : goal.returns-clause-padding
returns-clause-padding c = take_rest c.args.bytes.now 28
