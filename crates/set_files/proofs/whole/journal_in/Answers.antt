use Rattle.std.proofs.Common.{arith}
use Rattle.set_files.proofs.Played.{length_limit, front_of}
use Rattle.set_files.proofs.whole.journal_in.Goals as goal

pub shared_ref_as_front-result : goal.shared_ref_as_front-result
shared_ref_as_front-result c = omega (arith, c.length.ensures c.requires.0 c.requires.1 c.requires.2, length_limit c.requires.0 c.requires.1)

pub returns : goal.returns
returns c = λ j old ok p e. record { lawful = ok; bytes = front_of c.args.buffer.now old _ c.length.result e (c.length.ensures j ok p); parts = p }
