use Rattle.std.proofs.Common.{length, ◌∙◌, arith}
use Rattle.names.specs.Names.{listed}
use Rattle.names.specs.Files.{names_of}
use Rattle.names.proofs.Files.{named_file, super_is_file, name_super}
use Rattle.names.proofs.names.Names.super_journal.Goals as goal

pub returns : goal.returns
returns c =
    let names = names_of c.args.self.now in
    c.file.ensures ∙ named_file names 8 (super_is_file (length names)) ∙ name_super (listed names) 8 (omega arith)
