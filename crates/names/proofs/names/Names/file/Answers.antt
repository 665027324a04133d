use Rattle.std.proofs.Common.{ap, ◌∙◌}
use Rattle.names.specs.Files.{names_of}
use Rattle.names.specs.declared.file_name.FileName.{FileName}
use Rattle.names.proofs.Texts.{named_or}
use Rattle.names.proofs.names.Names.file.Goals as goal

pub returns : goal.returns
returns c =
    ap (λ (f : FileName). f.bytes.items) c.unwrap_or.ensures
    ∙ named_or (names_of c.args.self.now) c.args.file c.name_of.result c.ending.result c.ending.ensures c.name_of.ensures
