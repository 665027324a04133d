use Rattle.std.proofs.Common.{◌≡◌, ◌+◌, length, ◌∙◌, rules}
use Rattle.std.specs.List.{sum_by}
use Rattle.super_journal.proofs.Listed.{length_names}
use Rattle.super_journal.proofs.writer.names_length.Goals as goal

pub returns : goal.returns
returns c =
    let is : c.sum.result ≡ sum_by (λ n. length n.now + 1) c.args.names.now = search rules in
    is ∙ length_names c.args.names.now
