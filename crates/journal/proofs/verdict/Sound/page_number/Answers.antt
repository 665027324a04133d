use Rattle.std.proofs.Common.{ℕ, Some, ap, ◌∙◌}
use Rattle.std.proofs.lemmas.Bool.{both_ways}
use Rattle.journal.proofs.InPlace.{has, number_told}
use Rattle.journal.proofs.verdict.Sound.page_number.Goals as goal

pub returns-in_err-record-clause-told : goal.returns-in_err-record-clause-told
returns-in_err-record-clause-told c = λ j of lt. absurd (both_ways _ c.in_err-record.ensures (has c.args.bytes.now c.args.self.now j of c.args.index lt))

pub returns-clause-told : goal.returns-clause-told
returns-clause-told c = λ j of lt. ap (λ (n : ℕ). Some n) (c.number.ensures ∙ number_told c.args.bytes.now c.args.self.now j of c.args.index lt _ c.in_ok-record.ensures.1)
