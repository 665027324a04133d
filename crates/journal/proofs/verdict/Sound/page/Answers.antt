use Rattle.std.proofs.Common.{Some, ap, ◌∙◌, arith}
use Rattle.std.proofs.lemmas.Bool.{both_ways}
use Rattle.card.specs.Meaning.{Bytes}
use Rattle.card.specs.Calls.{part}
use Rattle.journal.specs.Judged.{record_place}
use Rattle.journal.proofs.Pieces.{part_part}
use Rattle.journal.proofs.InPlace.{has, page_told}
use Rattle.journal.proofs.verdict.Sound.page.Goals as goal

pub returns-in_err-record-clause-told : goal.returns-in_err-record-clause-told
returns-in_err-record-clause-told c =
    rw c.from_residual.ensures (λ j of lt. absurd (both_ways _ c.in_err-record.ensures (has c.args.bytes.now c.args.self.now j of c.args.index lt)))

pub returns-clause-is : goal.returns-clause-is
returns-clause-is c = ap (λ (r : Bytes). part r 4 512) c.in_ok-record.ensures.1 ∙ part_part c.args.bytes.now (record_place c.args.index) 4 516 512 (omega arith)

pub returns-clause-told : goal.returns-clause-told
returns-clause-told c = λ j of lt. ap (λ (p : Bytes). Some p) (page_told c.args.bytes.now c.args.self.now j of c.args.index lt _ c.in_ok-record.ensures.1)
