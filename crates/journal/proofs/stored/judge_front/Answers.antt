use Rattle.std.proofs.Common.{sym, ap, ◌∙◌, subst, arith}
use Rattle.std.proofs.lemmas.List.{take_all}
use Rattle.card.specs.Meaning.{Bytes}
use Rattle.journal.specs.Judged.{Judged, spent}
use Rattle.journal.proofs.Longer.{spent_front, longer}
use Rattle.journal.proofs.stored.judge_front.Goals as goal

pub returns-then-length-le-JOURNAL_LIMIT : goal.returns-then-length-le-JOURNAL_LIMIT
returns-then-length-le-JOURNAL_LIMIT c =
    λ b long front. subst (λ (x : Bytes). Judged x c.judge.result) (sym (sym (take_all 17724 b (omega arith)) ∙ front)) c.judge.ensures.judged

pub returns-then-is_spent : goal.returns-then-is_spent
unfolding Judged
returns-then-is_spent c =
    λ b long front. sym (spent_front b (omega arith)) ∙ ap spent front ∙ sym c.is_spent.ensures ∙ c.if-is_spent.true

pub returns : goal.returns
returns c =
    λ b long front. longer b (omega arith) (sym (spent_front b (omega arith)) ∙ ap spent front ∙ sym c.is_spent.ensures ∙ c.if-is_spent.false)
