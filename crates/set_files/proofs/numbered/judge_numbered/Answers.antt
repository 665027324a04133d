use Rattle.std.proofs.Common.{◌∙◌, subst}
use Rattle.card.specs.Meaning.{Name}
use Rattle.journal.specs.OnCard.{judge_acts}
use Rattle.steps.specs.declared.site.Site.{Site}
use Rattle.steps.specs.Tasks.{Went, tasks, at}
use Rattle.steps.proofs.Went.{went_acted}
use Rattle.set_files.proofs.numbered.judge_numbered.Goals as goal

pub returns-clause-went : goal.returns-clause-went
returns-clause-went g c =
    let name = c.bytes.ensures ∙ c.file.ensures in
    let went : (s : Site) → Name → Type 0 = λ s n. Went g.C.Card.meaning (tasks s (judge_acts n (g.C.Card.meaning.holds c.args.card.now n))) c.args.card.now c.told.result c.judge_file.new.card in
    subst (went (at c.args.step c.args.file)) name
    (subst (λ (x : Site). went x c.bytes.result.now) c.new.ensures (went_acted _ _ _ _ _ _ _ c.told.ensures c.judge_file.ensures.acted))
