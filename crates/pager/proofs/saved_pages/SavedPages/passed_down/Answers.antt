use Rattle.std.proofs.Common.{List, [], length, get_or, take, sym, ap, ◌∙◌, ap₂, arith}
use Rattle.std.proofs.lemmas.List.{take_more}
use Rattle.pager.specs.declared.saved_page.SavedPage.{SavedPage}
use Rattle.pager.specs.Saved.{gathered, added, passed}
use Rattle.pager.proofs.Saves.{gathered_none, gathered_end}
use Rattle.pager.proofs.saved_pages.SavedPages.passed_down.Goals as goal

pub loop-row-init : goal.loop-row-init
loop-row-init c = (c.new-out.ensures ∙ sym (gathered_none c.args.s), omega (arith, ap length c.new-out.ensures))

pub loop-row-preserved : goal.loop-row-preserved
loop-row-preserved c =
    let rows = c.args.self.now.rows.items in
    let i = c.loop-row.row-index in
    let was = c.loop-row.invariant in (
      c.add_once.ensures.rows
          ∙ ap₂ (λ (l : List SavedPage) (r : SavedPage). added l r) was.0 (c.passed.ensures ∙ ap (λ (l : List SavedPage). passed c.args.s (get_or l i _)) c.as_slice-row-items.ensures.is)
          ∙ sym (ap (gathered c.args.s []) (take_more rows i _ (omega (arith, ap length c.as_slice-row-items.ensures.is))) ∙ gathered_end c.args.s [] (take i rows) (get_or rows i _)),
      omega (arith, was.1, c.add_once.ensures.used),
    )
