use Rattle.std.proofs.Common.{sym, ap, ◌∙◌}
use Rattle.std.specs.Option.{option_map}
use Rattle.pager.proofs.Looks.{look_none, look_found}
use Rattle.pager.proofs.changed_pages.ChangedPages.get.Goals as goal

pub returns-in_err-row : goal.returns-in_err-row
returns-in_err-row c = ap (option_map (λ x. x.now)) c.from_residual.ensures ∙ sym (look_none c.args.self.now.rows.items c.args.database c.args.page (sym c.find.ensures ∙ c.in_err-row.was))

pub returns : goal.returns
returns c = rw c.as_slice.ensures.is (sym (look_found c.args.self.now.rows.items c.args.database c.args.page c.in_ok-row.field-0 (sym c.find.ensures ∙ c.in_ok-row.was)))
