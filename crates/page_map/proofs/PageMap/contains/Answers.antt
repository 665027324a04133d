use Rattle.std.proofs.Common.{◌-◌, sym, ap, ◌∙◌, arith}
use Rattle.page_map.specs.Words.{pages_of}
use Rattle.page_map.proofs.Members.{page_bad, page_read, is_at_least}
use Rattle.page_map.proofs.PageMap.contains.Goals as goal

pub returns-in_default : goal.returns-in_default
returns-in_default c = sym (page_bad c.args.self.now.words c.args.page (omega arith) c.in_default.ensures)

pub returns : goal.returns
returns c =
    let at = c.in-Some.ensures in
    rw (at.1, at.2) (page_read c.args.self.now.words (c.args.page - 1)) ∙ ap (pages_of c.args.self.now.words) (is_at_least c.args.page at.0)
