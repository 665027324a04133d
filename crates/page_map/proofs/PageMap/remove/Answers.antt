use Rattle.std.proofs.Common.{ℕ, ◌-◌, ap, ◌∙◌, arith}
use Rattle.page_map.specs.Sets.{without}
use Rattle.page_map.specs.Words.{pages_of}
use Rattle.page_map.proofs.Members.{puts_out, bit_cleared, is_at_least, is_at_most, out_already, page_bad}
use Rattle.page_map.proofs.PageMap.remove.Goals as goal

pub returns-in-Some : goal.returns-in-Some
returns-in-Some c q =
    let ws = c.args.self.now.words in
    let p = c.args.page in
    let at = c.in-Some.ensures in
    let high = is_at_most p at.0 in
    rw (at.1, at.2) (puts_out ws _ (p - 1) (bit_cleared ws (p - 1) (omega arith)) q) ∙ ap (λ (n : ℕ). without (pages_of ws) n q) (is_at_least p at.0)

pub returns-in_default : goal.returns-in_default
returns-in_default c q = out_already c.args.self.now.words c.args.page q (page_bad c.args.self.now.words c.args.page (omega arith) c.in_default.ensures)
