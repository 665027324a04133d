use Rattle.std.proofs.Common.{ℕ, ◌-◌, sym, ap, ◌∙◌, arith}
use Rattle.std.proofs.lemmas.Bool.{cond-true}
use Rattle.page_map.specs.Sets.{including}
use Rattle.page_map.specs.Words.{pages_of}
use Rattle.page_map.proofs.Members.{puts_in, bit_set, is_at_least, is_at_most}
use Rattle.page_map.proofs.PageMap.insert.Goals as goal

pub returns-in-Some : goal.returns-in-Some
returns-in-Some c q =
    let ws = c.args.self.now.words in
    let p = c.args.page in
    let at = c.in-Some.ensures in
    let high = is_at_most p at.0 in
    rw (at.1, at.2) (puts_in ws _ (p - 1) (bit_set ws (p - 1) (omega arith)) q) ∙ ap (λ (n : ℕ). including (pages_of ws) n q) (is_at_least p at.0) ∙ sym (cond-true _ _ _ at.0)
