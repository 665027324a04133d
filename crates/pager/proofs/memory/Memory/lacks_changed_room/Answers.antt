use Rattle.std.proofs.Common.{ℕ, Bool, not, ◌&&◌, eqb, sym, ap, ◌∙◌, ap₂}
use Rattle.std.proofs.lemmas.Bool.{and_left}
use Rattle.pager.specs.Sound.{map_of}
use Rattle.pager.proofs.Keeps.{in_all}
use Rattle.pager.proofs.memory.Memory.lacks_changed_room.Goals as goal

pub returns-then-is_full : goal.returns-then-is_full
unfolding map_of
returns-then-is_full c =
    let m = c.args.self.now in
    let all = in_all m in
    let full = ap (λ (n : ℕ). eqb n 32) (sym all) ∙ sym c.is_full.ensures ∙ c.if-is_full.true in
    sym (ap₂ (λ (a b : Bool). a && not b) full (sym c.contains.ensures))

pub returns-else-is_full : goal.returns-else-is_full
returns-else-is_full c =
    let m = c.args.self.now in
    let all = in_all m in
    c.if-is_full.false ∙ sym (and_left _ _ (ap (λ (n : ℕ). eqb n 32) (sym all) ∙ sym c.is_full.ensures ∙ c.if-is_full.false))
