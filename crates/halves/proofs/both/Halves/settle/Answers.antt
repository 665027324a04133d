use Rattle.std.proofs.Common.{rules, ◌≡◌, ℕ, ◌/◌, length, ap, ◌∙◌, sym}
use Rattle.image.specs.Layout.{slot}
use Rattle.image.proofs.Slices.{length_slot}
use Rattle.halves.proofs.Keeping.{settled_put}
use Rattle.halves.proofs.both.Halves.settle.Goals as goal

pub at_slot-requires-clause-callable : goal.at_slot-requires-clause-callable
at_slot-requires-clause-callable c = λ p is.
    let same : length p.now ≡ length c.args.self.now.current.now / 16 =
    ap length is ∙ length_slot c.args.self.now.synced.now c.args.k c.requires ∙ ap (λ (n : ℕ). n / 16) (sym c.args.self.now.equal) in
    search (rules, same)

pub returns-clause-settled : goal.returns-clause-settled
returns-clause-settled c =
    let done = c.at_slot.ensures in
    let is : done.0 ≡ slot c.args.self.now.current.now c.args.k = search (rules, done) in
    settled_put c.args.self.now.current.now c.args.self.now.synced.now _ done.0 c.args.k c.requires is done.2 done.3
