use Rattle.std.proofs.Common.{rules, ◌≡◌, ℕ, ◌/◌, ◌≤◌, length, take, ap, ◌∙◌, arith}
use Rattle.image.specs.Layout.{slot, content}
use Rattle.image.proofs.Slices.{length_slot}
use Rattle.halves.specs.Halves.{kept_content}
use Rattle.halves.proofs.Keeping.{slot_kept}
use Rattle.halves.proofs.both.Halves.keep_slot.Goals as goal

pub at_slot-requires-clause-callable : goal.at_slot-requires-clause-callable
at_slot-requires-clause-callable c = λ p is.
    let long : length p.now ≡ length c.args.self.now.current.now / 16 = ap length is ∙ length_slot c.args.self.now.current.now c.args.k c.requires.within in
    let same : length p.now ≡ length c.args.self.now.synced.now / 16 = long ∙ ap (λ (n : ℕ). n / 16) c.args.self.now.equal in
    let head : 37 ≤ length p.now = omega (arith, long) in
    search (rules, same, head)

pub returns : goal.returns
returns c =
    let current = c.args.self.now.current.now in
    let synced = c.args.self.now.synced.now in
    let k = c.args.k in
    let done = c.at_slot.ensures in
    let new = done.0 in
    let work : (content new ≡ kept_content c.args.choice (content (slot current k)) (content (slot synced k))) × (take 33 new ≡ take 33 (slot current k)) = search (rules, done) in
    slot_kept c.args.choice current synced _ new _ _ k c.requires.within done.2 work.1 work.0 done.3 c.settle.ensures.current c.settle.ensures.settled
