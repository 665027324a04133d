use Rattle.std.proofs.Common.{rules, ◌≡◌, ℕ, ◌≤◌, true, length, subst, arith}
use Rattle.image.specs.Layout.{free, slot}
use Rattle.image.proofs.Slices.{length_slot}
use Rattle.image.proofs.Freeing.{Vacant, vacant_none, vacant_more, empty_vacant, empty_small}
use Rattle.image.proofs.empty.clear.Goals as goal

pub returns-then-slot_size-lt-HEAD : goal.returns-then-slot_size-lt-HEAD
returns-then-slot_size-lt-HEAD c = empty_small c.args.image.now (omega arith)

pub loop-k-init : goal.loop-k-init
loop-k-init c = vacant_none c.args.image.now (omega arith)

pub at_slot-requires-clause-callable : goal.at_slot-requires-clause-callable
at_slot-requires-clause-callable c =
    let head : 37 ≤ length (slot c.loop-k.image c.loop-k.k) = omega (arith, c.loop-k.invariant.large, length_slot c.loop-k.image c.loop-k.k (omega arith)) in
    λ p is. let at : 37 ≤ length p.now = rw is head in search (rules, at)

pub loop-k-preserved : goal.loop-k-preserved
loop-k-preserved c =
    let done = c.at_slot.ensures in
    let vacant : free done.0 ≡ true = search (rules, done) in
    vacant_more c.loop-k.image c.loop-k.k c.loop-k.invariant done.0 _ (omega arith) done.2 vacant done.3

pub returns : goal.returns
returns c =
    let all : c.loop-k.k ≡ 16 = omega arith in
    empty_vacant c.loop-k.image (subst (λ (k : ℕ). Vacant c.loop-k.image k) all c.loop-k.invariant)
