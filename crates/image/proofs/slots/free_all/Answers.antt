use Rattle.std.proofs.Common.{rules, ◌≡◌, ◌≤◌, true, length}
use Rattle.image.specs.Layout.{named, free, slot}
use Rattle.image.proofs.Named.{named_parts}
use Rattle.image.proofs.Freeing.{freeing_none, freeing_more, freeing_gain, freed, named_taken}
use Rattle.image.proofs.slots.free_all.Goals as goal

pub loop-k-init : goal.loop-k-init
loop-k-init c = freeing_none (named c.args.name.now) c.args.image.now

pub at_slot-requires-clause-callable : goal.at_slot-requires-clause-callable
at_slot-requires-clause-callable c =
    let head : 37 ≤ length (slot c.loop-k.image c.in-Some.k) = (named_parts c.args.name.now (slot c.loop-k.image c.in-Some.k) c.in-Some.ensures.1).1 in
    λ p is. let at : 37 ≤ length p.now = rw is head in search (rules, at)

pub loop-k-smaller : goal.loop-k-smaller
loop-k-smaller c =
    let n = c.args.name.now in
    let found = c.in-Some.ensures in
    let done = c.at_slot.ensures in
    let vacant : free done.0 ≡ true = search (rules, done) in
    freeing_gain (named n) c.args.image.now c.loop-k.image c.loop-k.invariant c.in-Some.k done.0 _ found.0 found.1 done.2 vacant done.3 (named_taken n (slot c.loop-k.image c.in-Some.k) found.1)

pub loop-k-preserved : goal.loop-k-preserved
loop-k-preserved c =
    let found = c.in-Some.ensures in
    let done = c.at_slot.ensures in
    let vacant : free done.0 ≡ true = search (rules, done) in
    freeing_more (named c.args.name.now) c.args.image.now c.loop-k.image c.loop-k.invariant c.in-Some.k done.0 _ found.0 found.1 done.2 vacant done.3

pub returns : goal.returns
returns c = freed (named c.args.name.now) c.args.image.now c.loop-k.image c.loop-k.invariant c.in_default.ensures
