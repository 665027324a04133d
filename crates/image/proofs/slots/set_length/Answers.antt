use Rattle.std.proofs.Common.{rules, ◌≡◌, ◌+◌, ◌^◌, ◌<◌, ◌≤◌, true, false, length, take, Some, sym, refl, ap, ◌∙◌, arith}
use Rattle.std.proofs.lemmas.Result.{err_from_is_err_and}
use Rattle.std.proofs.lemmas.Bool.{lt-leb, le-leb, lt-ltb, le-ltb}
use Rattle.card.specs.Calls.{set_length, resized, file_limit}
use Rattle.image.specs.Layout.{content, slot, room}
use Rattle.image.proofs.Named.{named_parts}
use Rattle.image.proofs.Slices.{length_slot}
use Rattle.image.proofs.Files.{answer_range, answer_room, done_changed, refused, refused_passed}
use Rattle.image.proofs.slots.set_length.Goals as goal

pub returns-in_err-k : goal.returns-in_err-k
returns-in_err-k c = refused_passed (set_length c.args.length) c.args.name.now c.args.image.now _ _ (err_from_is_err_and c.from_residual.result c.from_residual.ensures.1) c.in_err-k.ensures refl

pub returns-then-length-gt-FILE_LIMIT : goal.returns-then-length-gt-FILE_LIMIT
returns-then-length-gt-FILE_LIMIT c =
    let op = set_length c.args.length in
    refused op c.args.name.now c.args.image.now _
    (answer_range c.args.image.now c.args.name.now op c.in_ok-k.k _ c.in_ok-k.ensures refl (lt-leb c.args.length file_limit c.if-length-gt-FILE_LIMIT.true))

pub returns-then-length-room : goal.returns-then-length-room
returns-then-length-room c =
    let image = c.args.image.now in
    let op = set_length c.args.length in
    let full = lt-ltb (room image) c.args.length (omega (arith, c.room.ensures)) in
    refused op c.args.name.now image _
    (sym (answer_room image c.args.name.now op c.in_ok-k.k _ true c.in_ok-k.ensures refl (le-leb c.args.length file_limit c.if-length-gt-FILE_LIMIT.false) full))

pub at_slot-requires-clause-callable : goal.at_slot-requires-clause-callable
at_slot-requires-clause-callable c =
    let image = c.args.image.now in
    let k = c.in_ok-k.k in
    let found = c.in_ok-k.ensures in
    let head = (named_parts c.args.name.now (slot image k) found.1).1 in
    let long = length_slot image k found.0 in
    let fits : 37 + c.args.length ≤ length (slot image k) = omega (arith, c.room.ensures) in
    let small : c.args.length < 2 ^ 32 = omega arith in
    λ p is. let room : 37 + c.args.length ≤ length p.now = rw is fits in search (rules, room, small)

pub returns : goal.returns
returns c =
    let image = c.args.image.now in
    let n = c.args.name.now in
    let k = c.in_ok-k.k in
    let op = set_length c.args.length in
    let found = c.in_ok-k.ensures in
    let done = c.at_slot.ensures in
    let new = done.0 in
    let fits = le-ltb (room image) c.args.length (omega (arith, c.room.ensures)) in
    let work : (content new ≡ resized (content (slot image k)) c.args.length) × (take 33 new ≡ take 33 (slot image k)) = search (rules, done) in
    record {
      answer = sym (answer_room image n op k _ false found refl (le-leb c.args.length file_limit c.if-length-gt-FILE_LIMIT.false) fits);
      left = done_changed image n k new _ found.0 done.2 done.3 op found (done.2 ∙ sym (length_slot image k found.0)) work.1 (λ was is e. e) (sym (ap Some work.0));
    }
