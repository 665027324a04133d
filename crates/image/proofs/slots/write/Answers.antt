use Rattle.std.proofs.Common.{rules, ◌≡◌, ℕ, ◌+◌, ◌^◌, ◌<◌, ◌≤◌, Bool, true, false, cond, leb, length, take, Some, sym, refl, ap, ◌∙◌, arith}
use Rattle.std.proofs.lemmas.Result.{err_from_is_err_and}
use Rattle.std.proofs.lemmas.Bool.{leb-true, leb-false, lt-ltb, le-ltb}
use Rattle.card.specs.Meaning.{Bytes}
use Rattle.card.specs.Calls.{write, file_limit, overwrite}
use Rattle.card.proofs.Tested.{passed_both}
use Rattle.image.specs.Layout.{content, slot, room}
use Rattle.image.proofs.Named.{named_parts}
use Rattle.image.proofs.Slices.{length_slot}
use Rattle.image.proofs.Files.{answer_range, answer_room, done_changed, refused, refused_passed}
use Rattle.image.proofs.slots.write.Goals as goal

pub returns-in_err-k : goal.returns-in_err-k
returns-in_err-k c = refused_passed (write c.args.place c.args.bytes.now) c.args.name.now c.args.image.now _ _ (err_from_is_err_and c.from_residual.result c.from_residual.ensures.1) c.in_err-k.ensures refl

pub content-requires : goal.content-requires
content-requires c =
    let head = (named_parts c.args.name.now (slot c.args.image.now c.in_ok-k.k) c.in_ok-k.ensures.1).1 in
    rw c.slot_at.ensures.is head

-- the test of the range, as the file's content has it
inside : (place size limit-end : ℕ) (b s : Bytes) → b ≡ s → size ≡ length (content b) → (r : Bool) → r ≡ cond (leb place size) (leb limit-end file_limit) false → cond (leb place (length (content s))) (leb limit-end file_limit) false ≡ r
inside place size limit-end b s e is r told = ap (λ (m : ℕ). cond (leb place m) (leb limit-end file_limit) false) (sym (is ∙ ap (λ (x : Bytes). length (content x)) e)) ∙ sym told

pub returns-then-not-may_write : goal.returns-then-not-may_write
returns-then-not-may_write c =
    let image = c.args.image.now in
    let bytes = c.args.bytes.now in
    let op = write c.args.place bytes in
    let out = inside c.args.place (length c.content.result.now) (c.args.place + length bytes) _ _ c.slot_at.ensures.is (ap length c.content.ensures.is) _ c.may_write.ensures ∙ c.if-not-may_write.true in
    refused op c.args.name.now image _ (answer_range image c.args.name.now op c.in_ok-k.k _ c.in_ok-k.ensures refl out)

pub returns-then-not-ends_within : goal.returns-then-not-ends_within
returns-then-not-ends_within c =
    let image = c.args.image.now in
    let bytes = c.args.bytes.now in
    let op = write c.args.place bytes in
    let within = inside c.args.place (length c.content.result.now) (c.args.place + length bytes) _ _ c.slot_at.ensures.is (ap length c.content.ensures.is) _ c.may_write.ensures ∙ c.if-not-may_write.false in
    let over = leb-false (c.args.place + length bytes) c.room.result (sym c.ends_within.ensures ∙ c.if-not-ends_within.true) in
    let full = lt-ltb (room image) (c.args.place + length bytes) (omega (arith, over, c.room.ensures)) in
    refused op c.args.name.now image _ (sym (answer_room image c.args.name.now op c.in_ok-k.k _ true c.in_ok-k.ensures refl within full))

pub at_slot-requires-clause-callable : goal.at_slot-requires-clause-callable
at_slot-requires-clause-callable c =
    let image = c.args.image.now in
    let k = c.in_ok-k.k in
    let place = c.args.place in
    let bytes = c.args.bytes.now in
    let found = c.in_ok-k.ensures in
    let head = (named_parts c.args.name.now (slot image k) found.1).1 in
    let long = length_slot image k found.0 in
    let both = passed_both (leb place (length (content (slot image k)))) (leb (place + length bytes) file_limit)
    (inside place (length c.content.result.now) (place + length bytes) _ _ c.slot_at.ensures.is (ap length c.content.ensures.is) _ c.may_write.ensures ∙ c.if-not-may_write.false) in
    let under = leb-true (place + length bytes) c.room.result (sym c.ends_within.ensures ∙ c.if-not-ends_within.false) in
    let fits : 37 + place + length bytes ≤ length (slot image k) = omega (arith, c.room.ensures, under, head, long) in
    let limit = leb-true (place + length bytes) file_limit both.1 in
    let small : place + length bytes < 2 ^ 32 = omega (arith, limit) in
    λ p is.
    let at : 37 ≤ length p.now = rw is head in
    let start : place ≤ length (content p.now) = rw is (leb-true place (length (content (slot image k))) both.0) in
    let room : 37 + place + length bytes ≤ length p.now = rw is fits in
    search (rules, at, start, room, small)

pub returns : goal.returns
returns c =
    let image = c.args.image.now in
    let n = c.args.name.now in
    let k = c.in_ok-k.k in
    let bytes = c.args.bytes.now in
    let op = write c.args.place bytes in
    let found = c.in_ok-k.ensures in
    let done = c.at_slot.ensures in
    let new = done.0 in
    let within = inside c.args.place (length c.content.result.now) (c.args.place + length bytes) _ _ c.slot_at.ensures.is (ap length c.content.ensures.is) _ c.may_write.ensures ∙ c.if-not-may_write.false in
    let under = leb-true (c.args.place + length bytes) c.room.result (sym c.ends_within.ensures ∙ c.if-not-ends_within.false) in
    let fits = le-ltb (room image) (c.args.place + length bytes) (omega (arith, under, c.room.ensures)) in
    let work : (content new ≡ overwrite (content (slot image k)) c.args.place bytes) × (take 33 new ≡ take 33 (slot image k)) = search (rules, done) in
    record {
      answer = sym (answer_room image n op k _ false found refl within fits);
      left = done_changed image n k new _ found.0 done.2 done.3 op found (done.2 ∙ sym (length_slot image k found.0)) work.1 (λ was is e. e) (sym (ap Some work.0));
    }
