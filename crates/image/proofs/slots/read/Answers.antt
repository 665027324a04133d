use Rattle.std.proofs.Common.{◌≡◌, ℕ, ◌+◌, ◌-◌, false, leb, length, Option, sym, refl, ap, ◌∙◌, ap₂, arith}
use Rattle.std.proofs.lemmas.Result.{err_from_is_err_and}
use Rattle.card.specs.Meaning.{Bytes}
use Rattle.card.specs.Calls.{read, part_of, part}
use Rattle.image.specs.Layout.{content, slot}
use Rattle.image.proofs.Named.{named_parts}
use Rattle.image.proofs.Files.{held_at, answer_range, answer_room, done_looked, refused, refused_passed}
use Rattle.image.proofs.slots.read.Goals as goal

pub returns-in_err-k-clause-stored : goal.returns-in_err-k-clause-stored
returns-in_err-k-clause-stored c = refused_passed (read c.args.place (length c.args.buffer.now)) c.args.name.now c.args.image.now _ _ (err_from_is_err_and c.from_residual.result c.from_residual.ensures.1) c.in_err-k.ensures refl

pub content-file-requires : goal.content-file-requires
content-file-requires c =
    let head = (named_parts c.args.name.now (slot c.args.image.now c.in_ok-k.k) c.in_ok-k.ensures.1).1 in
    rw c.slot_at.ensures.is head

pub returns-then-not-ends_within : goal.returns-then-not-ends_within
returns-then-not-ends_within c =
    let image = c.args.image.now in
    let n = c.args.name.now in
    let k = c.in_ok-k.k in
    let count = length c.args.buffer.now in
    let op = read c.args.place count in
    let is : c.content-file.result.now ≡ content (slot image k) = c.content-file.ensures.is ∙ ap content c.slot_at.ensures.is in
    let out : leb (c.args.place + count) (length (content (slot image k))) ≡ false =
    ap (λ (b : Bytes). leb (c.args.place + count) (length b)) (sym is) ∙ sym c.ends_within.ensures ∙ c.if-not-ends_within.true in
    record { stored = refused op n image _ (answer_range image n op k _ c.in_ok-k.ensures refl out); told = refl }

pub returns : goal.returns
returns c =
    let image = c.args.image.now in
    let n = c.args.name.now in
    let k = c.in_ok-k.k in
    let place = c.args.place in
    let count = length c.args.buffer.now in
    let op = read place count in
    let is : c.content-file.result.now ≡ content (slot image k) = c.content-file.ensures.is ∙ ap content c.slot_at.ensures.is in
    let within = ap (λ (b : Bytes). leb (place + count) (length b)) (sym is) ∙ sym c.ends_within.ensures ∙ c.if-not-ends_within.false in
    let size : place + count - place ≡ count = omega arith in
    record {
      stored = record { answer = sym (answer_room image n op k _ false c.in_ok-k.ensures refl within refl); left = done_looked op n image refl (λ m. refl) };
      told =
          c.copy_from_slice.ensures.after ∙ ap₂ (λ (b : Bytes) (m : ℕ). part b place m) is size
          ∙ sym (ap (λ (f : Option Bytes). part_of f place count) (held_at image n k c.in_ok-k.ensures));
    }
