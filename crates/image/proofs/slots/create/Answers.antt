use Rattle.std.proofs.Common.{rules, ◌≡◌, ℕ, ◌≤◌, true, false, [], length, is_some, Some, None, Option, Err, Result, ok_or, subst, sym, refl, ap, ◌∙◌, arith}
use Rattle.std.proofs.lemmas.Bool.Decides.{nat_tests}
use Rattle.std.proofs.lemmas.Bool.{both_ways}
use Rattle.card.specs.declared.fault.Cause.{Cause}
use Rattle.card.specs.declared.fault.Cause.TheVariants.{Present, Device}
use Rattle.card.proofs.Every.{some_none}
use Rattle.std.proofs.lemmas.Result.{err_from_is_err_and}
use Rattle.card.specs.Meaning.{Bytes}
use Rattle.card.specs.Calls.{create}
use Rattle.std.specs.Str.{bytes_eq}
use Rattle.image.specs.Layout.{named, free, content, slot, FirstSlot}
use Rattle.image.specs.Stored.{answer_of, or_device}
use Rattle.image.proofs.Named.{free_head}
use Rattle.image.proofs.Files.{answer_at, answer_named, refused, done_created, crowded_none, crowded_some}
use Rattle.image.proofs.slots.create.Goals as goal

-- what a search that found something, or nothing, tells
found : (n image : Bytes) (o : Option ℕ) → FirstSlot (named n) image o → is_some o ≡ true → Some Present ≡ answer_of create n image
found n image None none is = absurd (both_ways false refl is)
found n image (Some k) is_at is = sym (answer_at image n create k is_at)

nothing : (n image : Bytes) (o : Option ℕ) → FirstSlot (named n) image o → is_some o ≡ false → FirstSlot (named n) image None
nothing n image None none is = none
nothing n image (Some k) is_at is = absurd (both_ways true is refl)

pub returns-then-is_some : goal.returns-then-is_some
returns-then-is_some c =
    refused create c.args.name.now c.args.image.now _ (found c.args.name.now c.args.image.now c.find.result c.find.ensures (sym c.is_some.ensures ∙ c.if-is_some.true))

-- the refusal where no slot is free
full : (o : Option ℕ) (x : Cause) → ◌≡◌ {A = Result ℕ Cause} (Err x) (ok_or o Device) → o ≡ None → x ≡ Device
full None x e none = cc
full (Some k) x e none = absurd (some_none none)

pub returns-in_err-k : goal.returns-in_err-k
returns-in_err-k c =
    let image = c.args.image.now in
    let n = c.args.name.now in
    let none = nothing n image c.find.result c.find.ensures (sym c.is_some.ensures ∙ c.if-is_some.false) in
    let ok = sym c.is_name.ensures ∙ c.if-not-is_name.false in
    let taken : FirstSlot free image None = subst (FirstSlot free image) c.in_err-k.ensures.ok_part c.find_free.ensures in
    let passed = err_from_is_err_and c.from_residual.result c.from_residual.ensures.1 in
    rw (passed.1, passed.2, full _ _ c.in_err-k.ensures.value c.in_err-k.ensures.ok_part)
    (refused create n image Device (sym (answer_named image n create none ok ∙ ap (or_device None) (crowded_none image taken))))

pub at_slot-requires-clause-callable : goal.at_slot-requires-clause-callable
at_slot-requires-clause-callable c =
    let image = c.args.image.now in
    let k = c.in_ok-k.k in
    let ok = sym c.is_name.ensures ∙ c.if-not-is_name.false in
    let vacant : FirstSlot free image (Some k) = subst (FirstSlot free image) c.in_ok-k.ensures.ok_part c.find_free.ensures in
    let head : 37 ≤ length (slot image k) = free_head (slot image k) vacant.1 in
    let some : 1 ≤ length c.args.name.now = grind (arith, nat_tests, ok) in
    let short : length c.args.name.now ≤ 32 = grind (arith, nat_tests, ok) in
    λ p is. let at : 37 ≤ length p.now = rw is head in search (rules, at, some, short)

pub returns : goal.returns
returns c =
    let image = c.args.image.now in
    let n = c.args.name.now in
    let k = c.in_ok-k.k in
    let none = nothing n image c.find.result c.find.ensures (sym c.is_some.ensures ∙ c.if-is_some.false) in
    let ok = sym c.is_name.ensures ∙ c.if-not-is_name.false in
    let vacant : FirstSlot free image (Some k) = subst (FirstSlot free image) c.in_ok-k.ensures.ok_part c.find_free.ensures in
    let done = c.at_slot.ensures in
    let new = done.0 in
    let work : (content new ≡ []) × ((m : Bytes) → named m new ≡ bytes_eq n m) × (free new ≡ false) = search (rules, done) in
    record {
      answer = sym (answer_named image n create none ok ∙ ap (or_device None) (crowded_some image k vacant));
      left = done_created image n k new _ vacant.0 done.2 done.3 none vacant.1 work.0 work.1 work.2;
    }
