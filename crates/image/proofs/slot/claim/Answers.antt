use Rattle.std.proofs.Common.{◌≡◌, ◌-◌, ◌≤◌, length, get_or, take, set, sym, refl, ap, ◌∙◌, arith}
use borrow.Rule.Slice.PartMut.{put_mid}
use Rattle.std.proofs.lemmas.List.{get_or-set_same, get_or-take, take-set-le, take-take, take_at, length-set, nil_from_length}
use Rattle.card.specs.Meaning.{Bytes}
use Rattle.card.specs.Calls.{overwrite}
use Rattle.image.proofs.Bytes.{put_overwrite, overwrite_length, length_content}
use Rattle.image.proofs.Named.{named_as, not_free}
use Rattle.image.proofs.slot.claim.Goals as goal

pub returns : goal.returns
returns c =
    let s = c.args.slot.now in
    let name = c.args.name.now in
    let n = length name in
    let s₁ = overwrite s 0 name in
    let s₂ = set s₁ 32 n in
    let s' = c.put_length.new.slot in
    let put : put_mid 0 (n - 0) s c.copy_from_slice.new.self ≡ s₁ = put_overwrite 0 (n - 0) s c.copy_from_slice.new.self name c.copy_from_slice.ensures.after (omega arith) in
    let long : length s₁ ≡ length s = overwrite_length s 0 name (omega arith) in
    let before : take 33 s' ≡ take 33 s₂ = c.put_length.ensures.before ∙ ap (λ (x : Bytes). take 33 (set x 32 n)) put in
    let size : get_or s' 32 0 ≡ n =
    sym (get_or-take 33 s' 32 0 (omega arith)) ∙ ap (λ (x : Bytes). get_or x 32 0) before ∙ get_or-take 33 s₂ 32 0 (omega arith) ∙ get_or-set_same s₁ 32 n 0 (omega (arith, long)) in
    let short : n ≤ 33 = omega arith in
    let front : take n s' ≡ name =
    sym (take-take n 33 s' short) ∙ ap (take n) before ∙ take-take n 33 s₂ short ∙ take-set-le n s₁ 32 n (omega arith) ∙ take_at name _ n refl in
    let head : 37 ≤ length s' = omega (arith, c.put_length.auto.slot, ap length put, long, length-set (put_mid 0 (n - 0) s c.copy_from_slice.new.self) 32 n) in
    record {
      content = nil_from_length _ (length_content s' ∙ omega (arith, c.put_length.ensures.number));
      named = λ m. named_as name m s' head c.requires.some c.requires.short size front;
      taken = not_free s' (omega (arith, size));
    }
