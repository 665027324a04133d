use Rattle.std.proofs.Common.{◌≡◌, ℕ, ◌+◌, ◌-◌, min, length, take, drop, replicate, refl, ap, ◌∙◌, arith, length-drop, length-take}
use lib.ListN.{length-replicate}
use borrow.Rule.Slice.PartMut.{put_mid}
use Rattle.card.specs.Calls.{overwrite}
use Rattle.image.specs.Layout.{content}
use Rattle.image.proofs.Bytes.{put_overwrite, overwrite_take, content_resized}
use Rattle.image.proofs.slot.resize.Goals as goal

pub returns : goal.returns
returns c =
    let s = c.args.slot.now in
    let n = c.args.length in
    let kept = c.min-kept.result in
    let size = 37 + n - (37 + kept) in
    let is : kept ≡ min (length (content s)) n = omega arith in
    let count : length (take size (drop (37 + kept) s)) ≡ n - kept = simp (length-take, length-drop) (omega arith) in
    let zeros : c.fill.new.self ≡ replicate (n - kept) 0 = c.fill.ensures.after (λ y h. h) ∙ ap (λ (k : ℕ). replicate k 0) count in
    let put : put_mid (37 + kept) size s c.fill.new.self ≡ overwrite s (37 + kept) (replicate (n - kept) 0) =
    put_overwrite (37 + kept) size s c.fill.new.self (replicate (n - kept) 0) zeros (omega (arith, length-replicate {A = ℕ} (n - kept) 0)) in
    record {
      content = content_resized s c.put_length.new.slot (replicate (n - kept) 0) n kept c.requires.fits is refl (c.put_length.ensures.after ∙ ap (drop 37) put) c.put_length.ensures.number;
      name = c.put_length.ensures.before ∙ ap (take 33) put ∙ overwrite_take s (37 + kept) (replicate (n - kept) 0) (omega (arith, length-replicate {A = ℕ} (n - kept) 0)) 33 (omega arith);
    }
