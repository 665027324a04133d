use Rattle.std.proofs.Common.{◌≡◌, ◌+◌, ◌-◌, max, length, take, drop, ap, ◌∙◌, arith}
use borrow.Rule.Slice.PartMut.{put_mid}
use Rattle.card.specs.Calls.{overwrite}
use Rattle.card.specs.Numbers.{number_at}
use Rattle.image.specs.Layout.{content}
use Rattle.image.proofs.Bytes.{put_overwrite, overwrite_take, content_put}
use Rattle.image.proofs.slot.put_bytes.Goals as goal

pub returns : goal.returns
returns c =
    let s = c.args.slot.now in
    let bytes = c.args.bytes.now in
    let from = 37 + c.args.place in
    let put : put_mid from (from + length bytes - from) s c.copy_from_slice.new.self ≡ overwrite s from bytes =
    put_overwrite from (from + length bytes - from) s c.copy_from_slice.new.self bytes c.copy_from_slice.ensures.after (omega arith) in
    let number : number_at c.put_length.new.slot 33 ≡ max (length (content s)) (c.args.place + length bytes) = omega arith in
    record {
      content = content_put s c.put_length.new.slot c.args.place bytes c.requires.head c.requires.inside c.requires.fits (c.put_length.ensures.after ∙ ap (drop 37) put) number;
      name = c.put_length.ensures.before ∙ ap (take 33) put ∙ overwrite_take s from bytes c.requires.fits 33 (omega arith);
    }
