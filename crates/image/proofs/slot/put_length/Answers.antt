use Rattle.std.proofs.Common.{◌≡◌, take, drop, ap, ◌∙◌, arith}
use borrow.Rule.Slice.PartMut.{put_mid}
use Rattle.card.specs.Meaning.{Bytes}
use Rattle.card.specs.Calls.{overwrite}
use Rattle.card.specs.Numbers.{number_at, number_bytes}
use Rattle.card.proofs.Numbers.{number_put}
use Rattle.image.proofs.Bytes.{put_overwrite, overwrite_take, overwrite_drop}
use Rattle.image.proofs.slot.put_length.Goals as goal

pub returns : goal.returns
returns c =
    let s = c.args.slot.now in
    let n = c.args.length in
    let put : put_mid 33 4 s c.copy_from_slice.new.self ≡ overwrite s 33 (number_bytes n) =
    put_overwrite 33 4 s c.copy_from_slice.new.self (number_bytes n) (c.copy_from_slice.ensures.after ∙ c.to_be_bytes-bytes.ensures) (omega arith) in
    record {
      before = ap (take 33) put ∙ overwrite_take s 33 (number_bytes n) (omega arith) 33 (omega arith);
      number = ap (λ (x : Bytes). number_at x 33) put ∙ number_put s 33 n (omega arith) c.requires.small;
      after = ap (drop 37) put ∙ overwrite_drop s 33 (number_bytes n) (omega arith) 37 (omega arith);
    }
