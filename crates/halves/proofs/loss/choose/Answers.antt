use Rattle.std.proofs.Common.{◌≡◌, ◌-◌, [], ◌++◌, length, take, drop, sym, ap, ◌∙◌, arith, length-drop}
use borrow.Rule.Slice.PartMut.{put_mid}
use Rattle.std.proofs.lemmas.Slice.{take-put_mid_below}
use Rattle.std.proofs.lemmas.List.{take_rest, drop_at, length-take-le, append-nil, drop_all}
use Rattle.card.specs.Meaning.{Bytes}
use Rattle.image.specs.Layout.{content}
use Rattle.halves.specs.declared.kept.Kept.{Kept}
use Rattle.halves.specs.Halves.{kept_content}
use Rattle.halves.proofs.Mixing.{content_after}
use Rattle.halves.proofs.loss.choose.Goals as goal

pub returns-in-Synced : goal.returns-in-Synced
returns-in-Synced c =
    let current = c.args.current.now in
    let synced = c.args.synced.now in
    let n = length current - 33 in
    let new = c.copy_from_slice.new.self in
    let is : new ≡ drop 33 synced = c.copy_from_slice.ensures.after ∙ take_rest synced 33 in
    let end : drop n (drop 33 current) ≡ [] = drop_all n (drop 33 current) (simp length-drop (omega arith)) in
    let rest : drop 33 (put_mid 33 n current new) ≡ drop 33 synced =
    drop_at (take 33 current) _ 33 (length-take-le 33 current (omega arith)) ∙ ap (λ (l : Bytes). new ++ l) end ∙ append-nil new ∙ is in
    record {
      content = content_after (put_mid 33 n current new) synced rest ∙ ap (λ (k : Kept). kept_content k (content current) (content synced)) (sym c.in-Synced.is);
      name = take-put_mid_below 33 n current new 33 (omega arith) (omega arith);
    }
