use Rattle.std.proofs.Common.{rules, ◌≡◌, ℕ, ◌+◌, ◌-◌, ◌≤◌, max, length, take, drop, ap, ◌∙◌, subst, arith}
use Rattle.card.specs.Meaning.{Bytes}
use Rattle.card.specs.Calls.{resized}
use Rattle.card.proofs.Contents.{length_resized}
use Rattle.image.specs.Layout.{content}
use Rattle.image.proofs.Bytes.{content_within}
use Rattle.halves.specs.Halves.{MixedBelow}
use Rattle.halves.proofs.Mixing.{mixed_all, file_bytes, put_content, put_name}
use Rattle.halves.proofs.loss.mix.Goals as goal

pub resize-requires-clause-fits : goal.resize-requires-clause-fits
resize-requires-clause-fits c =
    omega (arith, ap length c.content-file.ensures.is, ap length c.content.ensures.is, content_within c.args.current.now c.requires.head, content_within c.args.synced.now (omega arith))

pub slice_bounds-byte-items-end : goal.slice_bounds-byte-items-end
slice_bounds-byte-items-end c =
    let long : length (content c.resize.new.slot) ≡ c.max-length.result = ap length c.resize.ensures.content ∙ length_resized (content c.args.current.now) c.max-length.result in
    let fits : 37 + c.max-length.result ≤ length c.resize.new.slot = omega (arith, long, content_within c.resize.new.slot (omega arith)) in
    search (rules, fits)

pub returns-clause-content : goal.returns-clause-content
returns-clause-content c =
    let old = content c.args.current.now in
    let synced = content c.args.synced.now in
    let n = c.max-length.result in
    let mid = c.resize.new.slot in
    let items = c.loop-place.byte-items in
    let n-is : n ≡ max (length old) (length synced) = omega (arith, ap length c.content-file.ensures.is, ap length c.content.ensures.is) in
    let long : length (content mid) ≡ n = ap length c.resize.ensures.content ∙ length_resized old n in
    let fits : 37 + n ≤ length mid = omega (arith, long, content_within mid (omega arith)) in
    let from = file_bytes mid n long fits in
    let same : length items ≡ n = c.loop-place.auto.byte-items ∙ ap length from ∙ long in
    let all : c.loop-place.place ≡ max (length old) (length synced) = omega (arith, n-is, same, c.loop-place.auto.byte-items) in
    let before = take (37 + n - 37) (drop 37 mid) in
    let mix : MixedBelow before synced (max (length old) (length synced)) items =
    subst (λ (s : Bytes). MixedBelow before s (max (length old) (length synced)) items) c.content-file.ensures.is
    (subst (λ (k : ℕ). MixedBelow before c.content-file.result.now k items) all c.loop-place.invariant) in
    put_content mid n long fits items same
    ∙ mixed_all before synced old items (from ∙ c.resize.ensures.content ∙ ap (resized old) n-is) mix (same ∙ n-is)

pub returns-clause-name : goal.returns-clause-name
returns-clause-name c =
    let n = c.max-length.result in
    let mid = c.resize.new.slot in
    let long : length (content mid) ≡ n = ap length c.resize.ensures.content ∙ length_resized (content c.args.current.now) n in
    let fits : 37 + n ≤ length mid = omega (arith, long, content_within mid (omega arith)) in
    put_name mid n long fits c.loop-place.byte-items (c.loop-place.auto.byte-items ∙ ap length (file_bytes mid n long fits) ∙ long) ∙ c.resize.ensures.name
