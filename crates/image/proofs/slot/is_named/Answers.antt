use Rattle.std.proofs.Common.{◌≡◌, length, take, arith}
use Rattle.std.proofs.lemmas.Bool.Decides.{nat_tests, same_from_decides, Decides-eqb}
use Rattle.std.proofs.lemmas.Slice.Eq.{slice_eq-Decides, bytes_eq-Decides}
use Rattle.std.specs.Str.{bytes_eq}
use Rattle.image.specs.Layout.{named}
use Rattle.image.proofs.slot.is_named.Goals as goal

pub returns-then-from-name : goal.returns-then-from-name
unfolding named
returns-then-from-name c =
    let front = take (length c.args.name.now) c.args.slot.now in
    let same : c.eq.result ≡ bytes_eq front c.args.name.now = same_from_decides _ _ (slice_eq-Decides Decides-eqb _ _ _ c.eq.ensures) (bytes_eq-Decides front c.args.name.now) in
    grind (arith, nat_tests, same)

pub returns-else-from-name : goal.returns-else-from-name
unfolding named
returns-else-from-name c = grind (arith, nat_tests)
