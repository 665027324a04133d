-- A value put in the place of another.
use Rattle.std.proofs.Common.{◌≡◌, ℕ, ◌<◌, List, length, take, drop, slice_set, arith, subst}
use Rattle.std.proofs.Math.Seq.{take-set-lt}
use Rattle.std.proofs.lemmas.List.{length-take}
use Rattle.few.specs.Items.{Few}

pub set_among : {T : Type 0} (f : Few T) (rows : List T) (used i : ℕ) (v : T) → record { items = take used rows; spare = drop used rows } ≡ f → i < length f.items → take used (slice_set rows i v) ≡ slice_set f.items i v
set_among {T} f rows used i v e = subst (λ (x : Few T). i < length x.items → take used (slice_set rows i v) ≡ slice_set x.items i v) e (λ lt. take-set-lt used rows i v (omega (arith, lt, length-take used rows)))
