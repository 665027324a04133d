-- What `any` over a range of numbers tells.
use Rattle.std.proofs.Common.{ℕ, ◌<◌, Bool, true, false, length, refl, sym, ◌∙◌, subst, zero-add, arith}
use Rattle.std.proofs.lemmas.Bool.{false≢true}
use Rattle.std.proofs.lemmas.List.FromFn.{length-range_with_len, get_or-range_with_len}
use Rattle.std.specs.Bool.{MatchBool, Decides}
use Rattle.std.specs.List.{range_with_len, AllWithin, HoldsAt}

pub below_decides : (r : Bool) (n : ℕ) (P : ℕ → Type 0) →
    MatchBool r ((k : ℕ) × (k < length (range_with_len 0 n)) × HoldsAt P (range_with_len 0 n) k) (AllWithin (λ k. P k → ⊥) (range_with_len 0 n) 0 (length (range_with_len 0 n))) →
    Decides r ((k : ℕ) × (k < n) × P k)
below_decides true n P some =
    let long = length-range_with_len 0 n in
    let lt : some.0 < n = omega (arith, some.1) in
    (λ _. (some.0, lt, subst P (get_or-range_with_len 0 n some.0 0 lt ∙ zero-add some.0) (some.2 0)), λ _. refl)
below_decides false n P none =
    let long = length-range_with_len 0 n in (
      λ e. absurd (false≢true e),
      λ w. absurd (none w.0 0 (omega arith) (omega (arith, w.1)) (subst P (sym (get_or-range_with_len 0 n w.0 0 w.1 ∙ zero-add w.0)) w.2)),
    )
