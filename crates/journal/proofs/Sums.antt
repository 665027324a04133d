-- The sum of bytes is small.
use Rattle.std.proofs.Common.{suc, ◌*◌, ◌≤◌, [], ◌∷◌, length, arith}
use Rattle.std.specs.List.{sum}
use Rattle.std.proofs.lemmas.List.Sums.{sum_by-cons}
use Rattle.card.specs.Meaning.{Bytes}
use Rattle.journal.specs.Format.{Octets}

pub sum_small : (xs : Bytes) → Octets xs → sum xs ≤ 255 * length xs
sum_small [] fit = omega arith
sum_small (x ∷ xs) fit = omega (arith, fit 0, sum_by-cons (λ n. n) x xs, sum_small xs (λ k. fit (suc k)))
