-- Which deletion makes a commit count, by how many databases change.
use Rattle.std.proofs.Common.{◌≡◌, ℕ, ◌<◌, ◌≤◌, cond, leb, List, [], ◌∷◌, get_or, length, refl, arith}
use Rattle.std.proofs.lemmas.List.{append-nil}
use Rattle.steps.specs.Tasks.{Task}
use Rattle.journaling.specs.Plan.{for_each}

module _ (one : ℕ → List Task) (all : List Task) where
  abbrev closing : List ℕ → List Task
  closing list = cond (leb 2 (length list)) all (for_each one list)

  pub closing_none : (list : List ℕ) → length list < 1 → closing list ≡ []
  unfolding for_each
  closing_none [] few = refl
  closing_none (d ∷ ds) few = absurd (omega arith)

  pub closing_one : (list : List ℕ) → 1 ≤ length list → length list < 2 → closing list ≡ one (get_or list 0 0)
  unfolding for_each
  closing_one [] some few = absurd (omega (arith, some))
  closing_one (d ∷ []) some few = append-nil (one d)
  closing_one (d ∷ e ∷ es) some few = absurd (omega arith)
