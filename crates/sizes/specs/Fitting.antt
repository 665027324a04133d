-- Sizes of four databases in pages: each is 1 to 4,096.
use Rattle.std.specs.Prelude.{ℕ, ◌<◌, ◌≤◌, List, slice_index}

abbrev pub Fitting : List ℕ → Type 0
Fitting rows = (i : ℕ) → i < 4 → (1 ≤ slice_index rows i) × (slice_index rows i ≤ 4096)
