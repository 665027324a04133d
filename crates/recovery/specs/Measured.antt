-- The lengths of the databases.
use Rattle.std.specs.Prelude.{◌≡◌, ℕ, ◌+◌, ◌*◌, ◌<◌, ◌≤◌, List, [], ◌∷◌, length, Some, Ok, Err, Option, Result, slice_index}
use Rattle.card.specs.Meaning.{Bytes, Name}
use Rattle.card.specs.Calls.{length_of}
use Rattle.refusal.specs.declared.step.Step.TheVariants.{R4}
use Rattle.refusal.specs.declared.refusals.Refusal.{Refusal}
use Rattle.refusal.specs.declared.refusals.Refusal.TheVariants.{Database}
use Rattle.steps.specs.Tasks.{Task, task, at, up_to}
use Rattle.set_files.specs.Files.{Holds}
use Rattle.set_files.specs.Looked.{Told, never, never₂}

-- so many whole pages, from 1 to 4,096
pub record Pages (bytes p : ℕ) : Type 0 where
  pub whole : bytes ≡ p * 512
  pub some : 1 ≤ p
  pub few : p ≤ 4096

-- the file is present, and has so many pages
abbrev pub HasPages : Option Bytes → ℕ → Type 0
HasPages f p = (b : Bytes) × (f ≡ Some b) × Pages (length b) p

-- it is absent, or has no such length
abbrev pub NoPages : Option Bytes → Type 0
NoPages f = (p : ℕ) → HasPages f p → ⊥

pub record Sizes (files : Holds) (file : ℕ → Name) (n : ℕ) (sizes : List ℕ) : Type 0 where
  pub each : (d : ℕ) → d < n → HasPages (files (file d)) (slice_index sizes d)
  pub rest : (d : ℕ) → n ≤ d → d < 4 → slice_index sizes d ≡ 1

-- the first database without a length
pub record Unsized (files : Holds) (file : ℕ → Name) (n d : ℕ) : Type 0 where
  pub within : d < n
  pub bad : NoPages (files (file d))
  pub before : (i : ℕ) → i < d → (p : ℕ) × HasPages (files (file i)) p

abbrev pub Measured : Holds → (ℕ → Name) → ℕ → Result (List ℕ) Refusal → Type 0
Measured files file n r = Told r (Sizes files file n) never₂ never (Unsized files file n)

-- the length of the database d is asked for
abbrev pub length_tasks : (ℕ → Name) → ℕ → List Task
length_tasks file d = task (at R4 d) (file d) length_of ∷ []

-- so many databases are asked: all, or those up to the first without a length
abbrev pub asked : ℕ → Result (List ℕ) Refusal → ℕ
asked n (Ok sizes) = n
asked n (Err (Database d)) = d + 1
asked n (Err _) = n

-- the lengths of the databases, in order
abbrev pub measure_tasks : (ℕ → Name) → ℕ → Result (List ℕ) Refusal → List Task
measure_tasks file n r = up_to (length_tasks file) (asked n r)
