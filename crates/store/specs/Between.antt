-- What a set keeps between its calls: which transaction runs, what the memory is where none does, and that pages
-- past the stored size are changed.
use Rattle.std.specs.Prelude.{◌≡◌, ℕ, ◌<◌, ◌≤◌, Bool, true, false, List, slice_index}
use Rattle.pager.specs.declared.memory.Memory.{Memory}
use Rattle.pager.specs.Machine.{cleared}
use Rattle.pager.specs.Sound.{map_of}
use Rattle.pager.specs.View.{view, Stored}
use Rattle.store.specs.declared.mode.Mode.{Mode}
use Rattle.store.specs.declared.mode.Mode.TheVariants.{Cold, Ready, Running}

-- a transaction runs
abbrev pub runs : Mode → Bool
runs Cold = false
runs Ready = false
runs (Running number nonce) = true

-- the number of the running transaction; 0 if none runs
abbrev pub number_of : Mode → ℕ
number_of Cold = 0
number_of Ready = 0
number_of (Running number nonce) = number

-- what runs is the last transaction that was begun
abbrev pub Live : Mode → ℕ → Type 0
Live mode begun = runs mode ≡ true → (number_of mode ≡ begun) × (1 ≤ begun)

-- the memory shows just what is stored: nothing is changed, and no savepoint stands
pub record AsStored (memory : Memory) (rows : List ℕ) : Type 0 where
  pub sizes : memory.sizes ≡ rows
  pub view : (files : ℕ → List ℕ) → Stored files rows → view files memory ≡ cleared files

-- it does while no transaction runs
abbrev pub Rested : Mode → Memory → List ℕ → Type 0
Rested mode memory rows = runs mode ≡ false → AsStored memory rows

-- a database has in memory the pages that are stored, and each page past them is changed
pub record Grown (memory : Memory) (rows : List ℕ) : Type 0 where
  pub size : (d : ℕ) → slice_index rows d ≤ slice_index memory.sizes d
  pub past : (d p : ℕ) → slice_index rows d < p → p ≤ slice_index memory.sizes d → map_of memory.maps d p ≡ true
