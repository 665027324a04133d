-- Why the calls of a set are refused, the test of the mode first and then those of the memory; and what they
-- leave alone.
use Rattle.std.specs.Prelude.{◌≡◌, ◌≢◌, ℕ, cond, ◌&&◌, List, [], length, Some, None, Ok, Err, Option, Result, ◌==◌, nat_le}
use Rattle.refusal.specs.declared.fault.SetFault.{SetFault}
use Rattle.refusal.specs.declared.refusals.Refusal.{Refusal}
use Rattle.refusal.specs.declared.refusals.Refusal.TheVariants.{SavepointsFull, NoSavepoint, Card}
use Rattle.refusal.specs.Results.{refused}
use Rattle.pager.specs.declared.memory.Memory.{Memory}
use Rattle.pager.specs.Machine.{cleared}
use Rattle.pager.specs.View.{view, Stored, write_refusal}
use Rattle.store.specs.declared.set.Set.{Set}
use Rattle.store.specs.declared.mode.Mode.{Mode}
use Rattle.store.specs.declared.mode.Call.TheVariants.{Use}
use Rattle.store.specs.Modes.{says}

-- the first refusal of two tests
abbrev pub or_else : Option Refusal → Option Refusal → Option Refusal
or_else None later = later
or_else (Some e) later = Some e

module _ (mode : Mode) (begun number : ℕ) (memory : Memory) where
  abbrev pub writing_refusal : ℕ → ℕ → ℕ → Option Refusal
  writing_refusal d p long = or_else (says mode begun (Use number)) (write_refusal memory d p long)

  abbrev pub savepoint_refusal : Option Refusal
  savepoint_refusal = or_else (says mode begun (Use number)) (cond (length memory.levels.items == 8) (Some SavepointsFull) None)

  abbrev pub release_refusal : ℕ → Option Refusal
  release_refusal s = or_else (says mode begun (Use number)) (cond (nat_le 1 s && nat_le s (length memory.levels.items)) None (Some NoSavepoint))

-- a memory is cleared to sizes: nothing is changed, and no savepoint stands
pub record Fresh (before : Memory) (rows : List ℕ) (after : Memory) : Type 0 where
  pub count : after.count ≡ before.count
  pub sizes : after.sizes ≡ rows
  pub changed : after.changed.rows.items ≡ []
  pub saved : after.saved.rows.items ≡ []
  pub view : (files : ℕ → List ℕ) → Stored files rows → view files after ≡ cleared files

-- what the card answered, as the set tells it
abbrev pub told : {V : Type 0} → Result V SetFault → Result V Refusal
told (Ok v) = Ok v
told (Err f) = Err (Card f)

-- a refused call leaves the whole set as it was
abbrev pub KeptIfRefused : {C : Type 0} {V : Type 0} → Result V Refusal → Set C → Set C → Type 0
KeptIfRefused r s s' = (refused r ≢ None) → s' ≡ s

-- all but the mode and the count of transactions is as it was
pub record ButMode {C : Type 0} (s s' : Set C) : Type 0 where
  pub card : s'.card ≡ s.card
  pub names : s'.names ≡ s.names
  pub memory : s'.memory ≡ s.memory
  pub stored : s'.stored ≡ s.stored
  pub buffer : s'.buffer ≡ s.buffer

-- all but the mode, the memory and the stored sizes is as it was
pub record ButRun {C : Type 0} (s s' : Set C) : Type 0 where
  pub card : s'.card ≡ s.card
  pub names : s'.names ≡ s.names
  pub begun : s'.begun ≡ s.begun
  pub buffer : s'.buffer ≡ s.buffer

-- all but the memory is as it was
pub record ButMemory {C : Type 0} (s s' : Set C) : Type 0 where
  pub card : s'.card ≡ s.card
  pub names : s'.names ≡ s.names
  pub stored : s'.stored ≡ s.stored
  pub mode : s'.mode ≡ s.mode
  pub begun : s'.begun ≡ s.begun
  pub buffer : s'.buffer ≡ s.buffer
