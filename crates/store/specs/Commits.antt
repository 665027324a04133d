-- What a commit of a set is answered, and what it leaves.
use Rattle.std.specs.Prelude.{◌≡◌, ℕ, cond, Some, None, Ok, Err, Option, Result, ◌==◌}
use Rattle.card.specs.Meaning.{Meaning}
use Rattle.names.specs.Files.{how_many}
use Rattle.refusal.specs.declared.fault.SetFault.{SetFault}
use Rattle.refusal.specs.declared.refusals.Refusal.{Refusal}
use Rattle.sizes.specs.declared.Sizes.{Sizes}
use Rattle.pager.specs.declared.memory.Memory.{Memory}
use Rattle.pager.specs.View.{view}
use Rattle.journaling.specs.Changes.{changes}
use Rattle.commit.specs.Ended.{Committed}
use Rattle.store.specs.declared.set.Set.{Set}
use Rattle.store.specs.declared.mode.Mode.{Mode}
use Rattle.store.specs.declared.mode.Mode.TheVariants.{Cold, Ready, Running}
use Rattle.store.specs.Calls.{Fresh, told}
use Rattle.store.specs.Reads.{file_of, files_of}

-- the nonce of the running transaction; 0 if none runs
abbrev pub nonce_of : Mode → ℕ
nonce_of Cold = 0
nonce_of Ready = 0
nonce_of (Running number nonce) = nonce

-- done, the sizes of the memory are stored, and the set is ready if no journal is left, else cold; after a
-- fault it is cold, with the sizes that were stored. No transaction runs then
abbrev pub Concluded : Result ℕ SetFault → Memory → Sizes → Mode → Memory → Sizes → Type 0
Concluded (Ok left) memory stored mode' memory' stored' = (mode' ≡ cond (left == 0) Ready Cold) × (stored'.rows ≡ memory.sizes) × Fresh memory memory.sizes memory'
Concluded (Err f) memory stored mode' memory' stored' = (mode' ≡ Cold) × (stored' ≡ stored) × Fresh memory stored.rows memory'

module _ {C : Type 0} (m : Meaning C) (s : Set C) (r : Result ℕ Refusal) (s' : Set C) where
  -- the plan that the machine gives was carried out on the card, and its answer is told
  pub record CarriedOut : Type 0 where
    pub answer : Result ℕ SetFault
    pub committed : Committed m (file_of s) (nonce_of s.mode) (changes (files_of m s) s.stored.rows (view (files_of m s) s.memory) (how_many s.names)) s.card answer s'.card
    pub told : r ≡ told answer
    pub concluded : Concluded answer s.memory s.stored s'.mode s'.memory s'.stored
    pub names : s'.names ≡ s.names
    pub begun : s'.begun ≡ s.begun

  -- a stale transaction is refused, and changes nothing
  abbrev pub Commits : Option Refusal → Type 0
  Commits (Some e) = (r ≡ Err e) × (s' ≡ s)
  Commits None = CarriedOut
