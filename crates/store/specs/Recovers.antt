-- What a recovery of a set is answered, and what it leaves.
use Rattle.std.specs.Prelude.{◌≡◌, Ok, Err, Result}
use Rattle.card.specs.Meaning.{Meaning}
use Rattle.names.specs.Files.{how_many}
use Rattle.refusal.specs.declared.refusals.Refusal.{Refusal}
use Rattle.sizes.specs.declared.Sizes.{Sizes}
use Rattle.sizes.specs.Fitting.{Fitting}
use Rattle.pager.specs.declared.memory.Memory.{Memory}
use Rattle.recovery.specs.declared.report.Recovery.{Recovery}
use Rattle.recovery.specs.Recovered.{Recovered}
use Rattle.store.specs.declared.set.Set.{Set}
use Rattle.store.specs.declared.mode.Mode.{Mode}
use Rattle.store.specs.declared.mode.Mode.TheVariants.{Cold, Ready}
use Rattle.store.specs.Calls.{Fresh}
use Rattle.store.specs.Reads.{file_of}

-- the sizes that were measured are within their limits
abbrev pub Sized : Result Recovery Refusal → Type 0
Sized (Ok found) = Fitting found.sizes
Sized (Err e) = Unit {0}

-- the set is ready with the sizes that were measured; after a refusal it is cold, with those that were
-- stored. No transaction runs then
abbrev pub Restarted : Result Recovery Refusal → Memory → Sizes → Mode → Memory → Sizes → Type 0
Restarted (Ok found) memory stored mode' memory' stored' = (mode' ≡ Ready) × (stored'.rows ≡ found.sizes) × Fresh memory found.sizes memory'
Restarted (Err e) memory stored mode' memory' stored' = (mode' ≡ Cold) × (stored' ≡ stored) × Fresh memory stored.rows memory'

pub record Recovers {C : Type 0} (m : Meaning C) (s : Set C) (r : Result Recovery Refusal) (s' : Set C) : Type 0 where
  pub recovered : Recovered m (file_of s) (how_many s.names) s.card r s'.card
  pub restarted : Restarted r s.memory s.stored s'.mode s'.memory s'.stored
  pub names : s'.names ≡ s.names
  pub begun : s'.begun ≡ s.begun
