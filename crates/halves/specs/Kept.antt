-- The numbers of what a power failure keeps.
use Rattle.std.specs.Prelude.{◌≡◌, ℕ, ◌≤◌, Ok, Err, Result}
use Rattle.halves.specs.declared.kept.Kept.{Kept}
use Rattle.halves.specs.declared.kept.Kept.TheVariants.{Synced, Current, Mixed}
use Rattle.halves.specs.declared.kept.UnknownKept.{UnknownKept}

-- what is kept, by its number: 0 what was synced, 1 all, 2 the mix
abbrev pub kept_number : Kept → ℕ
kept_number Synced = 0
kept_number Current = 1
kept_number Mixed = 2

-- the choice that has the number, or that none has it
abbrev pub KeptNumber : ℕ → Result Kept UnknownKept → Type 0
KeptNumber number (Ok kept) = kept_number kept ≡ number
KeptNumber number (Err unknown) = (unknown.0 ≡ number) × (3 ≤ number)
