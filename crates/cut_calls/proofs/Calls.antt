-- A call's work on the halves of a delayed card, put together with the loss of power.
use Rattle.std.proofs.Common.{◌≡◌, false, true, Some, None, Option, Result, is_some}
use Rattle.card.specs.declared.fault.Cause.{Cause}
use Rattle.halves.specs.declared.kept.Kept.{Kept}
use Rattle.halves.specs.declared.kept.Kept.TheVariants.{Synced, Current, Mixed}
use Rattle.halves.specs.declared.both.Halves.{Halves}
use Rattle.cut_calls.specs.Calls.{Cut, Lose, is_undone}

module _ (Work : Halves → Result (Unit {0}) Cause → Halves → Type 0) (h mid h' : Halves) (a r : Result (Unit {0}) Cause) where
  -- no loss was told, and the work was done
  pub cut_kept : (lost : Option Kept) → is_some lost ≡ false → Work h a mid → Cut Work lost h a mid
  cut_kept None is work = work
  cut_kept (Some kept) is work = let no : ◌≡◌ true false = is in cc

  -- the work was done, and power lost after it
  pub cut_lost : (lost : Option Kept) → is_some lost ≡ true → is_undone lost ≡ false → Work h a mid → Lose lost mid r h' → Cut Work lost h r h'
  cut_lost None some done work lose = let no : ◌≡◌ false true = some in cc
  cut_lost (Some Synced) some done work lose = let no : ◌≡◌ true false = done in cc
  cut_lost (Some Current) some done work lose = (a, mid, work, lose)
  cut_lost (Some Mixed) some done work lose = (a, mid, work, lose)

  -- it was left undone, and power lost
  pub cut_undone : (lost : Option Kept) → is_undone lost ≡ true → Lose lost h r h' → Cut Work lost h r h'
  cut_undone None done lose = let no : ◌≡◌ false true = done in cc
  cut_undone (Some Synced) done lose = lose
  cut_undone (Some Current) done lose = let no : ◌≡◌ false true = done in cc
  cut_undone (Some Mixed) done lose = let no : ◌≡◌ false true = done in cc
