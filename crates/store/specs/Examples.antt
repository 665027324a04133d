-- What a few calls are answered in each mode of a set, for readers of the definitions.
use Rattle.std.specs.Prelude.{◌≡◌, ℕ, Some, None, Option}
use Rattle.refusal.specs.declared.refusals.Refusal.{Refusal}
use Rattle.refusal.specs.declared.refusals.Refusal.TheVariants.{Cold as cold_set, Transaction as not_running}
use Rattle.store.specs.declared.mode.Mode.{Mode}
use Rattle.store.specs.declared.mode.Mode.TheVariants.{Cold, Ready, Running}
use Rattle.store.specs.declared.mode.Call.{Call}
use Rattle.store.specs.declared.mode.Call.TheVariants.{Begin, Read, Use}
use Rattle.store.specs.Modes.{says, next, counted, given}

-- why a call is refused, if it is, and the mode and the count of transactions after it
abbrev pub row : Mode → ℕ → Call → Option Refusal × Mode × ℕ
row mode begun call = (says mode begun call, next mode begun call, counted mode begun call)

-- the third transaction runs, with the nonce 7
abbrev pub third : Mode
third = Running 3 7

pub record Examples : Type 0 where
  -- a cold set begins nothing, and shows no page
  pub cold_begin : row Cold 2 (Begin 7) ≡ (Some not_running, Cold, 2)
  pub cold_read : row Cold 2 Read ≡ (Some cold_set, Cold, 2)
  pub cold_use : row Cold 2 (Use 2) ≡ (Some not_running, Cold, 2)
  -- a ready one begins the next transaction, can be read, and has none to use
  pub ready_begin : row Ready 2 (Begin 7) ≡ (None, third, 3)
  pub ready_read : row Ready 2 Read ≡ (None, Ready, 2)
  pub ready_use : row Ready 2 (Use 2) ≡ (Some not_running, Ready, 2)
  -- the last number can be begun, and none after it
  pub last_begin : row Ready 4294967294 (Begin 7) ≡ (None, Running 4294967295 7, 4294967295)
  pub full_begin : row Ready 4294967295 (Begin 7) ≡ (Some not_running, Ready, 4294967295)
  -- while a transaction runs none is begun, and it is used by its own number alone
  pub running_begin : row third 3 (Begin 8) ≡ (Some not_running, third, 3)
  pub running_read : row third 3 Read ≡ (None, third, 3)
  pub running_use : row third 3 (Use 3) ≡ (None, third, 3)
  pub stale_use : row third 3 (Use 2) ≡ (Some not_running, third, 3)
  pub void_use : row third 3 (Use 0) ≡ (Some not_running, third, 3)
  -- a void number is no transaction's
  pub void_running : says (Running 0 7) 0 (Use 0) ≡ Some not_running
  -- the numbers that begins give their tokens; 0 makes a token void
  pub cold_given : given Cold 2 ≡ 0
  pub ready_given : given Ready 2 ≡ 3
  pub last_given : given Ready 4294967294 ≡ 4294967295
  pub full_given : given Ready 4294967295 ≡ 0
  pub running_given : given third 3 ≡ 0
