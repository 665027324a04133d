-- What a call is answered in each mode of a set, and the mode then. Numbers of transactions go from 1;
-- 0 is that of a void token.
use Rattle.std.specs.Prelude.{ℕ, ◌+◌, Bool, true, false, cond, ◌&&◌, Some, None, Option, ◌==◌, nat_le, nat_lt}
use Rattle.refusal.specs.declared.refusals.Refusal.{Refusal}
use Rattle.refusal.specs.declared.refusals.Refusal.TheVariants.{Cold as cold_set, Transaction as not_running}
use Rattle.store.specs.declared.mode.Mode.{Mode}
use Rattle.store.specs.declared.mode.Mode.TheVariants.{Cold, Ready, Running}
use Rattle.store.specs.declared.mode.Call.{Call}
use Rattle.store.specs.declared.mode.Call.TheVariants.{Begin, Read, Use}

abbrev pub is_ready : Mode → Bool
is_ready Cold = false
is_ready Ready = true
is_ready (Running number nonce) = false

-- one more transaction can be numbered
abbrev pub can_count : ℕ → Bool
can_count begun = nat_lt begun 4294967295

-- the number is that of the running transaction
abbrev pub is_running : ℕ → ℕ → Bool
is_running number asked = nat_le 1 asked && asked == number

-- why the call is refused, if it is
abbrev pub says : Mode → ℕ → Call → Option Refusal
says Cold begun (Begin nonce) = Some not_running
says Cold begun Read = Some cold_set
says Cold begun (Use asked) = Some not_running
says Ready begun (Begin nonce) = cond (can_count begun) None (Some not_running)
says Ready begun Read = None
says Ready begun (Use asked) = Some not_running
says (Running number nonce) begun (Begin other) = Some not_running
says (Running number nonce) begun Read = None
says (Running number nonce) begun (Use asked) = cond (is_running number asked) None (Some not_running)

-- the mode after the call
abbrev pub next : Mode → ℕ → Call → Mode
next Cold begun call = Cold
next Ready begun (Begin nonce) = cond (can_count begun) (Running (begun + 1) nonce) Ready
next Ready begun Read = Ready
next Ready begun (Use asked) = Ready
next (Running number nonce) begun call = Running number nonce

-- how many transactions are begun after the call
abbrev pub counted : Mode → ℕ → Call → ℕ
counted Cold begun call = begun
counted Ready begun (Begin nonce) = cond (can_count begun) (begun + 1) begun
counted Ready begun Read = begun
counted Ready begun (Use asked) = begun
counted (Running number nonce) begun call = begun

-- the call changes no mode
abbrev pub OnlyAsks : Call → Type 0
OnlyAsks (Begin nonce) = ⊥
OnlyAsks Read = Unit {0}
OnlyAsks (Use asked) = Unit {0}

-- the number that a begin gives its token
abbrev pub given : Mode → ℕ → ℕ
given Cold begun = 0
given Ready begun = cond (can_count begun) (begun + 1) 0
given (Running number nonce) begun = 0
