-- The trouble layer: what it means over the card below it, and exactly which calls it refuses.
use Rattle.std.specs.Prelude.{◌≡◌, ℕ, ◌+◌, ◌%◌, ◌^◌, Bool, true, ◌⊎◌, List, Err, Result, ◌==◌}
use Rattle.std.specs.List.{list_any}
use Rattle.card.specs.declared.fault.Cause.TheVariants.{Device}
use Rattle.card.specs.declared.fault.CardFault.{CardFault}
use Rattle.card.specs.Meaning.{Meaning, Name}
use Rattle.card.specs.Calls.{Op, Answered, call_of}
use Rattle.trouble_layer.specs.declared.TroubleLayer.{TroubleLayer}

-- a layer means what the card below it means; its own origin joins those from below
abbrev pub layered : {C : Type 0} → Meaning C → Meaning (TroubleLayer C)
layered m =
    record {
      on = λ l. m.on l.below;
      holds = λ l n. m.holds l.below n;
      remains = λ l n b. m.remains l.below n b;
      origins = λ l o. (o ≡ l.origin) ⊎ m.origins l.below o;
    }

-- a call's number is among the given ones
abbrev pub listed : ℕ → List ℕ → Bool
listed k xs = list_any (λ x. x == k) xs

-- calls are counted as 32-bit numbers
abbrev pub next_call : ℕ → ℕ
next_call calls = (calls + 1) % 2 ^ 32

-- with power on a given call is refused and goes no further; every other call is the card's below, its answer unchanged
pub record Troubled {C V : Type 0} (m : Meaning C) (op : Op) (n : Name) (l : TroubleLayer C) (r : Result V CardFault) (l' : TroubleLayer C) : Type 0 where
  pub counted : l'.calls ≡ next_call l.calls
  pub given : l'.given ≡ l.given
  pub origin : l'.origin ≡ l.origin
  pub refused : m.on l.below ≡ true → listed l'.calls l.given.items ≡ true → (r ≡ Err (record { cause = Device; call = call_of op; origin = l.origin })) × (l'.below ≡ l.below)
  pub passed : ((m.on l.below ≡ true) × (listed l'.calls l.given.items ≡ true) → ⊥) → Answered m l.below n op r l'.below
