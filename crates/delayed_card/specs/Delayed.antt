-- The delayed card: what it means, and exactly what each call answers and leaves.
use Rattle.std.specs.Prelude.{◌≡◌, ℕ, ◌-◌, ◌≤◌, Bool, true, false, cond, ◌⊎◌, [], Some, None, Ok, Err, Option, Result, nat_le}
use Rattle.card.specs.declared.fault.Cause.{Cause}
use Rattle.card.specs.declared.fault.Cause.TheVariants.{Power}
use Rattle.card.specs.declared.fault.CardFault.{CardFault}
use Rattle.card.specs.Meaning.{Meaning, Bytes, Name}
use Rattle.card.specs.Calls.{Op, cause_of}
use Rattle.halves.specs.declared.kept.Kept.{Kept}
use Rattle.image.specs.Layout.{held}
use Rattle.image.specs.Stored.{refusal}
use Rattle.image.specs.Blamed.{FromOrigin}
use Rattle.halves.specs.Kept.{kept_number}
use Rattle.halves.specs.Halves.{mixed, backed}
use Rattle.cut_calls.specs.Calls.{Call}
use Rattle.delayed_card.specs.declared.cut.Cut.{Cut}
use Rattle.delayed_card.specs.declared.delayed.DelayedCard.{DelayedCard}
use Rattle.delayed_card.specs.declared.cut.Untold.{Untold}
use Rattle.delayed_card.specs.declared.cut.Untold.TheVariants.{NoCall, NoKept}

-- the content that the synced half has of a file, none taken as empty
abbrev pub bytes_or_none : Option Bytes → Bytes
bytes_or_none None = []
bytes_or_none (Some b) = b

-- of a present file may remain what it holds now, what was synced of it, and the mix of the two
abbrev pub MayRemain : Bytes → Bytes → Name → Bytes → Type 0
MayRemain current synced n b =
    (a : Bytes) × (held current n ≡ Some a) × ((b ≡ a) ⊎ ((b ≡ bytes_or_none (backed current synced n)) ⊎ (b ≡ mixed a (bytes_or_none (backed current synced n)))))

-- a delayed card holds what its current half has
abbrev pub delayed : Meaning DelayedCard
delayed =
    record {
      on = λ c. c.on;
      holds = λ c n. held c.halves.current.now n;
      remains = λ c n b. MayRemain c.halves.current.now c.halves.synced.now n b;
      origins = λ c o. o ≡ c.origin;
    }

-- a told cut counts calls, and is spent at the last
abbrev pub next_cut : Option Cut → Option Cut
next_cut None = None
next_cut (Some cut) = cond (nat_le cut.calls 1) None (Some (record { calls = cut.calls - 1; kept = cut.kept }))

-- what is kept where power is to fail at this call
abbrev pub lost_now : Option Cut → Option Kept
lost_now None = None
lost_now (Some cut) = cond (nat_le cut.calls 1) (Some cut.kept) None

-- what is left on after a call
abbrev pub still_on : Option Kept → Bool
still_on None = true
still_on (Some kept) = false

-- all that a call does to a delayed card: with power off nothing, with power on the call or the loss
pub record Delayed {V : Type 0} (op : Op) (n : Name) (c : DelayedCard) (r : Result V CardFault) (c' : DelayedCard) : Type 0 where
  pub counted : c'.cut ≡ next_cut c.cut
  pub origin : c'.origin ≡ c.origin
  pub from : FromOrigin c.origin r
  pub off : c.on ≡ false → (c'.on ≡ false) × (cause_of r ≡ Some Power) × (c'.halves ≡ c.halves)
  pub powered : c.on ≡ true → (c'.on ≡ still_on (lost_now c.cut)) × ((a : Result V Cause) × (refusal a ≡ cause_of r) × Call (lost_now c.cut) op n c.halves a c'.halves)

-- a telling of a loss is lawful from call 1 on, with what is kept from 0 to 2; an unlawful one changes nothing
abbrev pub ToldCut : ℕ → ℕ → Option Cut → Result (Unit {0}) Untold → Option Cut → Type 0
ToldCut call number cut (Ok u) cut' = (1 ≤ call) × (kept : Kept) × (kept_number kept ≡ number) × (cut' ≡ Some (record { calls = call; kept = kept }))
ToldCut call number cut (Err NoCall) cut' = (call ≡ 0) × (cut' ≡ cut)
ToldCut call number cut (Err NoKept) cut' = (1 ≤ call) × (3 ≤ number) × (cut' ≡ cut)
