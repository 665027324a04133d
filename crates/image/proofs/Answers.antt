-- What the answers of an image can be, and the faults that they become.
use Rattle.std.proofs.Common.{◌≡◌, ℕ, Bool, true, false, Some, None, Ok, Err, Option, Result, sym, refl, arith}
use Rattle.card.specs.declared.fault.Cause.{Cause}
use Rattle.card.specs.declared.fault.Cause.TheVariants.{Power, Device}
use Rattle.card.specs.declared.fault.CardCall.{CardCall}
use Rattle.card.specs.Meaning.{Bytes, Name}
use Rattle.card.specs.Calls.{Op, length_of, read, create, write, set_length, sync, delete, cause_of, test, tested, after_name, in_range, name_ok}
use Rattle.image.specs.Layout.{held}
use Rattle.image.specs.Stored.{refusal, answer_of, or_device, crowded}
use Rattle.image.specs.Blamed.{blamed, FromOrigin}

-- the tests never name power
range_not_power : (b : Bool) → in_range b ≡ Some Power → ⊥
range_not_power true e = let z : ◌≡◌ {A = ℕ} 0 1 = cc in omega arith
range_not_power false e = let z : ◌≡◌ {A = ℕ} 0 1 = cc in omega arith

test_not_power : (op : Op) (f : Option Bytes) → test op f ≡ Some Power → ⊥
test_not_power length_of f e = let z : ◌≡◌ {A = ℕ} 0 1 = cc in omega arith
test_not_power create None e = let z : ◌≡◌ {A = ℕ} 0 1 = cc in omega arith
test_not_power create (Some b) e = let z : ◌≡◌ {A = ℕ} 0 1 = cc in omega arith
test_not_power (read p k) None e = let z : ◌≡◌ {A = ℕ} 0 1 = cc in omega arith
test_not_power (read p k) (Some b) e = range_not_power _ e
test_not_power (write p bytes) None e = let z : ◌≡◌ {A = ℕ} 0 1 = cc in omega arith
test_not_power (write p bytes) (Some b) e = range_not_power _ e
test_not_power (set_length k) None e = let z : ◌≡◌ {A = ℕ} 0 1 = cc in omega arith
test_not_power (set_length k) (Some b) e = range_not_power _ e
test_not_power sync None e = let z : ◌≡◌ {A = ℕ} 0 1 = cc in omega arith
test_not_power sync (Some b) e = let z : ◌≡◌ {A = ℕ} 0 1 = cc in omega arith
test_not_power delete None e = let z : ◌≡◌ {A = ℕ} 0 1 = cc in omega arith
test_not_power delete (Some b) e = let z : ◌≡◌ {A = ℕ} 0 1 = cc in omega arith

tested_not_power : (ok : Bool) (op : Op) (f : Option Bytes) → after_name ok (test op f) ≡ Some Power → ⊥
tested_not_power true op f e = test_not_power op f e
tested_not_power false op f e = let z : ◌≡◌ {A = ℕ} 0 1 = cc in omega arith

-- an answer of the image that is no refusal passed the tests
pub no_refusal : (t : Option Cause) (full : Bool) → None ≡ or_device t full → t ≡ None
no_refusal None full e = refl
no_refusal (Some x) full e = let z : ◌≡◌ {A = ℕ} 0 1 = cc in absurd (omega arith)

-- one that is a refusal, but not device, is the tests' own
pub test_refusal : (t : Option Cause) (full : Bool) (x : Cause) → (x ≡ Device → ⊥) → Some x ≡ or_device t full → t ≡ Some x
test_refusal None true x ne e = absurd (ne cc)
test_refusal None false x ne e = let z : ◌≡◌ {A = ℕ} 0 1 = cc in absurd (omega arith)
test_refusal (Some y) full x ne e = sym e

-- the fault of a call, from the cause that an image gave
module _ {V : Type 0} (call : CardCall) (origin : ℕ) where
  pub blamed_cause : (x : Result V Cause) → cause_of (blamed call origin x) ≡ refusal x
  blamed_cause (Ok v) = refl
  blamed_cause (Err x) = refl

  pub blamed_from : (x : Result V Cause) → FromOrigin origin (blamed call origin x)
  blamed_from (Ok v) = tt
  blamed_from (Err x) = refl

-- an image never answers power
pub answer_not_power : (op : Op) (n : Name) (image : Bytes) → Some Power ≡ answer_of op n image → ⊥
answer_not_power op n image e =
    tested_not_power (name_ok n) op (held image n) (test_refusal (tested op n (held image n)) (crowded op image) Power (λ z. let y : ◌≡◌ {A = ℕ} 0 1 = cc in omega arith) e)
