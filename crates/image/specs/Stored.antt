-- What a call does to the files of an image, and exactly when it is refused.
use Rattle.std.specs.Prelude.{◌≡◌, ℕ, suc, ◌+◌, ◌*◌, ◌<◌, ◌≤◌, Bool, true, false, cond, length, Some, None, Ok, Err, Option, Result, ◌==◌, ◌≢◌, nat_le, nat_lt}
use Rattle.card.specs.declared.fault.Cause.{Cause}
use Rattle.card.specs.declared.fault.Cause.TheVariants.{Device, Absent}
use Rattle.card.specs.Meaning.{Bytes, Name}
use Rattle.card.specs.Calls.{Op, length_of, read, create, write, set_length, sync, delete, tested, worked, after_name, name_ok, part_of, overwrite}
use Rattle.image.specs.Layout.{held, slot, slot_count, room, first_of, free_slots, FirstSlot, named, free, slot_size, head_size}

-- the image has no room for the call's work: no free slot for a new file, or a file would outgrow its slot
abbrev pub crowded : Op → Bytes → Bool
crowded length_of image = false
crowded (read place count) image = false
crowded create image = free_slots image == 0
crowded (write place bytes) image = nat_lt (room image) (place + length bytes)
crowded (set_length n) image = nat_lt (room image) n
crowded sync image = false
crowded delete image = false

-- device is answered only after the tests
abbrev pub or_device : Option Cause → Bool → Option Cause
or_device (Some x) b = Some x
or_device None true = Some Device
or_device None false = None

-- the cause by which a card with power answers a call on an image, if it refuses
abbrev pub answer_of : Op → Name → Bytes → Option Cause
answer_of op n image = or_device (tested op n (held image n)) (crowded op image)

-- a call may put a file into a slot, or take it out
abbrev pub moves : Op → Bool
moves length_of = false
moves (read place count) = false
moves create = true
moves (write place bytes) = false
moves (set_length n) = false
moves sync = false
moves delete = true

-- a create takes one free slot, a delete frees one at least, and no other call does either
abbrev pub Frees : Op → ℕ → ℕ → Type 0
Frees length_of was is = is ≡ was
Frees (read place count) was is = is ≡ was
Frees create was is = suc is ≡ was
Frees (write place bytes) was is = is ≡ was
Frees (set_length n) was is = is ≡ was
Frees sync was is = is ≡ was
Frees delete was is = suc was ≤ is

-- the call did its work on the image: on its file, and on no other
pub record Done (op : Op) (n : Name) (image image' : Bytes) : Type 0 where
  pub own : held image' n ≡ worked op (held image n)
  pub others : (m : Name) → (m ≢ n) → held image' m ≡ held image m
  -- the files that it did not create or delete are in the slots in which they were
  pub slots : (m : Name) (belongs : ℕ → Bytes) → (moves op ≡ true → m ≢ n) → first_of m (slot image') belongs slot_count ≡ first_of m (slot image) belongs slot_count
  pub frees : Frees op (free_slots image) (free_slots image')

-- by its answer the call did its work, or left the image as it was
abbrev pub Left : Option Cause → Op → Name → Bytes → Bytes → Type 0
Left None op n image image' = Done op n image image'
Left (Some x) op n image image' = image' ≡ image

-- the cause of a refusal
abbrev pub refusal : {V : Type 0} → Result V Cause → Option Cause
refusal (Ok v) = None
refusal (Err x) = Some x

pub record Stored {V : Type 0} (op : Op) (n : Name) (image : Bytes) (r : Result V Cause) (image' : Bytes) : Type 0 where
  pub answer : refusal r ≡ answer_of op n image
  pub left : Left (refusal r) op n image image'

-- the slot of a present file; else the cause, and that the file is absent
abbrev pub PresentAt : Name → Bytes → Result ℕ Cause → Type 0
PresentAt n image (Ok k) = FirstSlot (named n) image (Some k)
PresentAt n image (Err x) = FirstSlot (named n) image None × (Some x ≡ after_name (name_ok n) (Some Absent))

-- what a buffer holds after a read: the part of the file, or, after a refusal, what it held
abbrev pub ReadInto : Option Bytes → ℕ → Bytes → Result (Unit {0}) Cause → Bytes → Type 0
ReadInto f place old (Ok u) new = new ≡ part_of f place (length old)
ReadInto f place old (Err x) new = new ≡ old

-- the slots of which a test is true are free and have no name; the others are as they were
pub record Freed (is : Bytes → Bool) (image image' : Bytes) : Type 0 where
  pub long : length image' ≡ length image
  pub free : (j : ℕ) → j < slot_count → is (slot image j) ≡ true → free (slot image' j) ≡ true
  pub kept : (j : ℕ) → j < slot_count → is (slot image j) ≡ false → slot image' j ≡ slot image j

-- an image with no file, and with every slot free that is large enough
pub record Empty (image : Bytes) : Type 0 where
  pub none : (n : Name) → held image n ≡ None
  pub free : free_slots image ≡ cond (nat_le head_size (slot_size image)) slot_count 0

-- some work was done on the slot k of an image, and nothing else changed
abbrev pub SlotDone : (Bytes → Unit {0} → Bytes → Type 0) → ℕ → Bytes → Bytes → Type 0
SlotDone Work k image image' = (new : Bytes) × Work (slot image k) tt new × (length new ≡ slot_size image) × (image' ≡ overwrite image (k * slot_size image) new)
