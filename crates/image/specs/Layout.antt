-- Files in an image: 16 equal slots, and how a file lies in one.
-- A slot has the name in its first 32 bytes, then the name's length (1 byte), the file's length
-- (4 bytes, the highest first) and the file's bytes. A slot whose name's length is 0 is free.
use Rattle.std.specs.Prelude.{◌≡◌, ℕ, zero, suc, ◌+◌, ◌-◌, ◌*◌, ◌/◌, ◌<◌, Bool, true, false, cond, ◌&&◌, length, take, drop, Some, None, Option, ◌==◌, nat_le, slice_index}
use Rattle.std.specs.Str.{bytes_eq}
use Rattle.card.specs.Meaning.{Bytes, Name}
use Rattle.card.specs.Calls.{name_ok}
use Rattle.card.specs.Numbers.{number_at}

abbrev pub slot_count : ℕ
slot_count = 16

-- the bytes of a slot before the file's
abbrev pub head_size : ℕ
head_size = 37

-- the file's bytes in a slot
unfoldable pub content : Bytes → Bytes
content s = take (number_at s 33) (drop head_size s)

unfoldable pub free : Bytes → Bool
free s = nat_le head_size (length s) && slice_index s 32 == 0

-- the slot has the file of that name
unfoldable pub named : Name → Bytes → Bool
named n s = name_ok n && (nat_le head_size (length s) && (slice_index s 32 == length n && bytes_eq (take (length n) s) n))

abbrev pub slot_size : Bytes → ℕ
slot_size image = length image / slot_count

-- the bytes that a file in a slot of the image may have
abbrev pub room : Bytes → ℕ
room image = slot_size image - head_size

-- the slot k of an image
unfoldable pub slot : Bytes → ℕ → Bytes
slot image k = take (slot_size image) (drop (k * slot_size image) image)

abbrev pub or_else : Option Bytes → Option Bytes → Option Bytes
or_else None o = o
or_else (Some b) o = Some b

-- what belongs to the first of the first k slots that is named n
unfoldable pub first_of : Name → (ℕ → Bytes) → (ℕ → Bytes) → ℕ → Option Bytes
first_of n slots belongs zero = None
first_of n slots belongs (suc k) = or_else (first_of n slots belongs k) (cond (named n (slots k)) (Some (belongs k)) None)

-- what the image holds of the file n
unfoldable pub held : Bytes → Name → Option Bytes
held image n = first_of n (slot image) (λ k. content (slot image k)) slot_count

abbrev pub one_if : Bool → ℕ
one_if true = 1
one_if false = 0

-- how many of the first k slots are free
unfoldable pub free_below : (ℕ → Bytes) → ℕ → ℕ
free_below slots zero = 0
free_below slots (suc k) = free_below slots k + one_if (free (slots k))

unfoldable pub free_slots : Bytes → ℕ
free_slots image = free_below (slot image) slot_count

-- where the first slot lies of which a test is true
abbrev pub FirstSlot : (Bytes → Bool) → Bytes → Option ℕ → Type 0
FirstSlot is image None = (k : ℕ) → k < slot_count → is (slot image k) ≡ false
FirstSlot is image (Some k) = (k < slot_count) × (is (slot image k) ≡ true) × ((j : ℕ) → j < k → is (slot image j) ≡ false)
