-- The calls of a card: their tests, their work on the file, what may remain of the file after it,
-- and what each answer says of the card.
use Rattle.std.specs.Prelude.{◌≡◌, ℕ, ◌+◌, ◌-◌, ◌<◌, ◌≤◌, min, max, Bool, true, false, cond, ◌⊎◌, [], ◌++◌, length, take, drop, replicate, Some, None, Ok, Err, Option, Result, ◌≢◌, nat_le, slice_index}
use Rattle.card.specs.declared.fault.Cause.{Cause}
use Rattle.card.specs.declared.fault.Cause.TheVariants.{Power, Device, Absent, Present, Range}
use Rattle.card.specs.declared.fault.CardCall.{CardCall}
use Rattle.card.specs.declared.fault.CardCall.TheVariants.{Length, Read, Create, Write, SetLength, Sync, Delete}
use Rattle.card.specs.declared.fault.CardFault.{CardFault}
use Rattle.card.specs.Meaning.{Meaning, May, Untouched, Same, Bytes, Name}

-- the causes, numbered
abbrev pub cause_number : Cause → ℕ
cause_number Power = 1
cause_number Device = 2
cause_number Absent = 3
cause_number Present = 4
cause_number Range = 5

-- a call on a file, with all that it is given beside the name
pub data Op : Type 0 where
  length_of : Op
  read : ℕ → ℕ → Op
  create : Op
  write : ℕ → Bytes → Op
  set_length : ℕ → Op
  sync : Op
  delete : Op

-- a name has 1 to 32 bytes, and a file at most 2,097,152
abbrev pub name_limit : ℕ
name_limit = 32

abbrev pub file_limit : ℕ
file_limit = 2097152

-- bytes put over a content from a place on
abbrev pub overwrite : Bytes → ℕ → Bytes → Bytes
overwrite old place bytes = take place old ++ (bytes ++ drop (place + length bytes) old)

-- a content cut, or filled with zeros, to n bytes
abbrev pub resized : Bytes → ℕ → Bytes
resized old n = take n old ++ replicate (n - length old) 0

-- so many bytes of a content from a place on
abbrev pub part : Bytes → ℕ → ℕ → Bytes
part b place count = take count (drop place b)

-- the test of a place in a present file: in order, or out of range
abbrev pub in_range : Bool → Option Cause
in_range true = None
in_range false = Some Range

-- the cause by which a call on a file is refused, if any
abbrev pub test : Op → Option Bytes → Option Cause
test length_of f = None
test create None = None
test create (Some b) = Some Present
test (read place count) None = Some Absent
test (read place count) (Some b) = in_range (nat_le (place + count) (length b))
test (write place bytes) None = Some Absent
test (write place bytes) (Some b) = in_range (cond (nat_le place (length b)) (nat_le (place + length bytes) file_limit) false)
test (set_length n) None = Some Absent
test (set_length n) (Some b) = in_range (nat_le n file_limit)
test sync None = Some Absent
test sync (Some b) = None
test delete None = Some Absent
test delete (Some b) = None

abbrev pub name_ok : Name → Bool
name_ok n = cond (nat_le 1 (length n)) (nat_le (length n) name_limit) false

-- the name is tested before the file
abbrev pub after_name : Bool → Option Cause → Option Cause
after_name true x = x
after_name false x = Some Range

abbrev pub tested : Op → Name → Option Bytes → Option Cause
tested op n f = after_name (name_ok n) (test op f)

-- what the file holds after the call's work
abbrev pub worked : Op → Option Bytes → Option Bytes
worked length_of f = f
worked (read place count) f = f
worked create f = Some []
worked (write place bytes) None = None
worked (write place bytes) (Some b) = Some (overwrite b place bytes)
worked (set_length n) None = None
worked (set_length n) (Some b) = Some (resized b n)
worked sync f = f
worked delete f = None

-- any choice of a write's bytes put into a content; a byte with no source is zero
pub record Partly (old : Bytes) (place : ℕ) (bytes : Bytes) (new : Bytes) : Type 0 where
  pub shortest : length old ≤ length new
  pub longest : length new ≤ max (length old) (place + length bytes)
  pub each : (k : ℕ) → k < length new → (slice_index new k ≡ slice_index old k) ⊎ ((place ≤ k) × (k < place + length bytes) × (slice_index new k ≡ slice_index bytes (k - place)))

-- a content brought to a length between its own and n; from n on each byte is kept or zero
pub record Between (old : Bytes) (n : ℕ) (new : Bytes) : Type 0 where
  pub shortest : min (length old) n ≤ length new
  pub longest : length new ≤ max (length old) n
  pub front : (k : ℕ) → k < length new → k < n → slice_index new k ≡ slice_index old k
  pub tail : (k : ℕ) → k < length new → n ≤ k → (slice_index new k ≡ slice_index old k) ⊎ (slice_index new k ≡ 0)

-- what may remain of the file after the call's work, from what could remain before and what the file held
abbrev pub Could : Op → (Option Bytes → Type 0) → Option Bytes → Option Bytes → Type 0
Could length_of could f o = could o
Could (read place count) could f o = could o
Could create could f o = o ≡ Some []
Could (write place bytes) could f o = (a : Bytes) × (b : Bytes) × (o ≡ Some b) × could (Some a) × Partly a place bytes b
Could (set_length n) could f o = (a : Bytes) × (b : Bytes) × (o ≡ Some b) × could (Some a) × Between a n b
Could sync could f o = o ≡ f
Could delete could f o = o ≡ None

-- the call was answered well: it did its work on its file, and left the others alone
pub record Worked {C : Type 0} (m : Meaning C) (c : C) (n : Name) (op : Op) (c' : C) : Type 0 where
  pub powered : m.on c ≡ true
  pub lawful : tested op n (m.holds c n) ≡ None
  pub still : m.on c' ≡ true
  pub holds : m.holds c' n ≡ worked op (m.holds c n)
  pub remains : (b : Bytes) → m.remains c' n b → Could op (May m c n) (m.holds c n) (Some b)
  pub others : (k : Name) → (k ≢ n) → Untouched m c k c'

-- power failed in the call: each file is what could remain before it or after its work, and only that may remain
pub record Lost {C : Type 0} (m : Meaning C) (c : C) (n : Name) (op : Op) (c' : C) : Type 0 where
  pub powered : m.on c ≡ true
  pub off : m.on c' ≡ false
  pub own : May m c n (m.holds c' n) ⊎ ((tested op n (m.holds c n) ≡ None) × Could op (May m c n) (m.holds c n) (m.holds c' n))
  pub others : (k : Name) → (k ≢ n) → May m c k (m.holds c' k)
  pub only : (k : Name) (b : Bytes) → m.remains c' k b → m.holds c' k ≡ Some b

-- what an answer says of the card: no cause is a call answered well
abbrev pub Called : {C : Type 0} → Meaning C → C → Name → Op → Option Cause → C → Type 0
Called m c n op None c' = Worked m c n op c'
Called m c n op (Some Power) c' = ((m.on c ≡ false) × Same m c c') ⊎ Lost m c n op c'
Called m c n op (Some Device) c' = (m.on c ≡ true) × Same m c c'
Called m c n op (Some Absent) c' = (m.on c ≡ true) × (tested op n (m.holds c n) ≡ Some Absent) × Same m c c'
Called m c n op (Some Present) c' = (m.on c ≡ true) × (tested op n (m.holds c n) ≡ Some Present) × Same m c c'
Called m c n op (Some Range) c' = (m.on c ≡ true) × (tested op n (m.holds c n) ≡ Some Range) × Same m c c'

-- the call that a fault names
abbrev pub call_of : Op → CardCall
call_of length_of = Length
call_of (read place count) = Read
call_of create = Create
call_of (write place bytes) = Write
call_of (set_length n) = SetLength
call_of sync = Sync
call_of delete = Delete

-- the cause of a refusal
abbrev pub cause_of : {V : Type 0} → Result V CardFault → Option Cause
cause_of (Ok v) = None
cause_of (Err f) = Some f.cause

-- a fault names its call, and carries an origin of the card's
abbrev pub FaultOf : {C V : Type 0} → Meaning C → C → Op → Result V CardFault → Type 0
FaultOf m c op (Ok v) = Unit {0}
FaultOf m c op (Err f) = (f.call ≡ call_of op) × m.origins c f.origin

-- all that an answer to a call says, but for the values told
pub record Answered {C V : Type 0} (m : Meaning C) (c : C) (n : Name) (op : Op) (r : Result V CardFault) (c' : C) : Type 0 where
  pub called : Called m c n op (cause_of r) c'
  pub fault : FaultOf m c op r
  pub origins : (o : ℕ) → m.origins c' o → m.origins c o

-- what a file's length is told as: none of an absent file
abbrev pub length_told : Option Bytes → Option ℕ
length_told None = None
length_told (Some b) = Some (length b)

abbrev pub ToldLength : Option Bytes → Result (Option ℕ) CardFault → Type 0
ToldLength f (Ok told) = told ≡ length_told f
ToldLength f (Err e) = Unit {0}

-- what a buffer holds after a read: the part of the file, or, after a refusal, what it held
abbrev pub part_of : Option Bytes → ℕ → ℕ → Bytes
part_of None place count = []
part_of (Some b) place count = part b place count

abbrev pub ToldBytes : Option Bytes → ℕ → Bytes → Result (Unit {0}) CardFault → Bytes → Type 0
ToldBytes f place old (Ok u) new = new ≡ part_of f place (length old)
ToldBytes f place old (Err e) new = new ≡ old
