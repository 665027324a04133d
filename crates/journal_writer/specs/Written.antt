-- What a buffer holds after a part of a journal was put into it, and why one is not put.
use Rattle.std.specs.Prelude.{◌≡◌, ℕ, suc, ◌+◌, ◌<◌, ◌≤◌, Bool, true, false, ◌&&◌, List, [], ◌∷◌, length, Some, None, Ok, Err, Option, Result, ◌==◌, nat_le, nat_lt, slice_index}
use Rattle.std.specs.Borrow.{Bor}
use Rattle.std.specs.Option.{is_some, unwrap_or}
use Rattle.card.specs.Meaning.{Bytes, Name}
use Rattle.card.specs.Calls.{overwrite, name_ok}
use Rattle.journal.specs.Format.{PageRecord, Journal, LawfulJournal, encode, super_bytes, page_size, page_limit, record_limit}
use Rattle.journal.specs.Judged.{record_place, page_bytes}
use Rattle.journal_writer.specs.declared.writer.Unfit.{Unfit}
use Rattle.journal_writer.specs.declared.writer.Unfit.TheVariants.{Limit, Room}

-- a part put into a buffer, as is said of it, if it is within the limits and there is room up to its end;
-- a refusal leaves the buffer, and limits are told before want of room
abbrev pub PutTo : Bytes → ℕ → Bool → Type 0 → Result (Unit {0}) Unfit → Bytes → Type 0
PutTo old end lawful Done (Ok u) new = (lawful ≡ true) × (end ≤ length old) × Done
PutTo old end lawful Done (Err Limit) new = (lawful ≡ false) × (new ≡ old)
PutTo old end lawful Done (Err Room) new = (lawful ≡ true) × (length old < end) × (new ≡ old)

-- why what ends at a place, or is out of the limits, is not put into a buffer of a size
abbrev pub NoRoom : ℕ → Option ℕ → Unfit → Type 0
NoRoom size end Limit = end ≡ None
NoRoom size end Room = (n : ℕ) × (end ≡ Some n) × (size < n)

-- the same of work that ends at a place, of which there is none out of the limits
abbrev pub PutUpTo : Bytes → Option ℕ → Type 0 → Result (Unit {0}) Unfit → Bytes → Type 0
PutUpTo old end Done r new = PutTo old (unwrap_or end 0) (is_some end) Done r new

-- the same of bytes put at a place
abbrev pub Put : Bytes → ℕ → ℕ → Bytes → Bool → Result (Unit {0}) Unfit → Bytes → Type 0
Put old place size bytes lawful r new = PutTo old (place + size) lawful (new ≡ overwrite old place bytes) r new

abbrev pub size_lawful : ℕ → Bool
size_lawful size = nat_le 1 size && nat_le size page_limit

-- a record of the index, from 0, for the page and its bytes
abbrev pub record_lawful : ℕ → ℕ → Bytes → Bool
record_lawful index page bytes = nat_lt index record_limit && (nat_le 1 page && (nat_le page page_limit && length bytes == page_size))

-- a super-journal record past so many page records
abbrev pub name_lawful : ℕ → Name → Bool
name_lawful count name = nat_le 1 count && (nat_le count record_limit && name_ok name)

abbrev pub count_lawful : ℕ → Bool
count_lawful count = nat_le count record_limit

-- pages that ascend from past the last one on, none past the size
unfoldable pub ascend : ℕ → ℕ → List ℕ → Bool
ascend size last [] = true
ascend size last (p ∷ ps) = nat_lt last p && (nat_le p size && ascend size p ps)

-- the numbers of the pages that a journal may have
abbrev pub pages_lawful : ℕ → List ℕ → Bool
pages_lawful size pages = nat_le 1 (length pages) && (nat_le (length pages) record_limit && (slice_index pages 0 == 1 && ascend size 0 pages))

-- a name that is passed, if any
abbrev pub told : Option (Bor Bytes) → Option Name
told None = None
told (Some n) = Some n.now

abbrev pub given_lawful : Option Name → Bool
given_lawful None = true
given_lawful (Some n) = name_ok n

-- the pages that lie in a buffer at the places of the records from k on, as records
unfoldable pub originals : Bytes → ℕ → List ℕ → List PageRecord
originals b k [] = []
originals b k (p ∷ ps) = record { page = p; bytes = page_bytes b k } ∷ originals b (suc k) ps

-- the journal of the pages that lie in a buffer
abbrev pub journal_in : Bytes → ℕ → ℕ → List ℕ → Option Name → Journal
journal_in b nonce size pages name = record { nonce = nonce; size = size; records = originals b 0 pages; super = name }

-- the numbers that a journal is made with
abbrev pub made_lawful : ℕ → List ℕ → Option Name → Bool
made_lawful size pages name = size_lawful size && (pages_lawful size pages && given_lawful name)

-- the journal of the pages that lay in the buffer, with count 0, now stands at its start, and its length is told;
-- or why not: a refusal leaves the buffer, and limits are told before want of room
abbrev pub Filled : Bytes → ℕ → ℕ → List ℕ → Option Name → Result ℕ Unfit → Bytes → Type 0
Filled old nonce size pages name (Ok n) new =
    LawfulJournal (journal_in old nonce size pages name) × (n ≡ length (encode 0 (journal_in old nonce size pages name))) × (n ≤ length old)
    × (new ≡ overwrite old 0 (encode 0 (journal_in old nonce size pages name)))
Filled old nonce size pages name (Err Limit) new = (made_lawful size pages name ≡ false) × (new ≡ old)
Filled old nonce size pages name (Err Room) new =
    (made_lawful size pages name ≡ true) × (length old < record_place (length pages) + length (super_bytes name)) × (new ≡ old)
