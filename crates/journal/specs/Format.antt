-- The bytes of a rollback journal and of a super-journal. All numbers are four bytes, the highest first.
use Rattle.std.specs.Prelude.{◌≡◌, ℕ, ◌+◌, ◌%◌, ◌^◌, ◌<◌, ◌≤◌, List, [], ◌∷◌, ◌++◌, length, sum, replicate, Some, None, Option, slice_index, slice_index_or}
use Rattle.card.specs.Meaning.{Bytes, Name}
use Rattle.card.specs.Calls.{name_limit}
use Rattle.card.specs.Numbers.{number_bytes}

abbrev pub page_size : ℕ
page_size = 512

abbrev pub sector_size : ℕ
sector_size = 512

-- a page record: the page's number, the page, the checksum
abbrev pub record_size : ℕ
record_size = 520

-- a database has at most so many pages, and a journal so many records
abbrev pub page_limit : ℕ
page_limit = 4096

abbrev pub record_limit : ℕ
record_limit = 33

-- the number that stands where a page's would, before the super-journal's name
abbrev pub super_page : ℕ
super_page = 2097153

-- what a super-journal record has beside the name
abbrev pub super_extra : ℕ
super_extra = 20

abbrev pub magic : Bytes
magic = 0xd9 ∷ 0xd5 ∷ 0x05 ∷ 0xf9 ∷ 0x20 ∷ 0xa1 ∷ 0x63 ∷ 0xd7 ∷ []

-- an original page of the database
pub record PageRecord : Type 0 where
  pub page : ℕ
  pub bytes : Bytes

pub record Journal : Type 0 where
  pub nonce : ℕ
  pub size : ℕ
  pub records : List PageRecord
  pub super : Option Name

-- the record of an index, from 0
abbrev pub record_of : List PageRecord → ℕ → PageRecord
record_of rs k = slice_index_or rs k (record { page = 0; bytes = [] })

-- one sector: what is past the numbers is zero
unfoldable pub header : ℕ → ℕ → ℕ → Bytes
header count nonce size =
    magic ++ (number_bytes count ++ (number_bytes nonce ++ (number_bytes size ++ (number_bytes sector_size ++ (number_bytes page_size ++ replicate 484 0)))))

abbrev pub checksum : ℕ → Bytes → ℕ
checksum nonce page = (nonce + (slice_index page 312 + slice_index page 112)) % 2 ^ 32

unfoldable pub record_bytes : ℕ → PageRecord → Bytes
record_bytes nonce r = number_bytes r.page ++ (r.bytes ++ number_bytes (checksum nonce r.bytes))

unfoldable pub records_bytes : ℕ → List PageRecord → Bytes
records_bytes nonce [] = []
records_bytes nonce (r ∷ rs) = record_bytes nonce r ++ records_bytes nonce rs

unfoldable pub super_bytes : Option Name → Bytes
super_bytes None = []
super_bytes (Some n) = number_bytes super_page ++ (n ++ (number_bytes (length n) ++ (number_bytes (sum n) ++ magic)))

-- a journal as it is written, with the count given
unfoldable pub encode : ℕ → Journal → Bytes
encode count j = header count j.nonce j.size ++ (records_bytes j.nonce j.records ++ super_bytes j.super)

-- records that ascend by page from past the last page on, none past the size, each of a whole page
unfoldable pub Ascending : ℕ → ℕ → List PageRecord → Type 0
Ascending size last [] = Unit {0}
Ascending size last (r ∷ rs) = (last < r.page) × (r.page ≤ size) × (length r.bytes ≡ page_size) × Ascending size r.page rs

-- the first record is of page 1
abbrev pub Starts : List PageRecord → Type 0
Starts [] = ⊥
Starts (r ∷ rs) = r.page ≡ 1

-- numbers that bytes can be
abbrev pub Octets : Bytes → Type 0
Octets b = (k : ℕ) → slice_index b k < 256

abbrev pub LawfulName : Option Name → Type 0
LawfulName None = Unit {0}
LawfulName (Some n) = (1 ≤ length n) × (length n ≤ name_limit) × Octets n

pub record LawfulJournal (j : Journal) : Type 0 where
  pub nonce : j.nonce < 2 ^ 32
  pub some_pages : 1 ≤ j.size
  pub size : j.size ≤ page_limit
  pub first : Starts j.records
  pub each : Ascending j.size 0 j.records
  pub few : length j.records ≤ record_limit
  pub name : LawfulName j.super

-- a journal with all its records counted
abbrev pub full : Journal → Bytes
full j = encode (length j.records) j
