-- What the bytes of a journal are found to be: spent, damaged at a record, or sound with its parts.
use Rattle.std.specs.Prelude.{◌≡◌, ℕ, zero, suc, ◌+◌, ◌*◌, ◌<◌, Bool, true, false, not, ◌&&◌, ◌||◌, length, take, replicate, Some, None, Option, ◌==◌, ◌≢◌, nat_le, nat_lt}
use Rattle.std.specs.Str.{bytes_eq}
use Rattle.card.specs.Meaning.{Bytes, Name}
use Rattle.card.specs.Calls.{part}
use Rattle.card.specs.Numbers.{number_at}
use Rattle.journal.specs.Format.{Journal, LawfulJournal, full, magic, checksum, page_size, sector_size, record_size, page_limit, record_limit}
use Rattle.journal.specs.declared.verdict.Verdict.{Verdict}
use Rattle.journal.specs.declared.verdict.Verdict.TheVariants.{Spent, Damaged, Sound}
use Rattle.journal.specs.declared.verdict.Sound.{Sound as SoundParts}
use Rattle.journal.specs.declared.verdict.Span.{Span}

-- the numbers of the header
abbrev pub count_of : Bytes → ℕ
count_of b = number_at b 8

abbrev pub nonce_of : Bytes → ℕ
nonce_of b = number_at b 12

abbrev pub size_of : Bytes → ℕ
size_of b = number_at b 16

-- shorter than a header, without the magic at its start, or with count 0
unfoldable pub spent : Bytes → Bool
spent b = nat_lt (length b) sector_size || (not (bytes_eq magic (take 8 b)) || count_of b == 0)

unfoldable pub header_right : Bytes → Bool
header_right b =
    nat_le (count_of b) record_limit
    && (nat_le 1 (size_of b)
    && (nat_le (size_of b) page_limit
    && (number_at b 20 == sector_size
    && (number_at b 24 == page_size
    && bytes_eq (part b 28 484) (replicate 484 0)))))

-- where the record k lies, numbered from 0, and where the records end
abbrev pub record_place : ℕ → ℕ
record_place k = sector_size + record_size * k

-- nothing past so many page records, or as much as a super-journal record can be
abbrev pub length_fits : ℕ → ℕ → Bool
length_fits count size = (size == record_place count) || (nat_le (record_place count + 21) size && nat_le size (record_place count + 52))

unfoldable pub length_right : Bytes → Bool
length_right b = length_fits (count_of b) (length b)

abbrev pub page_of : Bytes → ℕ → ℕ
page_of b k = number_at b (record_place k)

abbrev pub page_bytes : Bytes → ℕ → Bytes
page_bytes b k = part b (record_place k + 4) page_size

-- the first record is of page 1, each later one of a page past that of the record before it
abbrev pub follows : Bytes → ℕ → Bool
follows b zero = page_of b 0 == 1
follows b (suc k) = nat_lt (page_of b k) (page_of b (suc k))

unfoldable pub record_right : Bytes → ℕ → Bool
record_right b k =
    follows b k && (nat_le (page_of b k) (size_of b) && number_at b (record_place k + 516) == checksum (nonce_of b) (page_bytes b k))

-- header and length hold, so that the page records can be told
abbrev pub readable : Bytes → Bool
readable b = header_right b && length_right b

-- the record that a damaged journal is named by, from 1: the first wrong one if header and length hold, else 0
abbrev pub WrongAt : Bytes → ℕ → Type 0
WrongAt b zero = readable b ≡ true → (k : ℕ) → k < count_of b → record_right b k ≡ true
WrongAt b (suc k) = (readable b ≡ true) × (k < count_of b) × ((i : ℕ) → i < k → record_right b i ≡ true) × (record_right b k ≡ false)

-- where a name lies, past the records of a journal
abbrev pub name_span : ℕ → Option Name → Option Span
name_span count None = None
name_span count (Some n) = Some (record { place = record_place count + 4; length = length n })

-- the parts that a sound verdict tells are those of the journal
pub record Parts (s : SoundParts) (j : Journal) : Type 0 where
  pub count : s.count ≡ length j.records
  pub nonce : s.nonce ≡ j.nonce
  pub size : s.size ≡ j.size
  pub name : s.name ≡ name_span s.count j.super

-- the bytes are those of no lawful journal
abbrev pub NoJournal : Bytes → Type 0
NoJournal b = (j : Journal) → LawfulJournal j → b ≢ full j

unfoldable pub Judged : Bytes → Verdict → Type 0
Judged b Spent = spent b ≡ true
Judged b (Damaged k) = (spent b ≡ false) × NoJournal b × WrongAt b k
Judged b (Sound s) = (j : Journal) × LawfulJournal j × (b ≡ full j) × Parts s j
