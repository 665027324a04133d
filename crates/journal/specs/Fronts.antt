-- The numbers of a header, as they are read.
use Rattle.std.specs.Prelude.{◌≡◌, ℕ, ◌+◌, ◌-◌, ◌<◌, Bool, true, false, ◌&&◌, length, sum, replicate, Some, None, Option, ◌==◌, nat_le}
use Rattle.std.specs.Str.{bytes_eq}
use Rattle.card.specs.Meaning.{Bytes}
use Rattle.card.specs.Numbers.{number_at}
use Rattle.card.specs.Calls.{part}
use Rattle.journal.specs.Format.{magic, super_page, super_extra, page_size, sector_size, page_limit, record_limit}
use Rattle.journal.specs.Judged.{record_right}
use Rattle.journal.specs.declared.header.Header.{Header}

pub record Reads (b : Bytes) (h : Header) : Type 0 where
  pub count : h.count ≡ number_at b 8
  pub nonce : h.nonce ≡ number_at b 12
  pub size : h.size ≡ number_at b 16

-- the five numbers past the magic
pub record Apart (b : Bytes) (h : Header) (t p : ℕ) : Type 0 where
  pub numbers : Reads b h
  pub sector : t ≡ number_at b 20
  pub page : p ≡ number_at b 24

abbrev pub front_right : ℕ → ℕ → ℕ → ℕ → Bytes → Bool
front_right count size sector page padding =
    nat_le count record_limit
    && (nat_le 1 size
    && (nat_le size page_limit
    && (sector == sector_size
    && (page == page_size
    && bytes_eq padding (replicate 484 0)))))

-- the first wrong record of so many, by its index from 0; none if all are right
abbrev pub FirstWrong : Bytes → ℕ → Option ℕ → Type 0
FirstWrong b count None = (k : ℕ) → k < count → record_right b k ≡ true
FirstWrong b count (Some k) = (k < count) × ((i : ℕ) → i < k → record_right b i ≡ true) × (record_right b k ≡ false)

-- the bytes are a super-journal record, of a name as long as they leave room for
unfoldable pub super_right : Bytes → Bool
super_right s =
    (number_at s 0 == super_page)
    && (number_at s (4 + (length s - super_extra)) == length s - super_extra
    && (number_at s (8 + (length s - super_extra)) == sum (part s 4 (length s - super_extra))
    && bytes_eq magic (part s (12 + (length s - super_extra)) 8)))
