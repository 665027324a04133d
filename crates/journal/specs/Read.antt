-- What is told of the parts of a sound journal, read in place.
use Rattle.std.specs.Prelude.{◌≡◌, ℕ, ◌+◌, ◌<◌, Bool, cond, ◌&&◌, length, Some, None, Option, nat_le, nat_lt}
use Rattle.card.specs.Meaning.{Bytes, Name}
use Rattle.card.specs.Calls.{part}
use Rattle.journal.specs.Format.{Journal, LawfulJournal, full, record_of}
use Rattle.journal.specs.Judged.{Parts, record_place}
use Rattle.journal.specs.declared.verdict.Sound.{Sound as SoundParts}
use Rattle.journal.specs.declared.verdict.Span.{Span}

-- the parts count a record of that index, and the bytes have it
abbrev pub has_record : SoundParts → Bytes → ℕ → Bool
has_record s b k = nat_lt k s.count && nat_le (record_place (k + 1)) (length b)

-- the bytes have what lies there
abbrev pub within : Bytes → Span → Bool
within b s = nat_le (s.place + s.length) (length b)

-- what lies there, if there is a place and the bytes have it
abbrev pub lying : Bytes → Option Span → Option Bytes
lying b None = None
lying b (Some s) = cond (within b s) (Some (part b s.place s.length)) None

-- bytes and parts are those of a lawful journal
pub record Of (b : Bytes) (s : SoundParts) (j : Journal) : Type 0 where
  pub lawful : LawfulJournal j
  pub bytes : b ≡ full j
  pub parts : Parts s j

-- of a journal's record, its page's number and its page
abbrev pub NumberTold : Bytes → SoundParts → ℕ → Option ℕ → Type 0
NumberTold b s k r = (j : Journal) → Of b s j → k < length j.records → r ≡ Some (record_of j.records k).page

abbrev pub PageTold : Bytes → SoundParts → ℕ → Option Bytes → Type 0
PageTold b s k r = (j : Journal) → Of b s j → k < length j.records → r ≡ Some (record_of j.records k).bytes

-- the name is the journal's
abbrev pub NameTold : Bytes → SoundParts → Option Name → Type 0
NameTold b s r = (j : Journal) → Of b s j → r ≡ j.super
