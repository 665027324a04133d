-- Worked examples. Each row is a value that the definitions must give.
use Rattle.std.specs.Prelude.{◌≡◌, ℕ, ◌<◌, Bool, true, false, [], ◌∷◌, length, replicate, Some, None, ◌≢◌, slice_index}
use Rattle.card.specs.Meaning.{Bytes, Name}
use Rattle.journal.specs.Format.{Journal, LawfulJournal, checksum, encode, full, super_bytes, magic}
use Rattle.journal.specs.Judged.{Judged}
use Rattle.super_journal.specs.Super.{super_journal_bytes}
use Rattle.journal.specs.declared.verdict.Verdict.{Verdict}
use Rattle.journal.specs.declared.verdict.Verdict.TheVariants.{Spent, Damaged}
use Rattle.refusal.specs.declared.refusals.Refusal.TheVariants.{Page}
use Rattle.refusal.specs.Numbers.{refusal_number}
use Rattle.pager.specs.declared.memory.Memory.{Memory}
use Rattle.pager.specs.Machine.{written}
use Rattle.pager.specs.View.{view, write_refusal}

-- the verdict on the bytes is sound, or is not: they are those of a lawful journal, or of none
abbrev pub SoundAs : Bytes → Bool → Type 0
SoundAs b true = (j : Journal) × LawfulJournal j × (b ≡ full j)
SoundAs b false = (j : Journal) → LawfulJournal j → b ≢ full j

-- a zero page 1 under nonce 7, alone, in a database of one page
abbrev pub zero_page : Journal
zero_page = record { nonce = 7; size = 1; records = record { page = 1; bytes = replicate 512 0 } ∷ []; super = None }

-- a-mj
abbrev pub a_mj : Name
a_mj = 97 ∷ 45 ∷ 109 ∷ 106 ∷ []

-- a-journal and b-journal
abbrev pub a_journal : Name
a_journal = 97 ∷ 45 ∷ 106 ∷ 111 ∷ 117 ∷ 114 ∷ 110 ∷ 97 ∷ 108 ∷ []

abbrev pub b_journal : Name
b_journal = 98 ∷ 45 ∷ 106 ∷ 111 ∷ 117 ∷ 114 ∷ 110 ∷ 97 ∷ 108 ∷ []

pub record Table : Type 0 where
  -- a page of bytes 05
  pub sum : checksum 7 (replicate 512 5) ≡ 17
  pub wrapped : checksum 4294967295 (replicate 512 5) ≡ 9
  -- the zero page alone
  pub long : length (full zero_page) ≡ 1032
  pub zero_sum : checksum 7 (replicate 512 0) ≡ 7
  pub lawful : LawfulJournal zero_page
  pub spent : (v : Verdict) → Judged (encode 0 zero_page) v → v ≡ Spent
  pub damaged : (v : Verdict) → Judged (encode 2 zero_page) v → v ≡ Damaged 0
  -- the record of a super-journal's name
  pub name : super_bytes (Some a_mj) ≡ 0x00 ∷ 0x20 ∷ 0x00 ∷ 0x01 ∷ 0x61 ∷ 0x2d ∷ 0x6d ∷ 0x6a ∷ 0x00 ∷ 0x00 ∷ 0x00 ∷ 0x04 ∷ 0x00 ∷ 0x00 ∷ 0x01 ∷ 0x65 ∷ magic
  -- the super-journal of two databases
  pub two : length (super_journal_bytes (a_journal ∷ b_journal ∷ [])) ≡ 20
  -- a database of 4,095 pages takes page 4,096, if there is room for one more changed and one more saved page
  pub last : (m : Memory) (d : ℕ) → d < m.count → slice_index m.sizes d ≡ 4095 → length m.changed.rows.items < 32 → length m.saved.rows.items < 32 → write_refusal m d 4096 512 ≡ None
  -- and has 4,096 pages then
  pub grown :
      (m n : Memory) (d : ℕ) (bytes : Bytes) → slice_index m.sizes d ≡ 4095 → length bytes ≡ 512 → ((files : ℕ → Bytes) → view files n ≡ written d 4096 bytes (view files m)) →
      slice_index n.sizes d ≡ 4096
  -- of which page 4,097 is refused, by 9
  pub past : (m : Memory) (d : ℕ) → d < m.count → slice_index m.sizes d ≡ 4096 → write_refusal m d 4097 512 ≡ Some Page
  pub ninth : refusal_number Page ≡ 9
