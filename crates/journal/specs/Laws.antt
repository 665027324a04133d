-- What holds of the bytes of journals, for whoever writes and judges them.
use Rattle.std.specs.Prelude.{◌≡◌, ℕ, ◌≤◌, ◌⊎◌, [], slice_index_or}
use Rattle.card.specs.Meaning.{Bytes}
use Rattle.card.specs.Calls.{Partly, overwrite}
use Rattle.card.specs.Numbers.{number_bytes}
use Rattle.journal.specs.Format.{Journal, LawfulJournal, encode, full, record_limit}
use Rattle.journal.specs.Judged.{Judged, Parts}
use Rattle.journal.specs.declared.verdict.Verdict.{Verdict}
use Rattle.journal.specs.declared.verdict.Verdict.TheVariants.{Spent, Sound}
use Rattle.journal.specs.declared.verdict.Sound.{Sound as SoundParts}

-- the four bytes of the count are zero, or are not there
pub record Quiet (b : Bytes) : Type 0 where
  pub at_8 : slice_index_or b 8 0 ≡ 0
  pub at_9 : slice_index_or b 9 0 ≡ 0
  pub at_10 : slice_index_or b 10 0 ≡ 0
  pub at_11 : slice_index_or b 11 0 ≡ 0

pub record JournalLaws : Type 0 where
  -- bytes have one verdict
  pub one : (b : Bytes) (v w : Verdict) → Judged b v → Judged b w → v ≡ w
  -- a written journal with its count is sound, with what went in
  pub round_trip : (j : Journal) → LawfulJournal j → (v : Verdict) → Judged (full j) v → (s : SoundParts) × (v ≡ Sound s) × Parts s j
  -- without a count it is spent, whatever else the bytes are
  pub quiet : (b : Bytes) → Quiet b → (v : Verdict) → Judged b v → v ≡ Spent
  -- whatever remains of a write of a journal with count 0 to an empty file has no count
  pub unfinished : (j : Journal) (b : Bytes) → Partly [] 0 (encode 0 j) b → Quiet b
  -- the count written over the count 0
  pub counted : (j : Journal) (n : ℕ) → overwrite (encode 0 j) 8 (number_bytes n) ≡ encode n j
  -- a count torn in any way is the count 0 or the whole one
  pub torn : (j : Journal) (n : ℕ) (b : Bytes) → n ≤ record_limit → Partly (encode 0 j) 8 (number_bytes n) b → (b ≡ encode 0 j) ⊎ (b ≡ encode n j)
  -- two lawful journals with the same bytes are the same journal
  pub same : (i j : Journal) → LawfulJournal i → LawfulJournal j → full i ≡ full j → i ≡ j
