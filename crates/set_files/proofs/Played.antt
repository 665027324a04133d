-- The bytes and the records of a journal that is played back.
use Rattle.std.proofs.Common.{◌≡◌, ℕ, zero, suc, ◌+◌, ◌<◌, ◌≤◌, List, [], ◌∷◌, length, take, drop, Some, None, Ok, Option, sym, ap, ◌∙◌, subst, arith}
use Rattle.std.proofs.lemmas.List.{take_at, take_all}
use Rattle.card.specs.Meaning.{Bytes, Name}
use Rattle.card.specs.Calls.{overwrite}
use Rattle.journal.specs.Format.{Journal, PageRecord, LawfulJournal, LawfulName, Ascending, full, record_of, super_bytes}
use Rattle.journal.specs.Judged.{Judged, Parts, record_place}
use Rattle.journal.specs.declared.verdict.Verdict.{Verdict}
use Rattle.journal.specs.declared.verdict.Verdict.TheVariants.{Sound}
use Rattle.journal.specs.declared.verdict.Sound.{Sound as SoundParts}
use Rattle.journal.proofs.Encoded.{length_encode, length_super}
use Rattle.journal.proofs.Laws.{journal_laws}
use Rattle.set_files.specs.Files.{ToldVerdict}

ascending_at : (size last : ℕ) (rs : List PageRecord) (k : ℕ) → Ascending size last rs → k < length rs → (last < (record_of rs k).page) × ((record_of rs k).page ≤ size)
unfolding Ascending
ascending_at size last [] k a lt = absurd (omega arith)
ascending_at size last (r ∷ rs) zero a lt = (a.0, a.1)
ascending_at size last (r ∷ rs) (suc k) a lt = let h = ascending_at size r.page rs k a.3 (omega arith) in (omega (arith, a.0, h.0), h.1)

-- the page of a record is one of the database's
pub page_bounds : (j : Journal) (k : ℕ) → LawfulJournal j → k < length j.records → (1 ≤ (record_of j.records k).page) × ((record_of j.records k).page ≤ 4096)
page_bounds j k ok lt = let h = ascending_at j.size 0 j.records k ok.each lt in (omega (arith, h.0), omega (arith, h.1, ok.size))

-- no journal is longer than the buffer
pub length_limit : (j : Journal) → LawfulJournal j → length (full j) ≤ 17724
unfolding super_bytes
length_limit j ok = by j.super ok.name (length_encode (length j.records) j ok)
  where
    by : (o : Option Name) → LawfulName o → length (full j) ≡ record_place (length j.records) + length (super_bytes o) → length (full j) ≤ 17724
    by None short long = omega (arith, long, ok.few)
    by (Some n) short long = omega (arith, long, length_super n, ok.few, short.1)

-- the front of the buffer is the journal
pub front_of : (buffer old b : Bytes) (n : ℕ) → buffer ≡ overwrite old 0 b → n ≡ length b → take n buffer ≡ b
front_of buffer old b n e size = ap (take n) e ∙ take_at b (drop (0 + length b) old) n (omega arith)

pub some_same : (f : Option Bytes) (a b : Bytes) → f ≡ Some a → f ≡ Some b → a ≡ b
some_same f a b p q = cc

-- what is told of a file that was judged
pub told_judged :
    (f : Option Bytes) (old new : Bytes) (o : Option Verdict) (v : Verdict) → o ≡ Some v → ToldVerdict f old (Ok o) new →
    (b : Bytes) × (f ≡ Some b) × Judged b v × (new ≡ overwrite old 0 (take 17724 b))
told_judged f old new o v e h = subst (λ (x : Option Verdict). ToldVerdict f old (Ok x) new) e h

-- the buffer begins with the whole journal
pub journal_read : (old new b : Bytes) (j : Journal) → LawfulJournal j → b ≡ full j → new ≡ overwrite old 0 (take 17724 b) → new ≡ overwrite old 0 (full j)
journal_read old new b j ok e is = is ∙ ap (overwrite old 0) (take_all 17724 b (subst (λ (x : Bytes). length x ≤ 17724) (sym e) (length_limit j ok)) ∙ e)

-- a whole journal is judged sound, with its parts, and then lies at the front of the buffer
pub sound_told :
    (f : Option Bytes) (old new : Bytes) (o : Option Verdict) (j : Journal) → ToldVerdict f old (Ok o) new → LawfulJournal j → f ≡ Some (full j) →
    (s : SoundParts) × (o ≡ Some (Sound s)) × Parts s j × (new ≡ overwrite old 0 (full j))
sound_told f old new None j h ok e = let is : f ≡ None = h.0 in let z : ◌≡◌ {A = ℕ} 0 1 = cc in absurd (omega arith)
sound_told f old new (Some v) j h ok e =
    let same = some_same f h.0 (full j) h.1 e in
    let t = journal_laws.round_trip j ok v (subst (λ (x : Bytes). Judged x v) same h.2) in
    (t.0, ap (λ (x : Verdict). Some x) t.1, t.2, journal_read old new h.0 j ok same h.3)
