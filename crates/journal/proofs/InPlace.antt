-- The parts of a lawful journal stand in its bytes where a sound verdict says.
use Rattle.std.proofs.Common.{◌≡◌, ℕ, ◌+◌, ◌*◌, ◌<◌, true, ◌++◌, length, take, drop, Some, None, Option, MatchOption, sym, refl, ap, ◌∙◌, subst, ap₂, arith}
use Rattle.std.proofs.lemmas.List.{take_at, drop-drop}
use Rattle.std.proofs.lemmas.Bool.{and_from, lt-ltb, le-leb}
use Rattle.std.specs.List.{sum}
use Rattle.card.specs.Meaning.{Bytes, Name}
use Rattle.card.specs.Calls.{part}
use Rattle.card.specs.Numbers.{number_at, number_bytes}
use Rattle.journal.specs.Format.{Journal, LawfulJournal, full, record_of, super_bytes, magic}
use Rattle.journal.specs.Judged.{Parts, name_span, record_place, page_of, page_bytes}
use Rattle.journal.specs.Read.{Of, has_record, within}
use Rattle.journal.specs.declared.verdict.Sound.{Sound as SoundParts}
use Rattle.journal.specs.declared.verdict.Span.{Span}
use Rattle.journal.proofs.Numbers.{number_part}
use Rattle.journal.proofs.Pieces.{part_part}
use Rattle.journal.proofs.Encoded.{length_encode, length_super, page_at, bytes_at, end_full}

-- how long a journal is, by its parts and by what its super-journal's name takes
pub length_named :
    (s : SoundParts) (j : Journal) (k : ℕ) → LawfulJournal j → Parts s j → MatchOption s.name (k ≡ 0) (λ x. k ≡ x.length + 20) → 512 + 520 * s.count + k ≡ length (full j)
unfolding super_bytes
length_named s j k ok p h = by j.super (omega (arith, length_encode (length j.records) j ok, p.count)) (subst (λ (o : Option Span). MatchOption o (k ≡ 0) (λ x. k ≡ x.length + 20)) p.name h)
  where
    by :
        (o : Option Name) → length (full j) ≡ 512 + 520 * s.count + length (super_bytes o) → MatchOption (name_span s.count o) (k ≡ 0) (λ x. k ≡ x.length + 20) →
        512 + 520 * s.count + k ≡ length (full j)
    by None long is = omega (arith, long, is)
    by (Some n) long is = omega (arith, long, length_super n, is)

module _ (b : Bytes) (s : SoundParts) (j : Journal) (of : Of b s j) where
  long : length b ≡ record_place (length j.records) + length (super_bytes j.super)
  long = ap length of.bytes ∙ length_encode (length j.records) j of.lawful

  module _ (k : ℕ) (lt : k < length j.records) where
    pub has : has_record s b k ≡ true
    has = and_from _ _ (lt-ltb k s.count (omega (arith, of.parts.count))) (le-leb (record_place (k + 1)) (length b) (omega (arith, long)))

    module _ (r : Bytes) (is : r ≡ part b (record_place k) 520) where
      pub number_told : number_at r 0 ≡ (record_of j.records k).page
      number_told = ap (λ (x : Bytes). number_at x 0) is ∙ number_part b (record_place k) 520 (omega arith) ∙ ap (λ (x : Bytes). page_of x k) of.bytes ∙ page_at j of.lawful k lt

      pub page_told : part r 4 512 ≡ (record_of j.records k).bytes
      page_told = ap (λ (x : Bytes). part x 4 512) is ∙ part_part b (record_place k) 4 516 512 (omega arith) ∙ ap (λ (x : Bytes). page_bytes x k) of.bytes ∙ bytes_at j of.lawful k lt

  pub no_name : s.name ≡ None → None ≡ j.super
  no_name e = by j.super (sym e ∙ of.parts.name)
    where
      by : (o : Option Name) → None ≡ name_span s.count o → None ≡ o
      by None is = refl
      by (Some n) is = let z : ◌≡◌ {A = ℕ} 0 1 = cc in absurd (omega arith)

  -- the name, where the verdict says that it lies
  pub name_told : (span : Span) → s.name ≡ Some span → (within b span ≡ true) × (Some (part b span.place span.length) ≡ j.super)
  unfolding super_bytes
  name_told span e = by j.super (sym e ∙ of.parts.name) long ends
    where
      ends : drop (record_place (length j.records)) b ≡ super_bytes j.super
      ends = ap (drop (record_place (length j.records))) of.bytes ∙ end_full j of.lawful

      by :
          (o : Option Name) → Some span ≡ name_span s.count o → length b ≡ record_place (length j.records) + length (super_bytes o) →
          drop (record_place (length j.records)) b ≡ super_bytes o → (within b span ≡ true) × (Some (part b span.place span.length) ≡ o)
      by None is size tail = let z : ◌≡◌ {A = ℕ} 0 1 = cc in absurd (omega arith)
      by (Some n) is size tail = (le-leb (span.place + span.length) (length b) (omega (arith, place, count, size, length_super n)), ap (λ (x : Name). Some x) name)
        where
          span_is : span ≡ record { place = record_place s.count + 4; length = length n }
          span_is = cc

          place : span.place ≡ record_place (length j.records) + 4
          place = ap (λ (x : Span). x.place) span_is ∙ ap (λ (c : ℕ). record_place c + 4) of.parts.count

          count : span.length ≡ length n
          count = ap (λ (x : Span). x.length) span_is

          name : part b span.place span.length ≡ n
          name =
              ap₂ (λ (p c : ℕ). take c (drop p b)) place count ∙ ap (take (length n)) (sym (drop-drop 4 (record_place (length j.records)) b) ∙ ap (drop 4) tail)
              ∙ take_at n (number_bytes (length n) ++ (number_bytes (sum n) ++ magic)) (length n) refl
