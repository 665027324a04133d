-- Bytes that pass every test of the verdict are those of a lawful journal.
use Rattle.std.proofs.Common.{◌≡◌, ℕ, zero, suc, ◌+◌, ◌-◌, ◌*◌, ◌^◌, ◌<◌, ◌≤◌, true, false, ◌&&◌, eqb, List, [], ◌∷◌, ◌++◌, length, take, drop, replicate, Some, Option, sym, refl, ap, ◌∙◌, ap₂, arith}
use Rattle.std.specs.Str.{bytes_eq}
use Rattle.std.proofs.lemmas.List.{take-append-drop, drop-drop}
use Rattle.std.proofs.lemmas.Slice.Eq.{bytes_eq-Decides}
use Rattle.std.proofs.lemmas.Bool.{and_parts, or_parts, not-false, ltb-true, ltb-false, leb-true, eqb-true, eqb-false}
use Rattle.std.specs.List.{sum}
use Rattle.card.specs.Meaning.{Bytes, Name}
use Rattle.card.specs.Calls.{part}
use Rattle.card.specs.Numbers.{number_at, number_bytes}
use Rattle.journal.specs.Format.{PageRecord, Journal, LawfulJournal, LawfulName, Octets, Ascending, Starts, header, record_bytes, records_bytes, super_bytes, encode, full, magic, checksum}
use Rattle.journal.specs.Judged.{spent, header_right, record_right, record_place, page_of, page_bytes, count_of, nonce_of, size_of}
use Rattle.journal.specs.Fronts.{super_right}
use Rattle.journal.proofs.Numbers.{part_number}
use Rattle.journal.proofs.Pieces.{part_split, part_cut, part_end, length_part}

-- what the tests of a header say
pub record HeaderIs (b : Bytes) : Type 0 where
  pub long : 512 ≤ length b
  pub magic : magic ≡ take 8 b
  pub some : 1 ≤ count_of b
  pub few : count_of b ≤ 33
  pub some_pages : 1 ≤ size_of b
  pub size : size_of b ≤ 4096
  pub sector : number_at b 20 ≡ 512
  pub page : number_at b 24 ≡ 512
  pub padding : part b 28 484 ≡ replicate 484 0

pub header_is : (b : Bytes) → spent b ≡ false → header_right b ≡ true → HeaderIs b
unfolding spent header_right
header_is b s h =
    let s₀ = or_parts _ _ s in
    let s₁ = or_parts _ _ s₀.1 in
    let h₀ = and_parts _ _ h in
    let h₁ = and_parts _ _ h₀.1 in
    let h₂ = and_parts _ _ h₁.1 in
    let h₃ = and_parts _ _ h₂.1 in
    let h₄ = and_parts _ _ h₃.1 in
    let zero-not = eqb-false (count_of b) 0 s₁.1 in
    record {
      long = ltb-false (length b) 512 s₀.0;
      magic = (bytes_eq-Decides magic (take 8 b)).0 (not-false _ s₁.0);
      some = positive (count_of b) zero-not;
      few = leb-true _ _ h₀.0;
      some_pages = leb-true _ _ h₁.0;
      size = leb-true _ _ h₂.0;
      sector = eqb-true _ _ h₃.0;
      page = eqb-true _ _ h₄.0;
      padding = (bytes_eq-Decides (part b 28 484) (replicate 484 0)).0 h₄.1;
    }
  where
    positive : (n : ℕ) → (n ≡ 0 → ⊥) → 1 ≤ n
    positive zero ne = absurd (ne refl)
    positive (suc n) ne = omega arith

pub header_part : (b : Bytes) → Octets b → HeaderIs b → take 512 b ≡ header (count_of b) (nonce_of b) (size_of b)
unfolding header
header_part b fit is =
    part_split b 0 8 504
    ∙ ap₂ ◌++◌ (sym is.magic)
    (part_split b 8 4 500
    ∙ ap₂ ◌++◌ (at 8 (omega (arith, is.long)))
    (part_split b 12 4 496
    ∙ ap₂ ◌++◌ (at 12 (omega (arith, is.long)))
    (part_split b 16 4 492
    ∙ ap₂ ◌++◌ (at 16 (omega (arith, is.long)))
    (part_split b 20 4 488
    ∙ ap₂ ◌++◌ (at 20 (omega (arith, is.long)) ∙ ap number_bytes is.sector)
    (part_split b 24 4 484 ∙ ap₂ ◌++◌ (at 24 (omega (arith, is.long)) ∙ ap number_bytes is.page) is.padding)))))
  where
    at : (i : ℕ) → i + 4 ≤ length b → part b i 4 ≡ number_bytes (number_at b i)
    at i h = part_number b i fit h

-- the record k as it lies in the bytes, and so many from k on
abbrev pub record_at : Bytes → ℕ → PageRecord
record_at b k = record { page = page_of b k; bytes = page_bytes b k }

abbrev pub read_records : Bytes → ℕ → ℕ → List PageRecord
read_records b k zero = []
read_records b k (suc n) = record_at b k ∷ read_records b (suc k) n

pub length_read : (b : Bytes) (k n : ℕ) → length (read_records b k n) ≡ n
length_read b k zero = refl
length_read b k (suc n) = ap suc (length_read b (suc k) n)

-- what the tests of a record say
pub record RecordIs (b : Bytes) (k : ℕ) : Type 0 where
  pub within : page_of b k ≤ size_of b
  pub sum : number_at b (record_place k + 516) ≡ checksum (nonce_of b) (page_bytes b k)

pub record_is : (b : Bytes) (k : ℕ) → record_right b k ≡ true → RecordIs b k
unfolding record_right
record_is b k r =
    let r₀ = and_parts _ _ r in
    let r₁ = and_parts _ _ r₀.1 in
    record { within = leb-true _ _ r₁.0; sum = eqb-true _ _ r₁.1 }

pub starts_at : (b : Bytes) → record_right b 0 ≡ true → page_of b 0 ≡ 1
unfolding record_right
starts_at b r = eqb-true _ _ (and_parts _ _ r).0

pub follows_at : (b : Bytes) (k : ℕ) → record_right b (suc k) ≡ true → page_of b k < page_of b (suc k)
unfolding record_right
follows_at b k r = ltb-true _ _ (and_parts _ _ r).0

module _ (b : Bytes) (fit : Octets b) where
  record_part : (k : ℕ) → record_place k + 520 ≤ length b → record_right b k ≡ true → part b (record_place k) 520 ≡ record_bytes (nonce_of b) (record_at b k)
  unfolding record_bytes
  record_part k h r =
      part_split b (record_place k) 4 516
      ∙ ap₂ ◌++◌ (part_number b (record_place k) fit (omega arith))
      (part_cut b (record_place k + 4) 512 4 (record_place k + 516) 516 refl (omega arith)
      ∙ ap (λ (s : Bytes). page_bytes b k ++ s) (part_number b (record_place k + 516) fit (omega arith) ∙ ap number_bytes (record_is b k r).sum))

  pub records_part :
      (n k : ℕ) → record_place (k + n) ≤ length b → ((j : ℕ) → j < k + n → record_right b j ≡ true) →
      part b (record_place k) (520 * n) ≡ records_bytes (nonce_of b) (read_records b k n)
  unfolding records_bytes
  records_part zero k h right = refl
  records_part (suc n) k h right =
      part_cut b (record_place k) 520 (520 * n) (record_place (suc k)) (520 * suc n) (omega arith) (omega arith)
      ∙ ap₂ ◌++◌ (record_part k (omega arith) (right k (omega arith))) (records_part n (suc k) (omega arith) (λ j lt. right j (omega arith)))

  pub records_ascend :
      (n k last : ℕ) → record_place (k + n) ≤ length b → ((j : ℕ) → j < k + n → record_right b j ≡ true) → (0 < n → last < page_of b k) →
      Ascending (size_of b) last (read_records b k n)
  unfolding Ascending
  records_ascend zero k last h right above = tt
  records_ascend (suc n) k last h right above = (
    above (omega arith),
    (record_is b k (right k (omega arith))).within,
    length_part b (record_place k + 4) 512 (omega arith),
    records_ascend n (suc k) (page_of b k) (omega arith) (λ j lt. right j (omega arith)) (λ more. follows_at b k (right (suc k) (omega arith))),
  )

  pub records_start : (n : ℕ) → 1 ≤ n → ((j : ℕ) → j < n → record_right b j ≡ true) → Starts (read_records b 0 n)
  records_start zero h right = absurd (omega arith)
  records_start (suc n) h right = starts_at b (right 0 (omega arith))

-- the journal that the bytes are, with its super-journal's name
abbrev pub journal_of : Bytes → Option Name → Journal
journal_of b o = record { nonce = nonce_of b; size = size_of b; records = read_records b 0 (count_of b); super = o }

nonce_small : (b : Bytes) → Octets b → nonce_of b < 2 ^ 32
nonce_small b fit = omega (arith, fit 12, fit 13, fit 14, fit 15)

module _ (b : Bytes) (fit : Octets b) (is : HeaderIs b) (h : record_place (count_of b) ≤ length b) (right : (j : ℕ) → j < count_of b → record_right b j ≡ true) (o : Option Name) where
  pub taken_lawful : LawfulName o → LawfulJournal (journal_of b o)
  taken_lawful ok =
      record {
        nonce = nonce_small b fit;
        some_pages = is.some_pages;
        size = is.size;
        first = records_start b fit (count_of b) is.some right;
        each = records_ascend b fit (count_of b) 0 0 whole all (λ some. omega (arith, starts_at b (right 0 some)));
        few = omega (arith, length_read b 0 (count_of b), is.few);
        name = ok;
      }
    where
      whole : record_place (0 + count_of b) ≤ length b
      whole = omega arith

      all : (j : ℕ) → j < 0 + count_of b → record_right b j ≡ true
      all j lt = right j (omega arith)

  pub taken_full : drop (record_place (count_of b)) b ≡ super_bytes o → b ≡ full (journal_of b o)
  unfolding encode
  taken_full ends =
      sym (take-append-drop 512 b)
      ∙ ap₂ ◌++◌ (header_part b fit is ∙ ap (λ (n : ℕ). header n (nonce_of b) (size_of b)) (sym (length_read b 0 (count_of b))))
      (sym (take-append-drop (520 * count_of b) (drop 512 b))
      ∙ ap₂ ◌++◌ (records_part b fit (count_of b) 0 (omega arith) (λ j lt. right j (omega arith))) (drop-drop (520 * count_of b) 512 b ∙ ends))

-- a right super-journal record is that of the name in it
pub super_taken : (s : Bytes) → Octets s → 21 ≤ length s → length s ≤ 52 → super_right s ≡ true → s ≡ super_bytes (Some (part s 4 (length s - 20)))
unfolding super_right super_bytes
super_taken s fit long short r =
    sym (part_end s 0 (length s) (omega arith))
    ∙ part_cut s 0 4 (n + 16) 4 (length s) (omega arith) refl
    ∙ ap₂ ◌++◌ (part_number s 0 fit (omega arith) ∙ ap number_bytes (eqb-true _ _ r₀.0))
    (part_split s 4 n 16
    ∙ ap (λ (t : Bytes). name ++ t)
    (part_cut s (4 + n) 4 12 (8 + n) 16 refl (omega arith)
    ∙ ap₂ ◌++◌ (part_number s (4 + n) fit (omega arith) ∙ ap number_bytes (eqb-true _ _ r₁.0 ∙ sym (length_part s 4 n (omega arith))))
    (part_cut s (8 + n) 4 8 (12 + n) 12 refl (omega arith)
    ∙ ap₂ ◌++◌ (part_number s (8 + n) fit (omega arith) ∙ ap number_bytes (eqb-true _ _ r₂.0)) (sym ((bytes_eq-Decides magic (part s (12 + n) 8)).0 r₂.1)))))
  where
    n : ℕ
    n = length s - 20

    name : Bytes
    name = part s 4 n

    r₀ : (eqb (number_at s 0) 2097153 ≡ true) × ((eqb (number_at s (4 + n)) n && (eqb (number_at s (8 + n)) (sum name) && bytes_eq magic (part s (12 + n) 8))) ≡ true)
    r₀ = and_parts _ _ r

    r₁ : (eqb (number_at s (4 + n)) n ≡ true) × ((eqb (number_at s (8 + n)) (sum name) && bytes_eq magic (part s (12 + n) 8)) ≡ true)
    r₁ = and_parts _ _ r₀.1

    r₂ : (eqb (number_at s (8 + n)) (sum name) ≡ true) × (bytes_eq magic (part s (12 + n) 8) ≡ true)
    r₂ = and_parts _ _ r₁.1
