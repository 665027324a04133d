-- The bytes of a lawful journal pass every test of the verdict.
use Rattle.std.proofs.Common.{◌≡◌, ℕ, zero, suc, ◌+◌, ◌-◌, ◌*◌, ◌^◌, ◌<◌, ◌≤◌, true, false, not, ◌&&◌, ◌||◌, eqb, leb, List, [], ◌∷◌, ◌++◌, length, take, drop, replicate, Some, None, Option, sym, refl, ap, ◌∙◌, subst, ap₂, append_assoc, add-zero, arith, length-append}
use lib.ListN.{length-replicate}
use Rattle.std.specs.Str.{bytes_eq}
use Rattle.std.proofs.lemmas.List.{take_at, drop_at, drop-drop}
use Rattle.std.proofs.lemmas.Slice.Eq.{bytes_eq-Decides}
use Rattle.std.proofs.lemmas.Bool.{and_from, or_from, or_left, or_right, lt-ltb, le-ltb, le-leb, eq-eqb, ne_eqb}
use Rattle.std.specs.List.{sum}
use Rattle.card.specs.Meaning.{Bytes, Name}
use Rattle.card.specs.Calls.{part}
use Rattle.card.specs.Numbers.{number_at, number_bytes}
use Rattle.card.proofs.Numbers.{number_of_bytes}
use Rattle.journal.specs.Format.{PageRecord, Journal, record_of, LawfulJournal, LawfulName, Octets, Ascending, Starts, header, record_bytes, records_bytes, super_bytes, encode, full, magic, checksum}
use Rattle.journal.specs.Judged.{spent, header_right, length_right, record_right, follows, record_place, page_of, page_bytes, count_of, nonce_of, size_of}
use Rattle.journal.specs.Fronts.{super_right}
use Rattle.journal.proofs.Numbers.{number_drop}
use Rattle.journal.proofs.Sums.{sum_small}

-- how long the pieces are
pub length_header : (n k size : ℕ) → length (header n k size) ≡ 512
unfolding header
length_header n k size = omega (arith, length-replicate {A = ℕ} 484 0)

pub length_record : (k : ℕ) (r : PageRecord) → length r.bytes ≡ 512 → length (record_bytes k r) ≡ 520
unfolding record_bytes
length_record k r ok = simp length-append (omega (arith, ok))

pub length_records : (k size last : ℕ) (rs : List PageRecord) → Ascending size last rs → length (records_bytes k rs) ≡ 520 * length rs
unfolding records_bytes Ascending
length_records k size last [] ok = refl
length_records k size last (r ∷ rs) ok =
    length-append (record_bytes k r) (records_bytes k rs) ∙ omega (arith, length_record k r ok.2, length_records k size r.page rs ok.3)

pub length_super : (n : Name) → length (super_bytes (Some n)) ≡ length n + 20
unfolding super_bytes
length_super n = simp length-append (omega arith)

pub length_encode : (n : ℕ) (j : Journal) → LawfulJournal j → length (encode n j) ≡ record_place (length j.records) + length (super_bytes j.super)
unfolding encode
length_encode n j ok =
    simp length-append (omega (arith, length_header n j.nonce j.size, length_records j.nonce j.size 0 j.records ok.each))

pub some_records : (j : Journal) → LawfulJournal j → 1 ≤ length j.records
some_records j ok = some j.records ok.first
  where
    some : (rs : List PageRecord) → Starts rs → 1 ≤ length rs
    some [] none = absurd none
    some (r ∷ rs) first = omega arith

-- what each record of a list is
ascend_at : (size last : ℕ) (rs : List PageRecord) (k : ℕ) → Ascending size last rs → k < length rs → ((record_of rs k).page ≤ size) × (length (record_of rs k).bytes ≡ 512)
unfolding Ascending
ascend_at size last [] k ok lt = absurd (omega arith)
ascend_at size last (r ∷ rs) zero ok lt = (ok.1, ok.2)
ascend_at size last (r ∷ rs) (suc k) ok lt = ascend_at size r.page rs k ok.3 (omega arith)

ascend_first : (size last : ℕ) (rs : List PageRecord) → Ascending size last rs → 0 < length rs → last < (record_of rs 0).page
unfolding Ascending
ascend_first size last [] ok lt = absurd (omega arith)
ascend_first size last (r ∷ rs) ok lt = ok.0

ascend_next : (size last : ℕ) (rs : List PageRecord) (k : ℕ) → Ascending size last rs → suc k < length rs → (record_of rs k).page < (record_of rs (suc k)).page
unfolding Ascending
ascend_next size last [] k ok lt = absurd (omega arith)
ascend_next size last (r ∷ rs) zero ok lt = ascend_first size r.page rs ok.3 (omega arith)
ascend_next size last (r ∷ rs) (suc k) ok lt = ascend_next size r.page rs k ok.3 (omega arith)

first_page : (rs : List PageRecord) → Starts rs → (record_of rs 0).page ≡ 1
first_page [] none = absurd none
first_page (r ∷ rs) is = is

-- the record k stands in the bytes of the records, with what follows it
records_at :
    (n size last : ℕ) (rs : List PageRecord) (k : ℕ) (x : Bytes) → Ascending size last rs → k < length rs →
    drop (520 * k) (records_bytes n rs ++ x) ≡ record_bytes n (record_of rs k) ++ (records_bytes n (drop (suc k) rs) ++ x)
unfolding records_bytes Ascending
records_at n size last [] k x ok lt = absurd (omega arith)
records_at n size last (r ∷ rs) zero x ok lt = append_assoc (record_bytes n r) (records_bytes n rs) x
records_at n size last (r ∷ rs) (suc k) x ok lt =
    let step : 520 * suc k ≡ 520 + 520 * k = omega arith in
    ap (λ (m : ℕ). drop m ((record_bytes n r ++ records_bytes n rs) ++ x)) step
    ∙ sym (drop-drop (520 * k) 520 ((record_bytes n r ++ records_bytes n rs) ++ x))
    ∙ ap (λ (s : Bytes). drop (520 * k) (drop 520 s)) (append_assoc (record_bytes n r) (records_bytes n rs) x)
    ∙ ap (drop (520 * k)) (drop_at (record_bytes n r) (records_bytes n rs ++ x) 520 (length_record n r ok.2))
    ∙ records_at n size r.page rs k x ok.3 (omega arith)

-- a record's parts, where its bytes stand before others
module _ (n : ℕ) (r : PageRecord) (x : Bytes) (whole : length r.bytes ≡ 512) (small : r.page < 2 ^ 32) where
  front_page : number_at (record_bytes n r ++ x) 0 ≡ r.page
  unfolding record_bytes
  front_page = number_of_bytes r.page small

  front_bytes : take 512 (drop 4 (record_bytes n r ++ x)) ≡ r.bytes
  unfolding record_bytes
  front_bytes =
      ap (take 512) (append_assoc r.bytes (number_bytes (checksum n r.bytes)) x)
      ∙ take_at r.bytes (number_bytes (checksum n r.bytes) ++ x) 512 whole

  front_rest : drop 512 (drop 4 (record_bytes n r ++ x)) ≡ number_bytes (checksum n r.bytes) ++ x
  unfolding record_bytes
  front_rest =
      ap (drop 512) (append_assoc r.bytes (number_bytes (checksum n r.bytes)) x)
      ∙ drop_at r.bytes (number_bytes (checksum n r.bytes) ++ x) 512 whole

  front_sum : number_at (record_bytes n r ++ x) 516 ≡ checksum n r.bytes
  front_sum =
      sym (number_drop (record_bytes n r ++ x) 516 0)
      ∙ ap (λ (s : Bytes). number_at s 0) (sym (drop-drop 512 4 (record_bytes n r ++ x)) ∙ front_rest)
      ∙ number_of_bytes (checksum n r.bytes) (omega arith)

module _ (j : Journal) (ok : LawfulJournal j) where
  pub count_full : count_of (full j) ≡ length j.records
  unfolding encode header
  count_full = number_of_bytes (length j.records) (omega (arith, ok.few))

  pub nonce_full : nonce_of (full j) ≡ j.nonce
  unfolding encode header
  nonce_full = number_of_bytes j.nonce ok.nonce

  pub size_full : size_of (full j) ≡ j.size
  unfolding encode header
  size_full = number_of_bytes j.size (omega (arith, ok.size))

  long_full : 512 ≤ length (full j)
  long_full = omega (arith, length_encode (length j.records) j ok)

  magic_full : bytes_eq magic (take 8 (full j)) ≡ true
  unfolding encode header
  magic_full = refl

  pub spent_full : spent (full j) ≡ false
  unfolding spent
  spent_full =
      or_from _ _ (le-ltb (length (full j)) 512 long_full)
      (or_from _ _ (ap not magic_full) (ne_eqb (count_of (full j)) 0 (λ e. omega (arith, e, count_full, some_records j ok))))

  sector_full : number_at (full j) 20 ≡ 512
  unfolding encode header
  sector_full = refl

  page_full : number_at (full j) 24 ≡ 512
  unfolding encode header
  page_full = refl

  padding_full : part (full j) 28 484 ≡ replicate 484 0
  unfolding encode header
  padding_full = take_at (replicate 484 0) (records_bytes j.nonce j.records ++ super_bytes j.super) 484 (length-replicate {A = ℕ} 484 0)

  pub header_full : header_right (full j) ≡ true
  unfolding header_right
  header_full =
      and_from _ _ (le-leb (count_of (full j)) 33 (omega (arith, count_full, ok.few)))
      (and_from _ _ (le-leb 1 (size_of (full j)) (omega (arith, size_full, ok.some_pages)))
      (and_from _ _ (le-leb (size_of (full j)) 4096 (omega (arith, size_full, ok.size)))
      (and_from _ _ (eq-eqb (number_at (full j) 20) 512 sector_full)
      (and_from _ _ (eq-eqb (number_at (full j) 24) 512 page_full)
      ((bytes_eq-Decides (part (full j) 28 484) (replicate 484 0)).1 padding_full)))))

  -- what stands past the header, and past the records
  body_full : drop 512 (full j) ≡ records_bytes j.nonce j.records ++ super_bytes j.super
  unfolding encode
  body_full =
      drop_at (header (length j.records) j.nonce j.size) (records_bytes j.nonce j.records ++ super_bytes j.super) 512
      (length_header (length j.records) j.nonce j.size)

  pub end_full : drop (record_place (length j.records)) (full j) ≡ super_bytes j.super
  end_full =
      sym (drop-drop (520 * length j.records) 512 (full j)) ∙ ap (drop (520 * length j.records)) body_full
      ∙ drop_at (records_bytes j.nonce j.records) (super_bytes j.super) (520 * length j.records) (length_records j.nonce j.size 0 j.records ok.each)

  pub length_full : length_right (full j) ≡ true
  unfolding length_right super_bytes
  length_full = by j.super ok.name (length_encode (length j.records) j ok)
    where
      by :
          (o : Option Name) → LawfulName o → length (full j) ≡ record_place (length j.records) + length (super_bytes o) →
          (eqb (length (full j)) (record_place (count_of (full j))) || (leb (record_place (count_of (full j)) + 21) (length (full j)) && leb (length (full j)) (record_place (count_of (full j)) + 52))) ≡ true
      by None name e = or_left _ _ (eq-eqb (length (full j)) (record_place (count_of (full j))) (omega (arith, e, count_full)))
      by (Some n) name e =
          or_right _ _
          (and_from _ _ (le-leb (record_place (count_of (full j)) + 21) (length (full j)) (omega (arith, e, count_full, length_super n, name.0)))
          (le-leb (length (full j)) (record_place (count_of (full j)) + 52) (omega (arith, e, count_full, length_super n, name.1))))

  module _ (k : ℕ) (lt : k < length j.records) where
    abbrev r : PageRecord
    r = record_of j.records k

    abbrev x : Bytes
    x = records_bytes j.nonce (drop (suc k) j.records) ++ super_bytes j.super

    is : (r.page ≤ j.size) × (length r.bytes ≡ 512)
    is = ascend_at j.size 0 j.records k ok.each lt

    here : drop (record_place k) (full j) ≡ record_bytes j.nonce r ++ x
    here =
        sym (drop-drop (520 * k) 512 (full j)) ∙ ap (drop (520 * k)) body_full
        ∙ records_at j.nonce j.size 0 j.records k (super_bytes j.super) ok.each lt

    number_here : (i : ℕ) → number_at (full j) (record_place k + i) ≡ number_at (record_bytes j.nonce r ++ x) i
    number_here i = sym (number_drop (full j) (record_place k) i) ∙ ap (λ (s : Bytes). number_at s i) here

    small : r.page < 2 ^ 32
    small = omega (arith, is.0, ok.size)

    pub page_at : page_of (full j) k ≡ (record_of j.records k).page
    page_at = ap (number_at (full j)) (sym (add-zero (record_place k))) ∙ number_here 0 ∙ front_page j.nonce r x is.1 small

    pub bytes_at : page_bytes (full j) k ≡ (record_of j.records k).bytes
    bytes_at =
        ap (take 512) (sym (drop-drop 4 (record_place k) (full j)) ∙ ap (drop 4) here) ∙ front_bytes j.nonce r x is.1 small

    sum_at : number_at (full j) (record_place k + 516) ≡ checksum j.nonce r.bytes
    sum_at = number_here 516 ∙ front_sum j.nonce r x is.1 small

  follows_full : (k : ℕ) → k < length j.records → follows (full j) k ≡ true
  follows_full zero lt = eq-eqb (page_of (full j) 0) 1 (page_at 0 lt ∙ first_page j.records ok.first)
  follows_full (suc k) lt =
      lt-ltb (page_of (full j) k) (page_of (full j) (suc k))
      (omega (arith, page_at k (omega arith), page_at (suc k) lt, ascend_next j.size 0 j.records k ok.each lt))

  pub record_full : (k : ℕ) → k < length j.records → record_right (full j) k ≡ true
  unfolding record_right
  record_full k lt =
      and_from _ _ (follows_full k lt)
      (and_from _ _ (le-leb (page_of (full j) k) (size_of (full j)) (omega (arith, page_at k lt, size_full, (ascend_at j.size 0 j.records k ok.each lt).0)))
      (eq-eqb (number_at (full j) (record_place k + 516)) (checksum (nonce_of (full j)) (page_bytes (full j) k)) (sum_at k lt ∙ sym (ap₂ checksum nonce_full (bytes_at k lt)))))

-- a name's record is right
pub super_full : (n : Name) → length n ≤ 32 → Octets n → super_right (super_bytes (Some n)) ≡ true
unfolding super_right super_bytes
super_full n short fit =
    subst (λ (m : ℕ). (eqb (number_at s 0) 2097153 && (eqb (number_at s (4 + m)) m && (eqb (number_at s (8 + m)) (sum (part s 4 m)) && bytes_eq magic (part s (12 + m) 8)))) ≡ true) (sym long)
    (and_from _ _ page
    (and_from _ _ (eq-eqb (number_at s (4 + length n)) (length n) length_is)
    (and_from _ _ (eq-eqb (number_at s (8 + length n)) (sum (part s 4 (length n))) (sum_is ∙ sym (ap sum name_is))) ((bytes_eq-Decides magic (part s (12 + length n) 8)).1 (sym magic_is)))))
  where
    s : Bytes
    s = super_bytes (Some n)

    long : length s - 20 ≡ length n
    long = omega (arith, length_super n)

    rest : Bytes
    rest = number_bytes (length n) ++ (number_bytes (sum n) ++ magic)

    page : eqb (number_at s 0) 2097153 ≡ true
    page = refl

    past : drop 4 s ≡ n ++ rest
    past = refl

    after : (i : ℕ) → drop (4 + length n + i) s ≡ drop i rest
    after i =
        let e : 4 + length n + i ≡ 4 + (length n + i) = omega arith in
        ap (λ (m : ℕ). drop m s) e ∙ sym (drop-drop (length n + i) 4 s) ∙ ap (drop (length n + i)) past
        ∙ sym (drop-drop i (length n) (n ++ rest)) ∙ ap (drop i) (drop_at n rest (length n) refl)

    at : (m i : ℕ) → m ≡ 4 + length n + i → number_at s m ≡ number_at (drop i rest) 0
    at m i e =
        let z : m ≡ 4 + length n + i + 0 = omega arith in
        ap (number_at s) z ∙ sym (number_drop s (4 + length n + i) 0) ∙ ap (λ (t : Bytes). number_at t 0) (after i)

    length_is : number_at s (4 + length n) ≡ length n
    length_is = at (4 + length n) 0 (omega arith) ∙ number_of_bytes (length n) (omega arith)

    sum_is : number_at s (8 + length n) ≡ sum n
    sum_is = at (8 + length n) 4 (omega arith) ∙ number_of_bytes (sum n) (omega (arith, sum_small n fit))

    name_is : part s 4 (length n) ≡ n
    name_is = ap (take (length n)) past ∙ take_at n rest (length n) refl

    magic_is : part s (12 + length n) 8 ≡ magic
    magic_is =
        let e : 12 + length n ≡ 4 + length n + 8 = omega arith in
        ap (λ (m : ℕ). take 8 (drop m s)) e ∙ ap (take 8) (after 8)
