-- The bytes tell the journal, and no torn count makes another one of them.
use Rattle.std.proofs.Common.{◌≡◌, ℕ, ◌^◌, ◌<◌, ◌≤◌, List, [], ◌∷◌, ◌++◌, length, take, drop, Some, None, Option, sym, refl, ap, ◌∙◌, subst, append_assoc, arith}
use Rattle.std.proofs.lemmas.List.{take_at, drop_at}
use Rattle.std.specs.List.{sum}
use Rattle.card.specs.Meaning.{Bytes, Name}
use Rattle.card.specs.Numbers.{number_at, number_bytes}
use Rattle.card.proofs.Numbers.{number_of_bytes}
use Rattle.journal.specs.Format.{PageRecord, Journal, LawfulJournal, Ascending, header, record_bytes, records_bytes, super_bytes, encode, full, magic, checksum}
use Rattle.journal.proofs.Encoded.{length_header, length_super, count_full, nonce_full, size_full}

take_same : (n : ℕ) (a b x y : Bytes) → length a ≡ n → length b ≡ n → a ++ x ≡ b ++ y → (a ≡ b) × (x ≡ y)
take_same n a b x y la lb e = (sym (take_at a x n la) ∙ ap (take n) e ∙ take_at b y n lb, sym (drop_at a x n la) ∙ ap (drop n) e ∙ drop_at b y n lb)

number_same : (a b : ℕ) (x y : Bytes) → a < 2 ^ 32 → b < 2 ^ 32 → number_bytes a ++ x ≡ number_bytes b ++ y → a ≡ b
number_same a b x y la lb e = sym (number_of_bytes a la) ∙ ap (λ (s : Bytes). number_at s 0) e ∙ number_of_bytes b lb

record_same :
    (k : ℕ) (r q : PageRecord) (x y : Bytes) → r.page < 2 ^ 32 → q.page < 2 ^ 32 → length r.bytes ≡ 512 → length q.bytes ≡ 512 →
    record_bytes k r ++ x ≡ record_bytes k q ++ y → (r ≡ q) × (x ≡ y)
unfolding record_bytes
record_same k r q x y sr sq lr lq e = (both, tails.1)
  where
    pages : r.page ≡ q.page
    pages = number_same r.page q.page ((r.bytes ++ number_bytes (checksum k r.bytes)) ++ x) ((q.bytes ++ number_bytes (checksum k q.bytes)) ++ y) sr sq e

    rest : (r.bytes ++ number_bytes (checksum k r.bytes)) ++ x ≡ (q.bytes ++ number_bytes (checksum k q.bytes)) ++ y
    rest = ap (drop 4) e

    heads : (r.bytes ≡ q.bytes) × (number_bytes (checksum k r.bytes) ++ x ≡ number_bytes (checksum k q.bytes) ++ y)
    heads =
        take_same 512 r.bytes q.bytes (number_bytes (checksum k r.bytes) ++ x) (number_bytes (checksum k q.bytes) ++ y) lr lq
        (sym (append_assoc r.bytes (number_bytes (checksum k r.bytes)) x) ∙ rest ∙ append_assoc q.bytes (number_bytes (checksum k q.bytes)) y)

    tails : (number_bytes (checksum k r.bytes) ≡ number_bytes (checksum k q.bytes)) × (x ≡ y)
    tails = take_same 4 (number_bytes (checksum k r.bytes)) (number_bytes (checksum k q.bytes)) x y refl refl heads.1

    both : r ≡ q
    both = λ i. record { page = pages i; bytes = heads.0 i }

records_same :
    (k size last last' : ℕ) (rs qs : List PageRecord) (x y : Bytes) → size ≤ 4096 → Ascending size last rs → Ascending size last' qs → length rs ≡ length qs →
    records_bytes k rs ++ x ≡ records_bytes k qs ++ y → (rs ≡ qs) × (x ≡ y)
unfolding records_bytes Ascending
records_same k size last last' [] [] x y z sr sq l e = (refl, e)
records_same k size last last' [] (q ∷ qs) x y z sr sq l e = absurd (omega arith)
records_same k size last last' (r ∷ rs) [] x y z sr sq l e = absurd (omega arith)
records_same k size last last' (r ∷ rs) (q ∷ qs) x y z sr sq l e =
    let first : (r ≡ q) × (records_bytes k rs ++ x ≡ records_bytes k qs ++ y) =
    record_same k r q (records_bytes k rs ++ x) (records_bytes k qs ++ y) (omega (arith, sr.1)) (omega (arith, sq.1)) sr.2 sq.2
    (sym (append_assoc (record_bytes k r) (records_bytes k rs) x) ∙ e ∙ append_assoc (record_bytes k q) (records_bytes k qs) y) in
    let more : (rs ≡ qs) × (x ≡ y) = records_same k size r.page q.page rs qs x y z sr.3 sq.3 (omega arith) first.1 in
    let both : ◌≡◌ {A = List PageRecord} (r ∷ rs) (q ∷ qs) = λ i. first.0 i ∷ more.0 i in
    (both, more.1)

super_same : (o p : Option Name) → super_bytes o ≡ super_bytes p → o ≡ p
unfolding super_bytes
super_same None None e = refl
super_same None (Some n) e = absurd (omega (arith, ap length e))
super_same (Some n) None e = absurd (omega (arith, ap length e))
super_same (Some n) (Some k) e =
    ap (λ (z : Name). Some z)
    (take_same (length n) n k (number_bytes (length n) ++ (number_bytes (sum n) ++ magic)) (number_bytes (length k) ++ (number_bytes (sum k) ++ magic)) refl (sym lengths) (ap (drop 4) e)).0
  where
    lengths : length n ≡ length k
    lengths = omega (arith, length_super n, length_super k, ap length e)

-- two lawful journals with the same bytes are the same journal
pub full_same : (i j : Journal) → LawfulJournal i → LawfulJournal j → full i ≡ full j → i ≡ j
unfolding encode
full_same i j oi oj e = λ z. record { nonce = nonces z; size = sizes z; records = parts.0 z; super = supers z }
  where
    body : Journal → Bytes
    body k = records_bytes k.nonce k.records ++ super_bytes k.super

    counts : length i.records ≡ length j.records
    counts = sym (count_full i oi) ∙ ap (λ (b : Bytes). number_at b 8) e ∙ count_full j oj

    nonces : i.nonce ≡ j.nonce
    nonces = sym (nonce_full i oi) ∙ ap (λ (b : Bytes). number_at b 12) e ∙ nonce_full j oj

    sizes : i.size ≡ j.size
    sizes = sym (size_full i oi) ∙ ap (λ (b : Bytes). number_at b 16) e ∙ size_full j oj

    bodies : body i ≡ body j
    bodies =
        (take_same 512 (header (length i.records) i.nonce i.size) (header (length j.records) j.nonce j.size) (body i) (body j)
        (length_header (length i.records) i.nonce i.size) (length_header (length j.records) j.nonce j.size) e).1

    parts : (i.records ≡ j.records) × (super_bytes i.super ≡ super_bytes j.super)
    parts =
        records_same j.nonce j.size 0 0 i.records j.records (super_bytes i.super) (super_bytes j.super) oj.size
        (subst (λ (n : ℕ). Ascending n 0 i.records) sizes oi.each) oj.each counts
        (subst (λ (n : ℕ). records_bytes n i.records ++ super_bytes i.super ≡ body j) nonces bodies)

    supers : i.super ≡ j.super
    supers = super_same i.super j.super parts.1
