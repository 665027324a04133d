-- A header, records and a name put one after the other are a lawful journal, put whole.
use Rattle.std.proofs.Common.{◌≡◌, ℕ, ◌+◌, ◌*◌, ◌^◌, ◌<◌, ◌≤◌, true, ◌&&◌, eqb, leb, List, [], ◌∷◌, ◌++◌, length, get_or, drop, Some, None, Ok, Option, sym, ap, ◌∙◌, ap₂, append_assoc, append-nil, arith, length-append, Bool, false, refl}
use Rattle.std.proofs.lemmas.Bool.{and_parts, leb-true, eqb-true}
use Rattle.std.proofs.lemmas.Bool.Decides.{nat_tests}
use Rattle.std.specs.Bool.{then_some}
use Rattle.card.specs.Meaning.{Bytes, Name}
use Rattle.card.specs.Calls.{overwrite}
use Rattle.journal.specs.Format.{Journal, LawfulJournal, LawfulName, Octets, Starts, encode, header, records_bytes, super_bytes}
use Rattle.journal.specs.Judged.{record_place}
use Rattle.journal_writer.specs.Written.{Filled, made_lawful, pages_lawful, given_lawful, size_lawful, ascend, originals, journal_in}
use Rattle.journal.proofs.Pieces.{overwrite_append}
use Rattle.journal_writer.proofs.Ascent.{originals_ascend}
use Rattle.journal_writer.proofs.Sealed.{length_originals, count_originals, originals_same, overwrite_past}
use Rattle.journal.proofs.Encoded.{length_header, length_encode, length_super}

-- what the tests of a journal's numbers say
pub record Made (size : ℕ) (pages : List ℕ) (name : Option Name) : Type 0 where
  pub some_pages : 1 ≤ size
  pub within : size ≤ 4096
  pub some : 1 ≤ length pages
  pub few : length pages ≤ 33
  pub first : get_or pages 0 0 ≡ 1
  pub up : ascend size 0 pages ≡ true
  pub named : given_lawful name ≡ true

pub made_is : (size : ℕ) (pages : List ℕ) (name : Option Name) → made_lawful size pages name ≡ true → Made size pages name
made_is size pages name m =
    let m₀ = and_parts (size_lawful size) (pages_lawful size pages && given_lawful name) m in
    let z = and_parts (leb 1 size) (leb size 4096) m₀.0 in
    let m₁ = and_parts (pages_lawful size pages) (given_lawful name) m₀.1 in
    let p₀ = and_parts (leb 1 (length pages)) (leb (length pages) 33 && (eqb (get_or pages 0 0) 1 && ascend size 0 pages)) m₁.0 in
    let p₁ = and_parts (leb (length pages) 33) (eqb (get_or pages 0 0) 1 && ascend size 0 pages) p₀.1 in
    let p₂ = and_parts (eqb (get_or pages 0 0) 1) (ascend size 0 pages) p₁.1 in
    record {
      some_pages = leb-true 1 size z.0;
      within = leb-true size 4096 z.1;
      some = leb-true 1 (length pages) p₀.0;
      few = leb-true (length pages) 33 p₁.0;
      first = eqb-true (get_or pages 0 0) 1 p₂.0;
      up = p₂.1;
      named = m₁.1;
    }

starts : (b : Bytes) (k : ℕ) (pages : List ℕ) → 1 ≤ length pages → get_or pages 0 0 ≡ 1 → Starts (originals b k pages)
unfolding originals
starts b k [] some first = absurd (omega arith)
starts b k (p ∷ ps) some first = first

pub name_is : (n : Name) → given_lawful (Some n) ≡ true → (1 ≤ length n) × (length n ≤ 32)
name_is n ok = (grind (arith, nat_tests, ok), grind (arith, nat_tests, ok))

-- how long the record of a lawful name is
pub super_short : (o : Option Name) → given_lawful o ≡ true → length (super_bytes o) ≤ 52
unfolding super_bytes
super_short None ok = omega arith
super_short (Some n) ok = omega (arith, length_super n, name_is n ok)

module _ (s : Bytes) (nonce size : ℕ) (pages : List ℕ) (name : Option Name) (is : Made size pages name) (small : nonce < 2 ^ 32) (room : record_place (length pages) + length (super_bytes name) ≤ length s) where
  abbrev j : Journal
  j = journal_in s nonce size pages name

  abbrev head : Bytes
  head = header 0 nonce size

  abbrev body : Bytes
  body = records_bytes nonce (originals s 0 pages)

  body_long : length body ≡ 520 * length pages
  body_long = length_originals nonce s 0 pages (omega arith)

  lawful : LawfulName name → LawfulJournal j
  lawful ok =
      record {
        nonce = small;
        some_pages = is.some_pages;
        size = is.within;
        first = starts s 0 pages is.some is.first;
        each = originals_ascend size 0 s 0 pages is.up (omega arith);
        few = omega (arith, count_originals s 0 pages, is.few);
        name = ok;
      }

  -- the header and the records
  module _ (s₁ s₂ : Bytes) (e₁ : s₁ ≡ overwrite s 0 head) (e₂ : s₂ ≡ overwrite s₁ 512 (records_bytes nonce (originals s₁ 0 pages))) where
    pub fronted : s₂ ≡ overwrite s 0 (head ++ body)
    fronted =
        e₂ ∙ ap₂ (λ (t b : Bytes). overwrite t 512 b) e₁ (ap (records_bytes nonce) (originals_same s₁ s 0 pages below))
        ∙ overwrite_append s 0 head body 512 (omega (arith, length_header 0 nonce size)) (omega arith)
      where
        below : drop 512 s₁ ≡ drop 512 s
        below = ap (drop 512) e₁ ∙ overwrite_past s 0 head 512 (omega arith) (omega (arith, length_header 0 nonce size))

  pub filled : (n : ℕ) (new : Bytes) → LawfulName name → n ≡ record_place (length pages) + length (super_bytes name) → new ≡ overwrite s 0 (head ++ (body ++ super_bytes name)) → Filled s nonce size pages name (Ok n) new
  unfolding encode
  filled n new ok total e =
      (lawful ok, total ∙ sym (length_encode 0 j (lawful ok) ∙ ap (λ (m : ℕ). record_place m + length (super_bytes name)) (count_originals s 0 pages)), omega arith, e)

pub filled_alone :
    (s : Bytes) (nonce size : ℕ) (pages : List ℕ) → Made size pages None → nonce < 2 ^ 32 → (n : ℕ) → n ≡ record_place (length pages) + length (super_bytes None) → n ≤ length s →
    (s₁ s₂ : Bytes) → s₁ ≡ overwrite s 0 (header 0 nonce size) → s₂ ≡ overwrite s₁ 512 (records_bytes nonce (originals s₁ 0 pages)) → Filled s nonce size pages None (Ok n) s₂
unfolding super_bytes
filled_alone s nonce size pages is small n total room s₁ s₂ e₁ e₂ =
    filled s nonce size pages None is small (omega arith) n s₂ tt total
    (fronted s nonce size pages None is small (omega arith) s₁ s₂ e₁ e₂
    ∙ ap (λ (t : Bytes). overwrite s 0 (header 0 nonce size ++ t)) (sym (append-nil (records_bytes nonce (originals s 0 pages)))))

pub filled_named :
    (s : Bytes) (nonce size : ℕ) (pages : List ℕ) (name : Name) → Made size pages (Some name) → nonce < 2 ^ 32 → Octets name → (n : ℕ) → n ≡ record_place (length pages) + length (super_bytes (Some name)) → n ≤ length s →
    (s₁ s₂ s₃ : Bytes) → s₁ ≡ overwrite s 0 (header 0 nonce size) → s₂ ≡ overwrite s₁ 512 (records_bytes nonce (originals s₁ 0 pages)) →
    s₃ ≡ overwrite s₂ (record_place (length pages)) (super_bytes (Some name)) → Filled s nonce size pages (Some name) (Ok n) s₃
filled_named s nonce size pages name is small fit n total room s₁ s₂ s₃ e₁ e₂ e₃ =
    let ok = name_is name is.named in
    filled s nonce size pages (Some name) is small (omega arith) n s₃ (ok.0, ok.1, fit) total
    (e₃ ∙ ap (λ (t : Bytes). overwrite t (record_place (length pages)) (super_bytes (Some name))) (fronted s nonce size pages (Some name) is small (omega arith) s₁ s₂ e₁ e₂)
    ∙ overwrite_append s 0 (header 0 nonce size ++ body) (super_bytes (Some name)) (record_place (length pages)) long (omega arith)
    ∙ ap (overwrite s 0) (append_assoc (header 0 nonce size) body (super_bytes (Some name))))
  where
    body : Bytes
    body = records_bytes nonce (originals s 0 pages)

    long : 0 + length (header 0 nonce size ++ body) ≡ record_place (length pages)
    long = simp length-append (omega (arith, length_header 0 nonce size, length_originals nonce s 0 pages (omega arith)))

some_then : (b : Bool) (v n : ℕ) → then_some b v ≡ Some n → (b ≡ true) × (v ≡ n)
some_then true v n e = (refl, cc)
some_then false v n e = let z : ◌≡◌ {A = ℕ} 0 1 = cc in absurd (omega arith)

-- what the length of a journal says, which is told of lawful numbers alone
module _ (size : ℕ) (pages : List ℕ) (name : Option Name) (end : Option ℕ) (is : end ≡ then_some (made_lawful size pages name) (record_place (length pages) + length (super_bytes name))) where
  pub made_long : (n : ℕ) → end ≡ Some n → Made size pages name × (n ≡ record_place (length pages) + length (super_bytes name))
  made_long n e = let h = some_then (made_lawful size pages name) _ n (sym is ∙ e) in (made_is size pages name h.0, sym h.1)
