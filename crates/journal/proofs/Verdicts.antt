-- Each verdict is the right one, from what the tests answered.
use Rattle.std.proofs.Common.{◌≡◌, ℕ, suc, ◌+◌, ◌-◌, ◌<◌, ◌≤◌, true, false, ◌&&◌, eqb, leb, ◌⊎◌, length, drop, Some, None, Option, sym, refl, ap, ◌∙◌, subst, ap₂, inl, inr, ⊎_elim, arith, length-drop}
use Rattle.std.proofs.lemmas.List.{drop_all}
use Rattle.std.proofs.lemmas.Bool.{and_parts, and_from, or_parts, or_cases, both_ways, ltb-false, eqb-true, leb-true}
use Rattle.card.specs.Meaning.{Bytes, Name}
use Rattle.card.specs.Calls.{part}
use Rattle.journal.specs.Format.{Journal, LawfulJournal, LawfulName, Octets, full, super_bytes}
use Rattle.journal.specs.Judged.{Judged, NoJournal, WrongAt, name_span, readable, spent, header_right, length_right, record_right, record_place, count_of, length_fits}
use Rattle.journal.specs.Fronts.{FirstWrong, Reads, super_right}
use Rattle.journal.specs.declared.header.Header.{Header}
use Rattle.journal.specs.declared.verdict.Verdict.TheVariants.{Damaged, Sound}
use Rattle.journal.specs.declared.verdict.Span.{Span}
use Rattle.journal.proofs.Pieces.{length_part, octets_part, octets_drop}
use Rattle.journal.proofs.Taken.{header_is, journal_of, taken_lawful, taken_full, super_taken, length_read}
use Rattle.journal.proofs.Encoded.{header_full, length_full, record_full, count_full, end_full, super_full}

pub unspent_long : (b : Bytes) → spent b ≡ false → 512 ≤ length b
unfolding spent
unspent_long b s = ltb-false (length b) 512 (or_parts _ _ s).0

module _ (b : Bytes) (s : spent b ≡ false) where
  -- a journal's header and length hold
  full_readable : (j : Journal) → LawfulJournal j → b ≡ full j → readable b ≡ true
  full_readable j ok e = ap readable e ∙ and_from _ _ (header_full j ok) (length_full j ok)

  pub unreadable : readable b ≡ false → Judged b (Damaged 0)
  unfolding Judged
  unreadable not = (s, λ j ok e. both_ways _ not (full_readable j ok e), λ is. absurd (both_ways _ not is))

  pub wrong_record : (k : ℕ) → readable b ≡ true → FirstWrong b (count_of b) (Some k) → Judged b (Damaged (suc k))
  unfolding Judged
  wrong_record k is first = (s, none, first_is)
    where
      first_is : WrongAt b (suc k)
      first_is = (is, first.0, first.1, first.2)

      none : NoJournal b
      none j ok e =
          both_ways _ first.2
          (ap (λ (c : Bytes). record_right c k) e ∙ record_full j ok k (omega (arith, first.0, ap count_of e, count_full j ok)))

-- what the length test says: the bytes end with the records, or leave room for a super-journal record
pub length_is : (b : Bytes) → length_right b ≡ true → (length b ≡ record_place (count_of b)) ⊎ ((record_place (count_of b) + 21 ≤ length b) × (length b ≤ record_place (count_of b) + 52))
unfolding length_right
length_is b r = by (or_cases (eqb (length b) end) (leb (end + 21) (length b) && leb (length b) (end + 52)) r)
  where
    end : ℕ
    end = record_place (count_of b)

    by : (eqb (length b) end ≡ true) ⊎ ((leb (end + 21) (length b) && leb (length b) (end + 52)) ≡ true) → (length b ≡ end) ⊎ ((end + 21 ≤ length b) × (length b ≤ end + 52))
    by (inl e) = inl (eqb-true (length b) end e)
    by (inr e) = let p = and_parts (leb (end + 21) (length b)) (leb (length b) (end + 52)) e in inr (leb-true (end + 21) (length b) p.0, leb-true (length b) (end + 52) p.1)

-- the length test by a count that was read
pub length_by : (b : Bytes) (n : ℕ) → n ≡ count_of b → length_fits n (length b) ≡ length_right b
unfolding length_right
length_by b n e = ap (λ (m : ℕ). length_fits m (length b)) e

-- what a journal is found to be by what is past its records, where all before it is right
module _ (b : Bytes) (head : Header) (fit : Octets b) (unspent : false ≡ spent b) (is : (header_right b ≡ true) × Reads b head) (fits : true ≡ length_fits head.count (length b)) (each : FirstWrong b head.count None) (e : ℕ) (at : e ≡ record_place head.count) where
  s : spent b ≡ false
  s = sym unspent

  counts : head.count ≡ count_of b
  counts = is.1.count

  right : (k : ℕ) → k < count_of b → record_right b k ≡ true
  right = subst (λ (n : ℕ). FirstWrong b n None) counts each

  l : length_right b ≡ true
  l = sym (length_by b head.count counts) ∙ sym fits

  inside : record_place (count_of b) ≤ length b
  inside = ⊎_elim (λ e. omega arith) (λ e. omega arith) (length_is b l)

  module _ (past : Bytes) (rest : past ≡ drop e b) where
    tail : past ≡ drop (record_place (count_of b)) b
    tail = rest ∙ ap (λ (n : ℕ). drop n b) (at ∙ ap record_place counts)

    long : length past ≡ length b - record_place (count_of b)
    long = ap length tail ∙ length-drop (record_place (count_of b)) b

    -- what is past the records is no super-journal record
    pub bad_name : 1 ≤ length past → false ≡ super_right past → Judged b (Damaged 0)
    unfolding Judged super_bytes
    bad_name more not = (s, none, λ is. right)
      where
        none : NoJournal b
        none j ok same = by j.super ok.name tail_is
          where
            count : count_of b ≡ length j.records
            count = ap count_of same ∙ count_full j ok

            tail_is : past ≡ super_bytes j.super
            tail_is = tail ∙ ap₂ (λ (n : ℕ) (c : Bytes). drop (record_place n) c) count same ∙ end_full j ok

            by : (o : Option Name) → LawfulName o → past ≡ super_bytes o → ⊥
            by None name is = omega (arith, ap length is)
            by (Some n) name is = both_ways _ (sym not) (ap super_right is ∙ super_full n name.1 name.2)

    sound_with : (o : Option Name) → LawfulName o → past ≡ super_bytes o → Judged b (Sound (record { count = head.count; nonce = head.nonce; size = head.size; name = name_span head.count o }))
    unfolding Judged
    sound_with o ok ends = (
      journal_of b o,
      taken_lawful b fit (header_is b s is.0) inside right o ok,
      taken_full b fit (header_is b s is.0) inside right o (sym tail ∙ ends),
      record { count = counts ∙ sym (length_read b 0 (count_of b)); nonce = is.1.nonce; size = is.1.size; name = refl },
    )

    pub sound_alone : length past < 1 → Judged b (Sound (record { count = head.count; nonce = head.nonce; size = head.size; name = None }))
    unfolding super_bytes
    sound_alone none = sound_with None tt (tail ∙ drop_all (record_place (count_of b)) b (omega (arith, long)))

    pub sound_named :
        1 ≤ length past → true ≡ super_right past →
        Judged b (Sound (record { count = head.count; nonce = head.nonce; size = head.size; name = Some (record { place = e + 4; length = length past - 20 }) }))
    sound_named more whole = subst (λ (o : Option Span). Judged b (Sound (record { count = head.count; nonce = head.nonce; size = head.size; name = o }))) same (sound_with (Some name) lawful taken)
      where
        room : (21 ≤ length past) × (length past ≤ 52)
        room = ⊎_elim (λ e. absurd (omega (arith, long))) (λ e. (omega (arith, long), omega (arith, long))) (length_is b l)

        octets : Octets past
        octets = subst Octets (sym rest) (octets_drop b e fit)

        name : Name
        name = part past 4 (length past - 20)

        name_long : length name ≡ length past - 20
        name_long = length_part past 4 (length past - 20) (omega (arith, room))

        lawful : LawfulName (Some name)
        lawful = (omega (arith, name_long, room), omega (arith, name_long, room), octets_part past 4 (length past - 20) octets)

        taken : past ≡ super_bytes (Some name)
        taken = super_taken past octets room.0 room.1 (sym whole)

        places : record_place head.count + 4 ≡ e + 4
        places = omega (arith, at)

        same : name_span head.count (Some name) ≡ Some (record { place = e + 4; length = length past - 20 })
        same = ap₂ (λ (p n : ℕ). Some (record { place = p; length = n })) places name_long
