-- Each row of the table holds.
use Rattle.std.proofs.Common.{◌≡◌, ℕ, ◌+◌, ◌<◌, false, not, ◌&&◌, eqb, ltb, leb, [], ◌∷◌, length, get_or, Some, None, refl, ◌∙◌, arith}
use Rattle.std.proofs.lemmas.Bool.{cond-true, cond-false, ne_eqb, lt-ltb, le-leb, and_from, and_left, and_right}
use Rattle.card.specs.Meaning.{Bytes}
use Rattle.journal.specs.Format.{LawfulJournal, Ascending, encode, header, record_bytes, records_bytes, super_bytes}
use Rattle.journal.specs.Judged.{spent, readable, header_right, length_right}
use Rattle.super_journal.specs.Super.{super_journal_bytes}
use Rattle.journal.specs.Laws.{Quiet}
use Rattle.journal.specs.declared.verdict.Verdict.TheVariants.{Damaged}
use Rattle.journal.proofs.Laws.{journal_laws}
use Rattle.journal.proofs.Verdicts.{unreadable as unreadable_damaged}
use Rattle.refusal.specs.declared.refusals.Refusal.TheVariants.{Page}
use Rattle.page_map.specs.Sets.{total as changed_total}
use Rattle.pager.specs.declared.memory.Memory.{Memory}
use Rattle.pager.specs.Machine.{written}
use Rattle.pager.specs.Sound.{map_of}
use Rattle.pager.specs.View.{view, page_allowed, to_save, write_refusal}
use Rattle.pager.proofs.Counted.{changed_all}
use Rattle.pager.proofs.Sizes.{size_written}
use Rattle.examples.specs.Table.{Table, zero_page}

lawful : LawfulJournal zero_page
unfolding Ascending
lawful = record { nonce = omega arith; some_pages = omega arith; size = omega arith; first = refl; each = (omega arith, omega arith, refl, tt); few = omega arith; name = tt }

quiet : Quiet (encode 0 zero_page)
unfolding encode header
quiet = record { at_8 = refl; at_9 = refl; at_10 = refl; at_11 = refl }

-- with count 2 the header is right and the length is not
not_spent : spent (encode 2 zero_page) ≡ false
unfolding spent encode header record_bytes records_bytes super_bytes
not_spent = refl

unreadable : readable (encode 2 zero_page) ≡ false
unfolding header_right length_right encode header record_bytes records_bytes super_bytes
unreadable = refl

long : length (encode 1 zero_page) ≡ 1032
unfolding encode header record_bytes records_bytes super_bytes
long = refl

two : length (super_journal_bytes ((97 ∷ 45 ∷ 106 ∷ 111 ∷ 117 ∷ 114 ∷ 110 ∷ 97 ∷ 108 ∷ []) ∷ (98 ∷ 45 ∷ 106 ∷ 111 ∷ 117 ∷ 114 ∷ 110 ∷ 97 ∷ 108 ∷ []) ∷ [])) ≡ 20
unfolding super_journal_bytes
two = refl

last : (m : Memory) (d : ℕ) → d < m.count → get_or m.sizes d 0 ≡ 4095 → length m.changed.rows.items < 32 → length m.saved.rows.items < 32 → write_refusal m d 4096 512 ≡ None
last m d there size few saved =
    let all = changed_all m in
    cond-true (ltb d m.count) _ _ (lt-ltb d m.count there)
    ∙ cond-true (page_allowed m d 4096) _ _ (and_from _ _ refl (and_from _ _ (le-leb 4096 (get_or m.sizes d 0 + 1) (omega arith)) refl))
    ∙ cond-false (eqb (changed_total (map_of m.maps) 4) 32 && not (map_of m.maps d 4096)) _ _ (and_left _ _ (ne_eqb (changed_total (map_of m.maps) 4) 32 (λ e. omega arith)))
    ∙ cond-false (eqb (length m.saved.rows.items) 32 && to_save m d 4096) _ _ (and_left _ _ (ne_eqb (length m.saved.rows.items) 32 (λ e. omega arith)))

grown :
    (m n : Memory) (d : ℕ) (bytes : Bytes) → get_or m.sizes d 0 ≡ 4095 → length bytes ≡ 512 → ((files : ℕ → Bytes) → view files n ≡ written d 4096 bytes (view files m)) →
    get_or n.sizes d 0 ≡ 4096
grown m n d bytes size long done = omega (arith, size_written m n d 4096 bytes done (omega arith) (omega arith) long)

past : (m : Memory) (d : ℕ) → d < m.count → get_or m.sizes d 0 ≡ 4096 → write_refusal m d 4097 512 ≡ Some Page
past m d there size =
    cond-true (ltb d m.count) _ _ (lt-ltb d m.count there)
    ∙ cond-false (page_allowed m d 4097) _ _ (and_right (leb 1 4097) (leb 4097 (get_or m.sizes d 0 + 1) && leb 4097 4096) (and_right (leb 4097 (get_or m.sizes d 0 + 1)) (leb 4097 4096) refl))

pub table : Table
unfolding super_bytes
table =
    record {
      sum = refl;
      wrapped = refl;
      long = long;
      zero_sum = refl;
      lawful = lawful;
      spent = journal_laws.quiet (encode 0 zero_page) quiet;
      damaged = λ v p. journal_laws.one (encode 2 zero_page) v (Damaged 0) p (unreadable_damaged (encode 2 zero_page) not_spent unreadable);
      name = refl;
      two = two;
      last = last;
      grown = grown;
      past = past;
      ninth = refl;
    }
