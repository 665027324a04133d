-- A file longer than any journal: it is spent by its header, or damaged.
use Rattle.std.proofs.Common.{◌≡◌, ◌<◌, true, false, not, ◌||◌, eqb, ltb, length, take, sym, ◌∙◌, ⊎_elim, arith, length-take}
use Rattle.std.specs.Str.{bytes_eq}
use Rattle.std.proofs.lemmas.List.{take-take}
use Rattle.std.proofs.lemmas.Bool.{and_parts, cases_Bool, le-ltb}
use Rattle.card.specs.Meaning.{Bytes}
use Rattle.journal.specs.Format.{magic}
use Rattle.journal.specs.Judged.{Judged, spent, readable, header_right, length_right, count_of}
use Rattle.journal.specs.declared.verdict.Verdict.TheVariants.{Damaged}
use Rattle.journal.proofs.Numbers.{number_take}
use Rattle.journal.proofs.Taken.{header_is}
use Rattle.journal.proofs.Verdicts.{length_is, unreadable}

module _ (b : Bytes) (long : 17724 < length b) where
  pub spent_front : spent (take 17724 b) ≡ spent b
  unfolding spent
  spent_front = λ i. lengths i || (not (bytes_eq magic (fronts i)) || eqb (counts i) 0)
    where
      lengths : ltb (length (take 17724 b)) 512 ≡ ltb (length b) 512
      lengths = le-ltb (length (take 17724 b)) 512 (omega (arith, length-take 17724 b)) ∙ sym (le-ltb (length b) 512 (omega arith))

      fronts : take 8 (take 17724 b) ≡ take 8 b
      fronts = take-take 8 17724 b (omega arith)

      counts : count_of (take 17724 b) ≡ count_of b
      counts = number_take b 17724 8 (omega arith)

  pub longer : spent b ≡ false → Judged b (Damaged 0)
  longer s = unreadable b s (⊎_elim (λ t. absurd (never t)) (λ f. f) (cases_Bool (readable b)))
    where
      never : readable b ≡ true → ⊥
      never r =
          let both = and_parts (header_right b) (length_right b) r in
          let few = (header_is b s both.0).few in
          ⊎_elim (λ e. omega (arith, few)) (λ e. omega (arith, few, e.1)) (length_is b both.1)
