-- The small sets of files are found as the examples say, and any files ask for one list of looks.
use Rattle.std.proofs.Common.{◌≡◌, ℕ, zero, suc, ◌<◌, List, [], ◌∷◌, Some, None, refl, sym, ap, ◌∙◌, inl, inr, arith}
use Rattle.std.proofs.lemmas.Option.{none-some}
use Rattle.card.specs.Meaning.{Name}
use Rattle.journal.specs.Format.{Journal, LawfulJournal, Octets, Ascending, full, encode, header}
use Rattle.journal.specs.Judged.{Judged, spent as is_spent}
use Rattle.journal.specs.declared.verdict.Verdict.TheVariants.{Spent}
use Rattle.set_files.specs.Files.{Holds, Present}
use Rattle.survey.specs.declared.report.Found.{Found}
use Rattle.survey.specs.declared.report.Found.TheVariants.{None as FoundNone, Spent as FoundSpent}
use Rattle.survey.specs.Seen.{Seen, none, spent, hot, SeenAs, AllSeen, found_at}
use Rattle.survey.specs.Finds.{AllPresent, HotAt, Good, FirstAbsent}
use Rattle.survey.proofs.Asking.{each_of, asks_nothing, asks_first_absent, asks_joined}
use Rattle.survey.proofs.Some.{asks_some}
use Rattle.survey.proofs.One.{asks_one}
use Rattle.survey.specs.Asks.{AsksLaw}
use Rattle.survey.specs.Examples.{Examples, file, bare, created, first_only, journal, joined, orphaned}

-- the journal is lawful
octets : Octets (file 8)
octets zero = omega arith
octets (suc k) = omega arith

lawful : LawfulJournal journal
unfolding Ascending
lawful =
    record {
      nonce = omega arith;
      some_pages = omega arith;
      size = omega arith;
      first = refl;
      each = (omega arith, omega arith, refl, tt);
      few = omega arith;
      name = (omega arith, omega arith, octets);
    }

-- an empty file is spent, and has the bytes of no journal
empty_is_spent : Judged [] Spent
unfolding Judged is_spent
empty_is_spent = refl

not_empty : (j : Journal) → Some [] ≡ Some (full j) → ⊥
unfolding encode header
not_empty j e = let z : ◌≡◌ {A = ℕ} 0 1 = cc e in absurd (omega (arith, z))

empty_spent : SeenAs created file 2 spent
empty_spent = ([], refl, inl empty_is_spent)

-- the super-journal that the journal names is there, or gone
hot_joined : SeenAs joined file 0 (hot journal)
hot_joined = record { lawful = lawful; held = refl; present = present }
  where
    present : (w : Name) → Some (file 8) ≡ Some w → joined w ≡ None → ⊥
    present w e gone =
        let is : file 8 ≡ w = cc e in
        none-some [] (sym (ap joined is ∙ gone))

orphan_spent : SeenAs orphaned file 0 spent
orphan_spent = (full journal, refl, inr (journal, lawful, refl, (file 8, refl, refl)))

orphan_not_hot : SeenAs orphaned file 0 (hot journal) → ⊥
orphan_not_hot h = h.present (file 8) refl refl

-- three databases with no hot journal
good :
    (files : Holds) (found : List Found) (seen : ℕ → Seen) → AllPresent files file 3 → ((d : ℕ) → d < 3 → (j : Journal) → HotAt files file d j → ⊥) → AllSeen files file 3 found seen → found_at found 3 ≡ FoundNone →
    Good files file 3 found
good files found seen present cool all last =
    record {
      present = present;
      journals =
          record {
            seen = λ d lt. (seen d, (all d lt).0);
            reported = (seen, all);
            rest = λ d le lt. let e : d ≡ 3 = omega arith in ap (found_at found) e ∙ last;
          };
      ours = λ d j w lt h e. absurd (cool d lt j h);
      listed = λ asked. absurd (cool asked.0 asked.2 asked.1 asked.3);
    }

nothing : Good bare file 3 (FoundNone ∷ FoundNone ∷ FoundNone ∷ FoundNone ∷ [])
nothing = good bare _ (λ d. none) present cool (each_of _ (refl, tt) (refl, tt) (refl, tt)) refl
  where
    present : AllPresent bare file 3
    present = each_of _ ([], refl) ([], refl) ([], refl)

    cool : (d : ℕ) → d < 3 → (j : Journal) → HotAt bare file d j → ⊥
    cool = each_of _ (λ j h. none-some _ h.held) (λ j h. none-some _ h.held) (λ j h. none-some _ h.held)

third : Good created file 3 (FoundNone ∷ FoundNone ∷ FoundSpent ∷ FoundNone ∷ [])
third = good created _ seen present cool (each_of _ (refl, tt) (refl, tt) (empty_spent, tt)) refl
  where
    seen : ℕ → Seen
    seen zero = none
    seen (suc zero) = none
    seen (suc (suc d)) = spent

    present : AllPresent created file 3
    present = each_of _ ([], refl) ([], refl) ([], refl)

    cool : (d : ℕ) → d < 3 → (j : Journal) → HotAt created file d j → ⊥
    cool = each_of _ (λ j h. none-some _ h.held) (λ j h. none-some _ h.held) (λ j h. not_empty j h.held)

-- the first of the absent databases
first_absent : FirstAbsent first_only file 3 1
first_absent = record { within = omega arith; absent = refl; before = before }
  where
    before : (i : ℕ) → i < 1 → Present (first_only (file i))
    before zero lt = ([], refl)
    before (suc i) lt = absurd (omega arith)

not_later : FirstAbsent first_only file 3 2 → ⊥
not_later h = let p = h.before 1 (omega arith) in none-some p.0 p.1

not_good : (found : List Found) → Good first_only file 3 found → ⊥
not_good found h = let p = h.present 1 (omega arith) in none-some p.0 p.1

pub examples : Examples
examples =
    record {
      absent = refl;
      empty_spent = empty_spent;
      hot_joined = hot_joined;
      orphan_spent = orphan_spent;
      orphan_not_hot = orphan_not_hot;
      nothing = nothing;
      third = third;
      first_absent = first_absent;
      not_later = not_later;
      not_good = not_good;
      asks_nothing = asks_nothing;
      asks_first_absent = asks_first_absent;
      asks_joined = asks_joined lawful hot_joined;
    }

pub asks_law : AsksLaw
asks_law = record { some = asks_some; one = asks_one }
