-- The small sets of files ask for the looks that the examples say.
use Rattle.std.proofs.Common.{◌≡◌, ℕ, zero, suc, ◌<◌, List, [], ◌∷◌, ◌++◌, length, Some, None, refl, sym, ap, ◌∙◌, inl, inr, arith, length-append}
use Rattle.std.proofs.lemmas.Option.{none-some}
use Rattle.card.specs.Meaning.{Name}
use Rattle.journal.specs.Format.{Journal, LawfulJournal, full}
use Rattle.super_journal.proofs.Names.{super_ends}
use Rattle.steps.specs.Tasks.{Task, up_to}
use Rattle.survey.specs.Asks.{InOrder, length_look, super_looks, judge_looks, Absent, Damaged, AsksDatabase, AsksJournal, AsksDatabases, AsksJournals, AsksSuper, AfterDatabases, OursNamed, Asks}
use Rattle.survey.specs.Examples.{file, bare, first_only, journal, joined, judged, joined_looks}
use Rattle.survey.specs.Finds.{HotAt, NamesOurs, NoNames}
use Rattle.survey.specs.Seen.{hot, SeenAs}
use Rattle.survey.proofs.Judging.{seen_undamaged}
use Rattle.survey.proofs.Surveyed.{seen_hot}

-- all the parts
in_order_all : (Part : ℕ → List Task → Type 0) (ends : ℕ → Type 0) (n : ℕ) (parts : ℕ → List Task) → ((i : ℕ) → i < n → Part i (parts i)) → ((i : ℕ) → i < n → ends i → ⊥) → InOrder Part ends n (up_to parts n)
in_order_all Part ends n parts each free = record { parts = parts; count = n; until = inl (refl, free); each = each; is = refl }

-- what is true of one database
each_of_one : (P : ℕ → Type 0) → P 0 → (d : ℕ) → d < 1 → P d
each_of_one P a zero lt = a
each_of_one P a (suc d) lt = absurd (omega arith)

-- what is true of each of three databases
pub each_of : (P : ℕ → Type 0) → P 0 → P 1 → P 2 → (d : ℕ) → d < 3 → P d
each_of P a b c zero lt = a
each_of P a b c (suc zero) lt = b
each_of P a b c (suc (suc zero)) lt = c
each_of P a b c (suc (suc (suc d))) lt = absurd (omega arith)

-- three databases and nothing else
bare_databases : AsksDatabases bare file 3 (length_look 0 (file 0) ++ (length_look 1 (file 1) ++ length_look 2 (file 2)))
unfolding up_to
bare_databases = in_order_all (AsksDatabase bare file) (Absent bare file) 3 (λ d. length_look d (file d)) (λ d lt. refl) there
  where
    there : (d : ℕ) → d < 3 → Absent bare file d → ⊥
    there = each_of _ (λ e. none-some _ (sym e)) (λ e. none-some _ (sym e)) (λ e. none-some _ (sym e))

bare_journals : AsksJournals bare file 3 (judged 4 None ++ (judged 5 None ++ judged 6 None))
unfolding up_to
bare_journals = in_order_all (AsksJournal bare file 3) (Damaged bare file) 3 (judge_looks bare file) alone sound
  where
    alone : (d : ℕ) → d < 3 → AsksJournal bare file 3 d (judge_looks bare file d)
    alone =
        each_of (λ (d : ℕ). AsksJournal bare file 3 d (judge_looks bare file d)) (inl (λ w p. none-some _ p.2, refl)) (inl (λ w p. none-some _ p.2, refl))
        (inl (λ w p. none-some _ p.2, refl))

    sound : (d : ℕ) → d < 3 → Damaged bare file d → ⊥
    sound = each_of _ (λ h. none-some _ h.1.1) (λ h. none-some _ h.1.1) (λ h. none-some _ h.1.1)

pub asks_nothing : Asks bare file 3 (length_look 0 (file 0) ++ (length_look 1 (file 1) ++ (length_look 2 (file 2) ++ (judged 4 None ++ (judged 5 None ++ judged 6 None)))))
asks_nothing =
    record {
      first = length_look 0 (file 0) ++ (length_look 1 (file 1) ++ length_look 2 (file 2));
      rest = judged 4 None ++ (judged 5 None ++ judged 6 None);
      looks = bare_databases;
      after = inr (λ a. each_of (λ (d : ℕ). Absent bare file d → ⊥) (λ e. none-some _ (sym e)) (λ e. none-some _ (sym e)) (λ e. none-some _ (sym e)) a.0 a.1 a.2, journals);
      is = refl;
    }
  where
    cool : (d : ℕ) → d < 3 → (j : Journal) → HotAt bare file d j → ⊥
    cool = each_of _ (λ j h. none-some _ h.held) (λ j h. none-some _ h.held) (λ j h. none-some _ h.held)

    journals : AfterDatabases bare file 3 (judged 4 None ++ (judged 5 None ++ judged 6 None))
    journals =
        record {
          first = judged 4 None ++ (judged 5 None ++ judged 6 None);
          rest = [];
          looks = bare_journals;
          after = inr (
            λ a. each_of (λ (d : ℕ). Damaged bare file d → ⊥) (λ h. none-some _ h.1.1) (λ h. none-some _ h.1.1) (λ h. none-some _ h.1.1) a.0 a.1 a.2,
            inl (λ o. cool o.1.0 o.1.2 o.1.1 o.1.3, refl),
          );
          is = refl;
        }

first_databases : AsksDatabases first_only file 3 (length_look 0 (file 0) ++ length_look 1 (file 1))
unfolding up_to
first_databases =
    record {
      parts = λ d. length_look d (file d);
      count = 2;
      until = inr (1, refl, omega arith, refl, each_of_one _ (λ e. none-some _ (sym e)));
      each = λ d lt. refl;
      is = refl;
    }

pub asks_first_absent : Asks first_only file 3 (length_look 0 (file 0) ++ length_look 1 (file 1))
asks_first_absent =
    record {
      first = length_look 0 (file 0) ++ length_look 1 (file 1);
      rest = [];
      looks = first_databases;
      after = inl ((1, omega arith, refl), refl);
      is = refl;
    }

-- a database with a sound journal and the super-journal
joined_database : AsksDatabases joined file 1 (length_look 0 (file 0))
unfolding up_to
joined_database = in_order_all (AsksDatabase joined file) (Absent joined file) 1 (λ d. length_look d (file d)) (λ d lt. refl) (each_of_one _ (λ e. none-some _ (sym e)))

-- no list of names is empty
none_listed : NoNames []
none_listed ns ok e = let f = super_ends ns ok.some in omega (arith, ap length (e ∙ f.1), length-append f.0 (0 ∷ []))

module _ (lawful : LawfulJournal journal) (is_hot : SeenAs joined file 0 (hot journal)) where
  undamaged : (d : ℕ) → d < 1 → Damaged joined file d → ⊥
  undamaged = each_of_one _ (seen_undamaged joined file 0 (hot journal) is_hot)

  joined_journal : AsksJournals joined file 1 (judged 4 (Some (full journal)) ++ length_look 8 (file 8))
  unfolding up_to
  joined_journal =
      in_order_all (AsksJournal joined file 1) (Damaged joined file) 1 (λ d. judge_looks joined file d ++ length_look 8 (file 8))
      (each_of_one (λ (d : ℕ). AsksJournal joined file 1 d (judge_looks joined file d ++ length_look 8 (file 8)))
      (inr (file 8, length_look 8 (file 8), (journal, lawful, refl, refl), (8, inl (refl, refl), refl), refl)))
      undamaged

  named : OursNamed joined file 1
  named = (ours, (0, journal, omega arith, is_hot, refl))
    where
      ours_at : (d : ℕ) → d < 1 → (j : Journal) (w : Name) → HotAt joined file d j → j.super ≡ Some w → w ≡ file 8
      ours_at =
          each_of_one _
          (λ j w h e.
          let same = seen_hot joined file 0 (hot journal) j is_hot h in
          let is : journal ≡ j = cc in
          let name : Some w ≡ Some (file 8) = sym e ∙ sym (ap (λ (x : Journal). x.super) is) in
          cc)

      ours : NamesOurs joined file 1
      ours d j w lt h e = ours_at d lt j w h e

  joined_super : AsksSuper joined file 1 (super_looks (file 8) [])
  joined_super = ([], [], refl, inl (none_listed, refl), refl)

  pub asks_joined : Asks joined file 1 joined_looks
  asks_joined =
      record {
        first = length_look 0 (file 0);
        rest = judged 4 (Some (full journal)) ++ (length_look 8 (file 8) ++ super_looks (file 8) []);
        looks = joined_database;
        after = inr (λ a. each_of_one (λ (d : ℕ). Absent joined file d → ⊥) (λ e. none-some _ (sym e)) a.0 a.1 a.2, journals);
        is = refl;
      }
    where
      journals : AfterDatabases joined file 1 (judged 4 (Some (full journal)) ++ (length_look 8 (file 8) ++ super_looks (file 8) []))
      journals =
          record {
            first = judged 4 (Some (full journal)) ++ length_look 8 (file 8);
            rest = super_looks (file 8) [];
            looks = joined_journal;
            after = inr (λ a. undamaged a.0 a.1 a.2, inr (named, joined_super));
            is = refl;
          }
