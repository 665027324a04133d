-- No files ask for no list of looks.
use Rattle.std.proofs.Common.{◌≡◌, ℕ, zero, suc, ◌+◌, ◌<◌, ◌⊎◌, List, [], ◌++◌, length, refl, inl, inr, arith, get_or, sym, subst}
use native.Mathlib.Decide.{ℕ_discrete}
use Rattle.card.specs.Meaning.{Bytes, Name}
use Rattle.super_journal.specs.Super.{LawfulNames, super_journal_bytes}
use Rattle.names.specs.Files.{FileNamed}
use Rattle.steps.specs.Tasks.{Task, up_to}
use Rattle.set_files.specs.Files.{Holds}
use Rattle.survey.specs.Asks.{Until, InOrder, Then, length_look, super_looks, judge_looks, Absent, Damaged, SoundNaming, AsksDatabase, AsksNamed, AsksJournal, StrayName, AsksListed, AsksList, AsksDatabases, AsksJournals, Any, OursNamed, AsksOurs, AfterDatabases, Asks}
use Rattle.survey.specs.Finds.{JournalName}
use Rattle.survey.proofs.Surveyed.{asked_present}

-- what cannot be denied
abbrev Sure : Type 0 → Type 0
Sure A = (A → ⊥) → ⊥

abbrev SomeList : (List Task → Type 0) → Type 0
SomeList P = Sure ((list : List Task) × P list)

-- it is so or not
either : (A : Type 0) → Sure (A ⊎ (A → ⊥))
either A k = k (inr (λ a. k (inl a)))

-- none of one more
none_more : (ends : ℕ → Type 0) (n : ℕ) → ((i : ℕ) → i < n → ends i → ⊥) → (ends n → ⊥) → (i : ℕ) → i < suc n → ends i → ⊥
none_more ends n old here i lt x = by (ℕ_discrete i n)
  where
    by : Dec (i ≡ n) → ⊥
    by (yes e) = here (subst ends e x)
    by (no ne) = old i (omega arith) x

-- the first end, or none
until_some : (ends : ℕ → Type 0) (n : ℕ) → Sure ((count : ℕ) × Until ends n count)
until_some ends zero k = k (0, inl (refl, λ i lt. absurd (omega arith)))
until_some ends (suc n) k = until_some ends n (λ u. more u.0 u.1)
  where
    last : ((i : ℕ) → i < n → ends i → ⊥) → ends n ⊎ (ends n → ⊥) → ⊥
    last before (inl e) = k (n + 1, inr (n, refl, omega arith, e, before))
    last before (inr ne) = k (suc n, inl (refl, none_more ends n before ne))

    more : (count : ℕ) → Until ends n count → ⊥
    more count (inl h) = either (ends n) (last h.1)
    more count (inr h) = k (count, inr (h.0, h.1, omega (arith, h.2), h.3, h.4))

-- a list for each of so many
each_some : (Part : ℕ → List Task → Type 0) (n : ℕ) → ((i : ℕ) → SomeList (Part i)) → Sure ((parts : ℕ → List Task) × ((i : ℕ) → i < n → Part i (parts i)))
each_some Part zero some k = k (λ i. [], λ i lt. absurd (omega arith))
each_some Part (suc n) some k = each_some Part n some (λ p. some n (λ x. k (λ i. pick p.0 x.0 i (ℕ_discrete i n), λ i lt. each p.0 p.1 x.0 x.1 i lt (ℕ_discrete i n))))
  where
    pick : (ℕ → List Task) → List Task → (i : ℕ) → Dec (i ≡ n) → List Task
    pick parts x i (yes e) = x
    pick parts x i (no ne) = parts i

    each : (parts : ℕ → List Task) → ((i : ℕ) → i < n → Part i (parts i)) → (x : List Task) → Part n x → (i : ℕ) → i < suc n → (d : Dec (i ≡ n)) → Part i (pick parts x i d)
    each parts old x here i lt (yes e) = subst (λ (j : ℕ). Part j x) (sym e) here
    each parts old x here i lt (no ne) = old i (omega arith)

in_order_some : (Part : ℕ → List Task → Type 0) (ends : ℕ → Type 0) (n : ℕ) → ((i : ℕ) → SomeList (Part i)) → SomeList (InOrder Part ends n)
in_order_some Part ends n some k =
    until_some ends n
    (λ u. each_some Part u.0 some (λ p. k (up_to p.0 u.0, record { parts = p.0; count = u.0; until = u.1; each = p.1; is = refl })))

then_some : (First : List Task → Type 0) (Ends : Type 0) (Rest : List Task → Type 0) → SomeList First → SomeList Rest → SomeList (Then First Ends Rest)
then_some First Ends Rest first rest k = first (λ f. either Ends (λ e. by f.0 f.1 e))
  where
    by : (list : List Task) → First list → Ends ⊎ (Ends → ⊥) → ⊥
    by list looks (inl e) = k (list ++ [], record { first = list; rest = []; looks = looks; after = inl (e, refl); is = refl })
    by list looks (inr ne) = rest (λ r. k (list ++ r.0, record { first = list; rest = r.0; looks = looks; after = inr (ne, r.1); is = refl }))

module _ (files : Holds) (file : ℕ → Name) (n : ℕ) where
  named_some : (w : Name) → SomeList (AsksNamed file n w)
  named_some w k = either ((i : ℕ) × FileNamed file n w i) by
    where
      by : ((i : ℕ) × FileNamed file n w i) ⊎ (((i : ℕ) × FileNamed file n w i) → ⊥) → ⊥
      by (inl h) = k (length_look h.0 w, (h.0, inl h.1, refl))
      by (inr none) = k (length_look 9 w, (9, inr (refl, λ i is e. none (i, (is, e))), refl))

  journal_some : (d : ℕ) → SomeList (AsksJournal files file n d)
  journal_some d k = either ((w : Name) × SoundNaming files file d w) by
    where
      by : ((w : Name) × SoundNaming files file d w) ⊎ (((w : Name) × SoundNaming files file d w) → ⊥) → ⊥
      by (inl h) = named_some h.0 (λ r. k (judge_looks files file d ++ r.0, inr (h.0, r.0, h.1, r.1, refl)))
      by (inr none) = k (judge_looks files file d, inl (λ w s. none (w, s), refl))

  listed_some : (w : Name) → SomeList (AsksListed files file n w)
  listed_some w k = either (JournalName file n w) by
    where
      by : JournalName file n w ⊎ (JournalName file n w → ⊥) → ⊥
      by (inl is) = k ([], inl (is, refl))
      by (inr other) = named_some w (λ r. k (r.0, inr (other, r.1)))

  list_some : (b : Bytes) → SomeList (AsksList files file n b)
  list_some b k = either ((ns : List Name) × LawfulNames ns × (b ≡ super_journal_bytes ns)) by
    where
      by : ((ns : List Name) × LawfulNames ns × (b ≡ super_journal_bytes ns)) ⊎ (((ns : List Name) × LawfulNames ns × (b ≡ super_journal_bytes ns)) → ⊥) → ⊥
      by (inl h) =
          in_order_some (λ i. AsksListed files file n (get_or h.0 i [])) (λ i. StrayName files file n (get_or h.0 i [])) (length h.0) (λ i. listed_some (get_or h.0 i []))
          (λ r. k (r.0, inr (h.0, h.1, h.2, r.1)))
      by (inr none) = k ([], inl (λ ns ok e. none (ns, ok, e), refl))

  ours_some : SomeList (AsksOurs files file n)
  ours_some k = either (OursNamed files file n) by
    where
      by : OursNamed files file n ⊎ (OursNamed files file n → ⊥) → ⊥
      by (inl o) =
          let there = asked_present files file n o.1 in
          list_some there.0 (λ r. k (super_looks (file 8) there.0 ++ r.0, inr (o, (there.0, r.0, there.1, r.1, refl))))
      by (inr none) = k ([], inl (none, refl))

  pub asks_some : ((list : List Task) → Asks files file n list → ⊥) → ⊥
  asks_some none =
      then_some (AsksDatabases files file n) (Any files file n (Absent files file)) (AfterDatabases files file n)
      (in_order_some (AsksDatabase files file) (Absent files file) n (λ d k. k (length_look d (file d), refl)))
      (then_some (AsksJournals files file n) (Any files file n (Damaged files file)) (AsksOurs files file n) (in_order_some (AsksJournal files file n) (Damaged files file) n journal_some) ours_some)
      (λ r. none r.0 r.1)
