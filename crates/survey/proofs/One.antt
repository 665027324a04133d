-- The files ask for one list of looks.
use Rattle.std.proofs.Common.{◌≡◌, ℕ, zero, suc, ◌<◌, ◌⊎◌, List, [], ◌++◌, length, sym, refl, ap, ◌∙◌, ap₂, subst, inl, inr, arith, get_or}
use Rattle.card.specs.Meaning.{Bytes, Name}
use Rattle.names.specs.declared.names.Names.{Names}
use Rattle.names.specs.Files.{how_many, file_of}
use Rattle.steps.specs.Tasks.{Task, up_to}
use Rattle.set_files.specs.Files.{Holds}
use Rattle.set_files.specs.Looked.{FileTold}
use Rattle.set_files.proofs.Played.{some_same}
use Rattle.survey.specs.Asks.{Until, InOrder, Then, length_look, super_looks, judge_looks, Absent, Damaged, AsksDatabase, AsksNamed, AsksJournal, StrayName, AsksListed, AsksNames, AsksList, AsksSuper, AsksDatabases, AsksJournals, Any, AsksOurs, AfterDatabases, Asks}
use Rattle.survey.proofs.Asked.{until_end, until_all, told_one}
use Rattle.survey.proofs.Judging.{naming_one}
use Rattle.survey.proofs.Listings.{names_one}

-- what a set of lists has but one of
abbrev AtMostOne : (List Task → Type 0) → Type 0
AtMostOne P = (a b : List Task) → P a → P b → a ≡ b

until_one : (ends : ℕ → Type 0) (n j k : ℕ) → Until ends n j → Until ends n k → j ≡ k
until_one ends n j k u (inl h) = until_all ends n j u h.1 ∙ sym h.0
until_one ends n j k u (inr h) = until_end ends n j h.0 u h.2 h.3 h.4 ∙ sym h.1

up_to_one : (p q : ℕ → List Task) (k : ℕ) → ((i : ℕ) → i < k → p i ≡ q i) → up_to p k ≡ up_to q k
unfolding up_to
up_to_one p q zero each = refl
up_to_one p q (suc k) each = ap₂ (λ (x y : List Task). x ++ y) (up_to_one p q k (λ i lt. each i (omega arith))) (each k (omega arith))

in_order_one : (Part : ℕ → List Task → Type 0) (ends : ℕ → Type 0) (n : ℕ) → ((i : ℕ) → AtMostOne (Part i)) → AtMostOne (InOrder Part ends n)
in_order_one Part ends n part a b p q =
    let e : p.count ≡ q.count = until_one ends n p.count q.count p.until q.until in
    p.is ∙ up_to_one p.parts q.parts p.count (λ i lt. part i (p.parts i) (q.parts i) (p.each i lt) (q.each i (omega (arith, e)))) ∙ ap (up_to q.parts) e ∙ sym q.is

then_one : (First : List Task → Type 0) (Ends : Type 0) (Rest : List Task → Type 0) → AtMostOne First → AtMostOne Rest → AtMostOne (Then First Ends Rest)
then_one First Ends Rest first rest a b p q = p.is ∙ ap₂ (λ (x y : List Task). x ++ y) (first p.first q.first p.looks q.looks) (by p.after q.after) ∙ sym q.is
  where
    by : (Ends × (p.rest ≡ [])) ⊎ ((Ends → ⊥) × Rest p.rest) → (Ends × (q.rest ≡ [])) ⊎ ((Ends → ⊥) × Rest q.rest) → p.rest ≡ q.rest
    by (inl h) (inl k) = h.1 ∙ sym k.1
    by (inl h) (inr k) = absurd (k.0 h.0)
    by (inr h) (inl k) = absurd (h.0 k.0)
    by (inr h) (inr k) = rest p.rest q.rest h.1 k.1

module _ (files : Holds) (file : ℕ → Name) (n : ℕ) (one : (w : Name) (j k : ℕ) → FileTold file n w j → FileTold file n w k → j ≡ k) where
  named_one : (w : Name) → AtMostOne (AsksNamed file n w)
  named_one w a b p q = p.2 ∙ ap (λ (k : ℕ). length_look k w) (one w p.0 q.0 p.1 q.1) ∙ sym q.2

  database_one : (d : ℕ) → AtMostOne (AsksDatabase files file d)
  database_one d a b p q = p ∙ sym q

  journal_one : (d : ℕ) → AtMostOne (AsksJournal files file n d)
  journal_one d a b (inl p) (inl q) = p.1 ∙ sym q.1
  journal_one d a b (inl p) (inr q) = absurd (p.0 q.0 q.2)
  journal_one d a b (inr p) (inl q) = absurd (q.0 p.0 p.2)
  journal_one d a b (inr p) (inr q) =
      let e : p.0 ≡ q.0 = naming_one files file d p.0 q.0 p.2 q.2 in
      let same = named_one q.0 p.1 q.1 (subst (λ (w : Name). AsksNamed file n w p.1) e p.3) q.3 in
      p.4 ∙ ap (λ (x : List Task). judge_looks files file d ++ x) same ∙ sym q.4

  listed_one : (w : Name) → AtMostOne (AsksListed files file n w)
  listed_one w a b (inl p) (inl q) = p.1 ∙ sym q.1
  listed_one w a b (inl p) (inr q) = absurd (q.0 p.0)
  listed_one w a b (inr p) (inl q) = absurd (p.0 q.0)
  listed_one w a b (inr p) (inr q) = named_one w a b p.1 q.1

  names_asked_one : (ns : List Name) → AtMostOne (AsksNames files file n ns)
  names_asked_one ns = in_order_one (λ i. AsksListed files file n (get_or ns i [])) (λ i. StrayName files file n (get_or ns i [])) (length ns) (λ i. listed_one (get_or ns i []))

  list_one : (b : Bytes) → AtMostOne (AsksList files file n b)
  list_one b x y (inl p) (inl q) = p.1 ∙ sym q.1
  list_one b x y (inl p) (inr q) = absurd (p.0 q.0 q.1 q.2)
  list_one b x y (inr p) (inl q) = absurd (q.0 p.0 p.1 p.2)
  list_one b x y (inr p) (inr q) =
      let e : p.0 ≡ q.0 = names_one p.0 q.0 p.1 q.1 (sym p.2 ∙ q.2) in
      names_asked_one q.0 x y (subst (λ (ns : List Name). AsksNames files file n ns x) e p.3) q.3

  super_one : AtMostOne (AsksSuper files file n)
  super_one a b p q =
      let e : p.0 ≡ q.0 = some_same (files (file 8)) p.0 q.0 p.2 q.2 in
      let same = list_one q.0 p.1 q.1 (subst (λ (x : Bytes). AsksList files file n x p.1) e p.3) q.3 in
      p.4 ∙ ap₂ (λ (x : Bytes) (y : List Task). super_looks (file 8) x ++ y) e same ∙ sym q.4

  ours_one : AtMostOne (AsksOurs files file n)
  ours_one a b (inl p) (inl q) = p.1 ∙ sym q.1
  ours_one a b (inl p) (inr q) = absurd (p.0 q.0)
  ours_one a b (inr p) (inl q) = absurd (q.0 p.0)
  ours_one a b (inr p) (inr q) = super_one a b p.1 q.1

  pub asks_once : AtMostOne (Asks files file n)
  asks_once =
      then_one (AsksDatabases files file n) (Any files file n (Absent files file)) (AfterDatabases files file n) (in_order_one (AsksDatabase files file) (Absent files file) n database_one)
      (then_one (AsksJournals files file n) (Any files file n (Damaged files file)) (AsksOurs files file n) (in_order_one (AsksJournal files file n) (Damaged files file) n journal_one) ours_one)

-- of a checked list of names
pub asks_one : (s : Names) (files : Holds) (a b : List Task) → Asks files (file_of s) (how_many s) a → Asks files (file_of s) (how_many s) b → a ≡ b
asks_one s files a b p q = asks_once files (file_of s) (how_many s) (told_one s) a b p q
