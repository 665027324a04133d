-- A survey by its stages: the databases, the journals, the super-journal.
use Rattle.std.proofs.Common.{ℕ, List, Ok, Result, sym, subst, inl, inr}
use Rattle.card.specs.Meaning.{Meaning, Name}
use Rattle.refusal.specs.declared.fault.SetFault.{SetFault}
use Rattle.steps.specs.Tasks.{Task, Went}
use Rattle.steps.proofs.Went.{went_end}
use Rattle.set_files.specs.Files.{Holds}
use Rattle.survey.specs.Asks.{Absent, Damaged, Any, AsksDatabases, AfterDatabases, AsksJournals, OursNamed, AsksOurs, AsksSuper, Asks}
use Rattle.survey.specs.Finds.{AllPresent, ForeignJournal}
use Rattle.survey.specs.Linked.{AllLooked}
use Rattle.survey.specs.declared.look.Look.{Look}
use Rattle.survey.proofs.Asked.{then_more, not_absent}
use Rattle.survey.proofs.Judging.{seen_undamaged}
use Rattle.survey.proofs.Surveyed.{all_seen}

module _ {C : Type 0} (m : Meaning C) (files : Holds) (file : ℕ → Name) (n : ℕ) where
  -- all databases are there
  pub present_more :
      (c c₁ c₂ : C) (r : Result (Unit {0}) SetFault) → AllPresent files file n → ((list : List Task) → AsksDatabases files file n list → Went m {V = Unit {0}} list c (Ok tt) c₁) →
      ((list : List Task) → AfterDatabases files file n list → Went m list c₁ r c₂) → (list : List Task) → Asks files file n list → Went m list c r c₂
  present_more c c₁ c₂ r present p q =
      then_more m (AsksDatabases files file n) (Any files file n (Absent files file)) (AfterDatabases files file n) c c₁ c₂ r (λ a. not_absent (files (file a.0)) (present a.0 a.1) a.2) p q

  -- no journal is damaged
  pub sound_more :
      (c c₁ c₂ : C) (r : Result (Unit {0}) SetFault) → (Any files file n (Damaged files file) → ⊥) → ((list : List Task) → AsksJournals files file n list → Went m {V = Unit {0}} list c (Ok tt) c₁) →
      ((list : List Task) → AsksOurs files file n list → Went m list c₁ r c₂) → (list : List Task) → AfterDatabases files file n list → Went m list c r c₂
  sound_more c c₁ c₂ r sound p q = then_more m (AsksJournals files file n) (Any files file n (Damaged files file)) (AsksOurs files file n) c c₁ c₂ r sound p q

  -- the super-journal is not asked for
  pub ours_not : (c : C) → (OursNamed files file n → ⊥) → (list : List Task) → AsksOurs files file n list → Went m {V = Unit {0}} list c (Ok tt) c
  ours_not c free list (inl a) = subst (λ (ts : List Task). Went m {V = Unit {0}} ts c (Ok tt) c) (sym a.1) (went_end m c tt)
  ours_not c free list (inr a) = absurd (free a.0)

  -- it is
  pub ours_named :
      (c c₁ : C) (r : Result (Unit {0}) SetFault) → OursNamed files file n → ((list : List Task) → AsksSuper files file n list → Went m list c r c₁) → (list : List Task) → AsksOurs files file n list → Went m list c r c₁
  ours_named c c₁ r o p list (inl a) = absurd (a.0 o)
  ours_named c c₁ r o p list (inr a) = p list a.1

module _ (files : Holds) (file : ℕ → Name) (n : ℕ) where
  -- a hot journal names another super-journal
  pub foreign_not_ours : (d : ℕ) → ForeignJournal files file n d → OursNamed files file n → ⊥
  foreign_not_ours d h o = let f = h.foreign in f.4 (o.0 d f.0 f.1 h.within f.2 f.3)

  -- journals that were looked at are not damaged
  pub all_undamaged : (looks : List Look) → AllLooked files file n looks → Any files file n (Damaged files file) → ⊥
  all_undamaged looks all a = let s = all_seen files file n looks all a.0 a.1 in seen_undamaged files file a.0 s.0 s.1 a.2
