-- The names that a super-journal lists.
use Rattle.std.proofs.Common.{◌≡◌, ℕ, ◌*◌, ◌⊎◌, ◌<◌, leb, ◌++◌, None, sym, inl, inr, ◌≤◌, List, [], ◌∷◌, length, take, Some, Ok, Err, Option, Result, ap, ◌∙◌, subst, arith, length-append, length-take}
use Rattle.std.proofs.lemmas.Bool.{le-leb, lt-leb, cond-true, cond-false}
use Rattle.std.proofs.lemmas.Option.{none-some}
use Rattle.std.proofs.lemmas.List.{take_all, append-nil}
use Rattle.std.specs.List.{AllByRecursion}
use Rattle.card.specs.Meaning.{Meaning, Bytes, Name}
use Rattle.card.specs.Calls.{part_of, read}
use Rattle.super_journal.specs.Super.{super_journal_bytes, LawfulNames, Plain}
use Rattle.names.specs.declared.names.Names.{Names}
use Rattle.names.specs.Files.{how_many, file_of, super_file}
use Rattle.refusal.specs.declared.refusals.Refusal.{Refusal}
use Rattle.refusal.specs.declared.refusals.Refusal.TheVariants.{Damaged, Foreign}
use Rattle.refusal.specs.declared.fault.SetFault.{SetFault}
use Rattle.steps.specs.Tasks.{Task, Went, task, at}
use Rattle.steps.specs.declared.site.Site.{Site}
use Rattle.refusal.specs.declared.step.Step.TheVariants.{R1}
use Rattle.super_journal.proofs.Names.{super_ends, cut}
use Rattle.set_files.proofs.Played.{some_same}
use Rattle.steps.proofs.Went.{went_end, went_then, went_stop, went_up, went_value, went_as}
use Rattle.set_files.specs.Files.{Holds}
use Rattle.survey.specs.Finds.{NoNames, JournalName, Listed, Strays}
use Rattle.survey.specs.Asks.{StrayName, AsksListed, AsksNamed, AsksNames, AsksList, AsksSuper, length_look, super_looks}
use Rattle.survey.specs.Tells.{TellsList, TellsSuper}

names_each : (ns : List Name) → AllByRecursion Plain ns → length (super_journal_bytes ns) ≤ 33 * length ns
unfolding super_journal_bytes
names_each [] a = omega arith
names_each (n ∷ ns) a = omega (arith, length-append n (0 ∷ super_journal_bytes ns), a.0.short, names_each ns a.1)

-- a list of names is not longer than this
pub names_short : (ns : List Name) → LawfulNames ns → length (super_journal_bytes ns) ≤ 132
names_short ns ok = omega (arith, names_each ns ok.each, ok.few)

-- the whole file, read into the front of a buffer
pub super_read :
    (b buf new : Bytes) (n k : ℕ) (f : Option Bytes) → n ≡ length b → n ≤ 17724 → length buf ≡ 17724 → f ≡ Some b → k ≡ n → new ≡ part_of f 0 (length (take k buf)) → new ≡ b
super_read b buf new n k f size short room held same e =
    let long : length (take k buf) ≡ n = omega (arith, length-take k buf) in
    e ∙ ap (λ (x : Option Bytes). part_of x 0 (length (take k buf))) held ∙ take_all (length (take k buf)) b (omega arith)

-- a listed file that is a journal of the set or absent is no stray one
pub fine_not_stray : (files : Holds) (file : ℕ → Name) (n : ℕ) (w : Name) → JournalName file n w ⊎ (files w ≡ None) → StrayName files file n w → ⊥
fine_not_stray files file n w (inl is) s = s.0 is
fine_not_stray files file n w (inr gone) s = none-some _ (sym gone ∙ s.1.1)

module _ {C : Type 0} (m : Meaning C) (files : Holds) (file : ℕ → Name) (n : ℕ) (w : Name) where
  -- a journal of the set is not asked for
  pub listed_ours : (c : C) → JournalName file n w → (list : List Task) → AsksListed files file n w list → Went m {V = Unit {0}} list c (Ok tt) c
  listed_ours c is list (inl a) = subst (λ (ts : List Task). Went m {V = Unit {0}} ts c (Ok tt) c) (sym a.1) (went_end m c tt)
  listed_ours c is list (inr a) = absurd (a.0 is)

  -- any other file is
  pub listed_other :
      (c c₁ : C) (r : Result (Unit {0}) SetFault) → (JournalName file n w → ⊥) → ((list : List Task) → AsksNamed file n w list → Went m list c r c₁) → (list : List Task) → AsksListed files file n w list → Went m list c r c₁
  listed_other c c₁ r not p list (inl a) = absurd (not a.0)
  listed_other c c₁ r not p list (inr a) = p list a.1

-- bytes are those of one list of names
pub names_one : (ns ms : List Name) → LawfulNames ns → LawfulNames ms → super_journal_bytes ns ≡ super_journal_bytes ms → ns ≡ ms
names_one ns ms p q e = let f = super_ends ns p.some in sym (cut f.0 ns p.each (sym f.1)) ∙ cut f.0 ms q.each (sym f.1 ∙ e)

module _ {C : Type 0} (m : Meaning C) (files : Holds) (file : ℕ → Name) (n : ℕ) (b : Bytes) where
  -- no list of names
  pub list_none : (c : C) → NoNames b → (list : List Task) → AsksList files file n b list → Went m {V = Unit {0}} list c (Ok tt) c
  list_none c free list (inl a) = subst (λ (ts : List Task). Went m {V = Unit {0}} ts c (Ok tt) c) (sym a.1) (went_end m c tt)
  list_none c free list (inr a) = absurd (free a.0 a.1 a.2)

  -- a list of names
  pub list_some :
      (ns : List Name) (c c₁ : C) (r : Result (Unit {0}) SetFault) → LawfulNames ns → b ≡ super_journal_bytes ns → ((list : List Task) → AsksNames files file n ns list → Went m list c r c₁) → (list : List Task) → AsksList files file n b list →
      Went m list c r c₁
  list_some ns c c₁ r ok is p list (inl a) = absurd (a.0 ns ok is)
  list_some ns c c₁ r ok is p list (inr a) = p list (subst (λ (x : List Name). AsksNames files file n x list) (names_one a.0 ns a.1 ok (sym a.2 ∙ is)) a.3)

module _ {C V : Type 0} (m : Meaning C) (w : Name) (b : Bytes) (c c₁ : C) where
  -- the length of the super-journal was refused
  pub super_stop : (f : SetFault) (r : Result V SetFault) → r ≡ Err f → Went m {V = Option ℕ} (length_look 8 w) c (Err f) c₁ → Went m (super_looks w b) c r c₁
  super_stop f r e p = went_up m {V = V} (super_looks w b) c c₁ f r e (went_stop m (length_look 8 w) _ c c₁ f p)

  -- it is too long, and not read
  pub super_long : (o : Option ℕ) (v : V) → 17724 < length b → Went m (length_look 8 w) c (Ok o) c₁ → Went m (super_looks w b) c (Ok v) c₁
  super_long o v long p =
      let read_it : List Task = task (at R1 8) w (read 0 (length b)) ∷ [] in
      let none : super_looks w b ≡ length_look 8 w = ap (λ (x : List Task). length_look 8 w ++ x) (cond-false (leb (length b) 17724) read_it [] (lt-leb (length b) 17724 long)) ∙ sym (append-nil (length_look 8 w)) in
      subst (λ (ts : List Task). Went m ts c (Ok v) c₁) (sym none) (went_value m (length_look 8 w) c c₁ o v p)

  -- it is read
  pub super_short :
      (c₂ : C) (o : Option ℕ) (s : Site) (v : Name) (k : ℕ) (r : Result V SetFault) → length b ≤ 17724 → s ≡ at R1 8 → v ≡ w → k ≡ length b → Went m (length_look 8 w) c (Ok o) c₁ → Went m (task s v (read 0 k) ∷ []) c₁ r c₂ →
      Went m (super_looks w b) c r c₂
  super_short c₂ o s v k r short at_it named long p q =
      let read_it : List Task = task (at R1 8) w (read 0 (length b)) ∷ [] in
      let all : super_looks w b ≡ length_look 8 w ++ read_it = ap (λ (x : List Task). length_look 8 w ++ x) (cond-true (leb (length b) 17724) read_it [] (le-leb (length b) 17724 short)) in
      subst (λ (ts : List Task). Went m ts c r c₂) (sym all)
      (went_then m (length_look 8 w) read_it c c₁ c₂ o r p (went_as m c₁ c₂ r s (at R1 8) v w (read 0 k) (read 0 (length b)) at_it named (ap (read 0) long) q))

module _ {C : Type 0} (m : Meaning C) (files : Holds) (file : ℕ → Name) (n : ℕ) (b : Bytes) (held : files (file 8) ≡ Some b) where
  -- the super-journal is as it was held
  super_parts : (list : List Task) → AsksSuper files file n list → (rest : List Task) × AsksList files file n b rest × (list ≡ super_looks (file 8) b ++ rest)
  super_parts list a =
      let e : a.0 ≡ b = some_same (files (file 8)) a.0 b a.2 held in
      (a.1, subst (λ (x : Bytes). AsksList files file n x a.1) e a.3, a.4 ∙ ap (λ (x : Bytes). super_looks (file 8) x ++ a.1) e)

  -- the looks at it were refused
  pub asked_stop : {V : Type 0} (c c₁ : C) (f : SetFault) → Went m {V = V} (super_looks (file 8) b) c (Err f) c₁ → (list : List Task) → AsksSuper files file n list → Went m {V = Unit {0}} list c (Err f) c₁
  asked_stop c c₁ f p list a =
      let s = super_parts list a in
      subst (λ (ts : List Task). Went m {V = Unit {0}} ts c (Err f) c₁) (sym s.2) (went_stop m (super_looks (file 8) b) s.0 c c₁ f p)

  -- and then the files that it lists
  pub asked_super :
      {V : Type 0} (c c₁ c₂ : C) (v : V) (r : Result (Unit {0}) SetFault) → Went m (super_looks (file 8) b) c (Ok v) c₁ → ((list : List Task) → AsksList files file n b list → Went m list c₁ r c₂) → (list : List Task) →
      AsksSuper files file n list → Went m list c r c₂
  asked_super c c₁ c₂ v r p q list a =
      let s = super_parts list a in
      subst (λ (ts : List Task). Went m ts c r c₂) (sym s.2) (went_then m (super_looks (file 8) b) s.0 c c₁ c₂ v r p (q s.0 s.1))

-- what a list tells of the files as they are after looks, its super-journal tells of them as they were
module _ {C : Type 0} (m : Meaning C) (names : Names) (c c₁ : C) where
  pub super_told :
      (b : Bytes) (r : Result (Unit {0}) Refusal) → m.holds c₁ ≡ m.holds c → m.holds c (super_file names) ≡ Some b → TellsList m names c₁ b r →
      TellsSuper m names c r
  super_told b (Ok u) same held h = (b, held, subst (λ (x : Holds). (ns : List Name) × Listed x (file_of names) (how_many names) b ns) same h)
  super_told b (Err (Damaged f k)) same held h = (h.0, h.1, (b, held, h.2))
  super_told b (Err (Foreign f)) same held h = (h.0, (b, held, subst (λ (x : Holds). (ns : List Name) × Strays x (file_of names) (how_many names) b ns) same h.1))
  super_told b (Err _) same held h = h
