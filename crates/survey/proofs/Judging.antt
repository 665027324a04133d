-- The looks at one journal: it is judged, and then the super-journal is asked for that a sound one names.
use Rattle.std.proofs.Common.{◌≡◌, ℕ, ◌+◌, ◌⊎◌, List, Some, None, Ok, Err, Option, Result, sym, refl, ap, ◌∙◌, subst, inl, inr, arith}
use Rattle.std.proofs.lemmas.Option.{none-some}
use Rattle.card.specs.Meaning.{Meaning, Bytes, Name}
use Rattle.journal.specs.Format.{Journal, LawfulJournal, full}
use Rattle.journal.specs.Judged.{Judged}
use Rattle.journal.specs.OnCard.{judge_acts}
use Rattle.journal.specs.declared.verdict.Verdict.{Verdict}
use Rattle.journal.specs.declared.verdict.Verdict.TheVariants.{Spent, Damaged, Sound}
use Rattle.journal.specs.declared.verdict.Sound.{Sound as SoundParts}
use Rattle.journal.proofs.Laws.{journal_laws}
use Rattle.refusal.specs.declared.step.Step.TheVariants.{R1}
use Rattle.refusal.specs.declared.fault.SetFault.{SetFault}
use Rattle.steps.specs.Tasks.{Task, Went, tasks, at}
use Rattle.steps.proofs.Went.{went_then, went_stop}
use Rattle.set_files.specs.Files.{Holds, ToldVerdict}
use Rattle.set_files.specs.Looked.{ended}
use Rattle.set_files.proofs.Played.{some_same, told_judged}
use Rattle.survey.specs.Seen.{Seen, none, spent, hot, SeenAs, Orphan}
use Rattle.survey.specs.Asks.{Damaged as AtDamage, judge_looks, SoundNaming, AsksNamed, AsksJournal}
use Rattle.survey.proofs.Asked.{went_is}

-- what is told of an absent journal
told_none : (f : Option Bytes) (old new : Bytes) (o : Option Verdict) → o ≡ None → ToldVerdict f old (Ok o) new → f ≡ None
told_none f old new o e h = (subst (λ (x : Option Verdict). ToldVerdict f old (Ok x) new) e h).0

pub spent_not_sound : (v : Verdict) → v ≡ Spent → (s : SoundParts) → v ≡ Sound s → ⊥
spent_not_sound v e s is = let z : ◌≡◌ {A = ℕ} 0 1 = cc in omega arith

pub damaged_not_sound : (v : Verdict) (k : ℕ) → v ≡ Damaged k → (s : SoundParts) → v ≡ Sound s → ⊥
damaged_not_sound v k e s is = let z : ◌≡◌ {A = ℕ} 0 1 = cc in omega arith

module _ (files : Holds) (file : ℕ → Name) (d : ℕ) where
  -- a sound journal names one super-journal
  pub naming_one : (v w : Name) → SoundNaming files file d v → SoundNaming files file d w → v ≡ w
  naming_one v w p q =
      let same = journal_laws.same p.0 q.0 p.1 q.1 (some_same _ _ _ p.2 q.2) in
      let e : Some v ≡ Some w = sym p.3 ∙ ap (λ (j : Journal). j.super) same ∙ q.3 in
      cc

  -- an absent journal names none
  pub absent_names :
      (k : ℕ) (old new : Bytes) (o : Option Verdict) → k ≡ 4 + d → o ≡ None → ToldVerdict (files (file k)) old (Ok o) new → (w : Name) → SoundNaming files file d w → ⊥
  absent_names k old new o at_d e h w p =
      let gone = told_none (files (file k)) old new o e h in
      none-some _ (sym (subst (λ (x : ℕ). files (file x) ≡ None) at_d gone) ∙ p.2)

  -- nor does one with a verdict that is not sound
  pub unsound_names :
      (k : ℕ) (old new : Bytes) (o : Option Verdict) (v : Verdict) → k ≡ 4 + d → o ≡ Some v → ((s : SoundParts) → v ≡ Sound s → ⊥) → ToldVerdict (files (file k)) old (Ok o) new → (w : Name) → SoundNaming files file d w → ⊥
  unsound_names k old new o v at_d e not h w p =
      let t = told_judged (files (file k)) old new o v e h in
      let held : files (file (4 + d)) ≡ Some t.0 = subst (λ (x : ℕ). files (file x) ≡ Some t.0) at_d t.1 in
      let r = journal_laws.round_trip p.0 p.1 v (subst (λ (x : Bytes). Judged x v) (some_same _ _ _ held p.2) t.2) in
      not r.0 r.1

  -- nor a sound one without a name
  pub alone_names : (b : Bytes) (j : Journal) → files (file (4 + d)) ≡ Some b → LawfulJournal j → b ≡ full j → None ≡ j.super → (w : Name) → SoundNaming files file d w → ⊥
  alone_names b j held ok is free w p =
      let same = journal_laws.same j p.0 ok p.1 (sym is ∙ some_same _ _ _ held p.2) in
      none-some w (free ∙ ap (λ (i : Journal). i.super) same ∙ p.3)

  -- what was seen as something is not damaged
  pub seen_undamaged : (s : Seen) → SeenAs files file d s → AtDamage files file d → ⊥
  seen_undamaged none h w = none-some _ (sym h ∙ w.1.1)
  seen_undamaged spent h w = by h.2
    where
      judged : Judged h.0 (Damaged w.0)
      judged = subst (λ (x : Bytes). Judged x (Damaged w.0)) (some_same _ _ _ w.1.1 h.1) w.1.2

      by : Judged h.0 Spent ⊎ Orphan files h.0 → ⊥
      by (inl p) = let e = journal_laws.one h.0 Spent (Damaged w.0) p judged in let z : ◌≡◌ {A = ℕ} 0 1 = cc in omega arith
      by (inr o) =
          let t = journal_laws.round_trip o.0 o.1 (Damaged w.0) (subst (λ (x : Bytes). Judged x (Damaged w.0)) o.2 judged) in
          damaged_not_sound (Damaged w.0) w.0 refl t.0 t.1
  seen_undamaged (hot j) h w =
      let t = journal_laws.round_trip j h.lawful (Damaged w.0) (subst (λ (x : Bytes). Judged x (Damaged w.0)) (some_same _ _ _ w.1.1 h.held) w.1.2) in
      damaged_not_sound (Damaged w.0) w.0 refl t.0 t.1

  module _ {C : Type 0} (m : Meaning C) (n : ℕ) where
    -- it is judged, by its number
    pub went_judged :
        {V : Type 0} (k : ℕ) (c c₁ : C) (r : Result V SetFault) → k ≡ 4 + d → Went m (tasks (at R1 k) (judge_acts (file k) (files (file k)))) c r c₁ → Went m (judge_looks files file d) c (ended r) c₁
    went_judged k c c₁ r e p = subst (λ (x : ℕ). Went m (tasks (at R1 x) (judge_acts (file x) (files (file x)))) c (ended r) c₁) e (went_is m _ c c₁ r p _ refl)

    -- the card refused that
    pub judged_stop : (c c₁ : C) (f : SetFault) → Went m {V = Unit {0}} (judge_looks files file d) c (Err f) c₁ → (list : List Task) → AsksJournal files file n d list → Went m {V = Unit {0}} list c (Err f) c₁
    judged_stop c c₁ f p list (inl a) = subst (λ (ts : List Task). Went m {V = Unit {0}} ts c (Err f) c₁) (sym a.1) p
    judged_stop c c₁ f p list (inr a) = subst (λ (ts : List Task). Went m {V = Unit {0}} ts c (Err f) c₁) (sym a.4) (went_stop m (judge_looks files file d) a.1 c c₁ f p)

    -- it names none
    pub judged_alone :
        (c c₁ : C) → ((w : Name) → SoundNaming files file d w → ⊥) → Went m {V = Unit {0}} (judge_looks files file d) c (Ok tt) c₁ → (list : List Task) → AsksJournal files file n d list →
        Went m {V = Unit {0}} list c (Ok tt) c₁
    judged_alone c c₁ free p list (inl a) = subst (λ (ts : List Task). Went m {V = Unit {0}} ts c (Ok tt) c₁) (sym a.1) p
    judged_alone c c₁ free p list (inr a) = absurd (free a.0 a.2)

    -- it names one
    pub judged_named :
        (w : Name) (c c₁ c₂ : C) (r : Result (Unit {0}) SetFault) → SoundNaming files file d w → Went m {V = Unit {0}} (judge_looks files file d) c (Ok tt) c₁ →
        ((list : List Task) → AsksNamed file n w list → Went m list c₁ r c₂) → (list : List Task) → AsksJournal files file n d list → Went m list c r c₂
    judged_named w c c₁ c₂ r naming p q list (inl a) = absurd (a.0 w naming)
    judged_named w c c₁ c₂ r naming p q list (inr a) =
        subst (λ (ts : List Task). Went m ts c r c₂) (sym a.4)
        (went_then m (judge_looks files file d) a.1 c c₁ c₂ tt r p (q a.1 (subst (λ (v : Name). AsksNamed file n v a.1) (naming_one a.0 w a.2 naming) a.3)))
