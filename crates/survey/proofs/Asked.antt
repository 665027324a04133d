-- The looks that are asked for, gone through part by part.
use Rattle.std.proofs.Common.{◌≡◌, ℕ, ◌+◌, ◌<◌, ◌≤◌, ◌⊎◌, List, [], ◌++◌, None, Ok, Err, Option, Result, sym, refl, ap, ◌∙◌, subst, inl, inr, arith}
use native.Mathlib.Decide.{ℕ_discrete}
use Rattle.std.specs.Result.{IsErrAnd}
use Rattle.std.proofs.lemmas.List.{append-nil}
use Rattle.std.proofs.lemmas.Bool.{cases_lt, cases_order}
use Rattle.std.proofs.lemmas.Option.{none-some}
use Rattle.card.specs.Meaning.{Meaning, Bytes, Name}
use Rattle.names.specs.declared.names.Names.{Names}
use Rattle.names.specs.Files.{how_many, file_of}
use Rattle.names.proofs.Files.{files_apart}
use Rattle.refusal.specs.declared.fault.SetFault.{SetFault}
use Rattle.refusal.specs.declared.refusals.Refusal.{Refusal}
use Rattle.refusal.specs.declared.refusals.Refusal.TheVariants.{Damaged as RefusalDamaged, Foreign, Database, Card}
use Rattle.steps.specs.Tasks.{Task, Went, up_to}
use Rattle.steps.proofs.Went.{went_then, went_stop, went_end, went_up, went_value}
use Rattle.steps.proofs.UpTo.{up_suc, up_split}
use Rattle.set_files.specs.Files.{Present}
use Rattle.set_files.specs.Looked.{FileTold, ended, stop_of, Says}
use Rattle.set_files.proofs.Looks.{passed_up}
use Rattle.survey.specs.Asks.{Until, InOrder, Then, AskedFor, length_look, AsksNamed}

-- what a refusal says where it is not the card's
pub said :
    (e : Refusal) (damaged : ℕ → ℕ → Type 0) (foreign bad : ℕ → Type 0) (S : Type 0) → ((f k : ℕ) → damaged f k → S) → ((f : ℕ) → foreign f → S) → ((d : ℕ) → bad d → S) → Says e damaged foreign bad →
    stop_of e ≡ Ok tt → S
said (RefusalDamaged f k) damaged foreign bad S p q r h is = p f k h
said (Foreign f) damaged foreign bad S p q r h is = q f h
said (Database d) damaged foreign bad S p q r h is = r d h
said (Card f) damaged foreign bad S p q r h is = let z : ◌≡◌ {A = ℕ} 0 1 = cc in absurd (omega arith)
said _ damaged foreign bad S p q r h is = absurd h

pub not_absent : (f : Option Bytes) → Present f → f ≡ None → ⊥
not_absent f p e = none-some p.0 (sym e ∙ p.1)

-- a fault is no good end
pub not_good : (f : SetFault) (S : Type 0) → ◌≡◌ {A = Result (Unit {0}) SetFault} (Err f) (Ok tt) → S
not_good f S e = let z : ◌≡◌ {A = ℕ} 0 1 = cc in absurd (omega arith)

module _ {C : Type 0} (m : Meaning C) where
  went_ended : {V : Type 0} (ts : List Task) (c c₁ : C) (r : Result V SetFault) → Went m ts c r c₁ → Went m ts c (ended r) c₁
  went_ended ts c c₁ (Ok v) p = went_value m ts c c₁ v tt p
  went_ended ts c c₁ (Err f) p = went_up m ts c c₁ f (Err f) refl p

  -- what was asked for up to a refusal, which is passed up
  pub asked_up : {V : Type 0} (P : List Task → Type 0) (c c₁ : C) (e : Refusal) (r : Result V Refusal) → IsErrAnd r (λ x. x ≡ e) → ((list : List Task) → P list → Went m list c (stop_of e) c₁) → AskedFor m P c r c₁
  asked_up {V} P c c₁ e r h p = subst (λ (x : Result V Refusal). AskedFor m P c x c₁) (sym (passed_up r e h)) p

  -- what was asked for of one thing, where another is the same
  pub asked_at :
      {A : Type 0} (P : A → List Task → Type 0) (x y : A) (c c₁ : C) (r : Result (Unit {0}) SetFault) → x ≡ y → ((list : List Task) → P x list → Went m list c r c₁) → (list : List Task) → P y list → Went m list c r c₁
  asked_at {A} P x y c c₁ r e p list a = p list (subst (λ (z : A). P z list) (sym e) a)

  -- a list as it is asked for, told without its value
  pub went_is : {V : Type 0} (ts : List Task) (c c₁ : C) (r : Result V SetFault) → Went m ts c r c₁ → (list : List Task) → list ≡ ts → Went m list c (ended r) c₁
  went_is ts c c₁ r p list e = subst (λ (x : List Task). Went m x c (ended r) c₁) (sym e) (went_ended ts c c₁ r p)

  -- a part of the looks, if it is the last or the card refused one of it
  went_part :
      (first rest : List Task) (c c₁ : C) (r : Result (Unit {0}) SetFault) → (r ≡ Ok tt → rest ≡ []) → Went m first c r c₁ → Went m (first ++ rest) c r c₁
  went_part first rest c c₁ (Ok u) none p = subst (λ (list : List Task). Went m (first ++ list) c (Ok u) c₁) (sym (none refl)) (subst (λ (list : List Task). Went m list c (Ok u) c₁) (sym (append-nil first)) p)
  went_part first rest c c₁ (Err f) none p = went_stop m first rest c c₁ f p

  module _ (First : List Task → Type 0) (Ends : Type 0) (Rest : List Task → Type 0) where
    -- the first looks ended it
    pub then_ends :
        (c c₁ : C) (r : Result (Unit {0}) SetFault) → (r ≡ Ok tt → Ends) → ((list : List Task) → First list → Went m list c r c₁) → (list : List Task) → Then First Ends Rest list → Went m list c r c₁
    then_ends c c₁ r ends went list t = subst (λ (x : List Task). Went m x c r c₁) (sym t.is) (went_part t.first t.rest c c₁ r (λ e. by (ends e) t.after) (went t.first t.looks))
      where
        by : Ends → (Ends × (t.rest ≡ [])) ⊎ ((Ends → ⊥) × Rest t.rest) → t.rest ≡ []
        by e (inl h) = h.1
        by e (inr h) = absurd (h.0 e)

    -- they found nothing that does
    pub then_more :
        (c c₁ c₂ : C) (r : Result (Unit {0}) SetFault) → (Ends → ⊥) → ((list : List Task) → First list → Went m {V = Unit {0}} list c (Ok tt) c₁) → ((list : List Task) → Rest list → Went m list c₁ r c₂) → (list : List Task) →
        Then First Ends Rest list → Went m list c r c₂
    then_more c c₁ c₂ r none went more list t = subst (λ (x : List Task). Went m x c r c₂) (sym t.is) (went_then m t.first t.rest c c₁ c₂ tt r (went t.first t.looks) (more t.rest (by t.after)))
      where
        by : (Ends × (t.rest ≡ [])) ⊎ ((Ends → ⊥) × Rest t.rest) → Rest t.rest
        by (inl h) = absurd (none h.0)
        by (inr h) = h.1

-- the count is past what ended nothing
until_past : (ends : ℕ → Type 0) (n count d : ℕ) → Until ends n count → d < n → ((i : ℕ) → i < d → ends i → ⊥) → d + 1 ≤ count
until_past ends n count d (inl h) lt before = omega (arith, h.0)
until_past ends n count d (inr h) lt before = by (cases_lt h.0 d)
  where
    by : (h.0 < d) ⊎ (d ≤ h.0) → d + 1 ≤ count
    by (inl less) = absurd (before h.0 less h.3)
    by (inr le) = omega (arith, h.1)

-- it is the first end
pub until_end : (ends : ℕ → Type 0) (n count d : ℕ) → Until ends n count → d < n → ends d → ((i : ℕ) → i < d → ends i → ⊥) → count ≡ d + 1
until_end ends n count d (inl h) lt here before = absurd (h.1 d lt here)
until_end ends n count d (inr h) lt here before = by (cases_order h.0 d)
  where
    by : (h.0 ≡ d) ⊎ ((h.0 < d) ⊎ (d < h.0)) → count ≡ d + 1
    by (inl e) = omega (arith, e, h.1)
    by (inr (inl less)) = absurd (before h.0 less h.3)
    by (inr (inr more)) = absurd (h.4 d more here)

-- or all, where nothing ends it
pub until_all : (ends : ℕ → Type 0) (n count : ℕ) → Until ends n count → ((i : ℕ) → i < n → ends i → ⊥) → count ≡ n
until_all ends n count (inl h) none = h.0
until_all ends n count (inr h) none = absurd (none h.0 h.2 h.3)

-- the first k parts were gone through
abbrev pub Gone : {C : Type 0} → Meaning C → (ℕ → List Task → Type 0) → ℕ → C → C → Type 0
Gone m Part k c c₁ = (parts : ℕ → List Task) → ((i : ℕ) → i < k → Part i (parts i)) → Went m {V = Unit {0}} (up_to parts k) c (Ok tt) c₁

module _ {C : Type 0} (m : Meaning C) (Part : ℕ → List Task → Type 0) where
  pub gone_none : (c : C) → Gone m Part 0 c c
  unfolding up_to
  gone_none c parts each = went_end m c tt

  gone_with :
      (k : ℕ) (c c₁ c₂ : C) (r : Result (Unit {0}) SetFault) → Gone m Part k c c₁ → ((list : List Task) → Part k list → Went m list c₁ r c₂) → (parts : ℕ → List Task) → ((i : ℕ) → i < k + 1 → Part i (parts i)) →
      Went m (up_to parts (k + 1)) c r c₂
  gone_with k c c₁ c₂ r p q parts each =
      subst (λ (ts : List Task). Went m ts c r c₂) (sym (up_suc m parts k))
      (went_then m (up_to parts k) (parts k) c c₁ c₂ tt r (p parts (λ i lt. each i (omega arith))) (q (parts k) (each k (omega arith))))

  -- one more
  pub gone_more : (k : ℕ) (c c₁ c₂ : C) → Gone m Part k c c₁ → ((list : List Task) → Part k list → Went m {V = Unit {0}} list c₁ (Ok tt) c₂) → Gone m Part (k + 1) c c₂
  gone_more k c c₁ c₂ p q parts each = gone_with k c c₁ c₂ (Ok tt) p q parts each

  module _ (ends : ℕ → Type 0) (n : ℕ) where
    -- the last one
    pub gone_ends :
        (d : ℕ) (c c₁ c₂ : C) (r : Result (Unit {0}) SetFault) → d < n → ((i : ℕ) → i < d → ends i → ⊥) → (r ≡ Ok tt → ends d) → Gone m Part d c c₁ → ((list : List Task) → Part d list → Went m list c₁ r c₂) → (list : List Task) →
        InOrder Part ends n list → Went m list c r c₂
    gone_ends d c c₁ c₂ (Ok u) lt before here p q list o =
        let e : o.count ≡ d + 1 = until_end ends n o.count d o.until lt (here refl) before in
        subst (λ (ts : List Task). Went m ts c (Ok u) c₂) (sym (o.is ∙ ap (up_to o.parts) e)) (gone_with d c c₁ c₂ (Ok u) p q o.parts (λ i less. o.each i (omega (arith, e))))
    gone_ends d c c₁ c₂ (Err f) lt before here p q list o =
        let past : d + 1 ≤ o.count = until_past ends n o.count d o.until lt before in
        let s = up_split m o.parts (d + 1) o.count past in
        subst (λ (ts : List Task). Went m {V = Unit {0}} ts c (Err f) c₂) (sym (o.is ∙ s.1))
        (went_stop m (up_to o.parts (d + 1)) s.0 c c₂ f (gone_with d c c₁ c₂ (Err f) p q o.parts (λ i less. o.each i (omega (arith, past)))))

    -- all of them
    pub gone_all :
        (k : ℕ) (c c₁ : C) → k ≡ n → ((i : ℕ) → i < n → ends i → ⊥) → Gone m Part k c c₁ → (list : List Task) → InOrder Part ends n list → Went m {V = Unit {0}} list c (Ok tt) c₁
    gone_all k c c₁ all none p list o =
        let e : o.count ≡ k = until_all ends n o.count o.until none ∙ sym all in
        subst (λ (ts : List Task). Went m {V = Unit {0}} ts c (Ok tt) c₁) (sym (o.is ∙ ap (up_to o.parts) e)) (p o.parts (λ i lt. o.each i (omega (arith, e))))

-- a name is told as one file
pub told_one : (s : Names) (w : Name) (j k : ℕ) → FileTold (file_of s) (how_many s) w j → FileTold (file_of s) (how_many s) w k → j ≡ k
told_one s w j k (inl p) (inl q) = by (ℕ_discrete j k)
  where
    by : Dec (j ≡ k) → j ≡ k
    by (yes e) = e
    by (no ne) = absurd (files_apart s j k p.0 q.0 ne (p.1 ∙ sym q.1))
told_one s w j k (inl p) (inr q) = absurd (q.1 j p.0 p.1)
told_one s w j k (inr p) (inl q) = absurd (p.1 k q.0 q.1)
told_one s w j k (inr p) (inr q) = p.0 ∙ sym q.0

-- the length of the file of a name
pub went_named :
    {C V : Type 0} (m : Meaning C) (s : Names) (w : Name) (c c₁ : C) (r : Result V SetFault) → (k : ℕ) × FileTold (file_of s) (how_many s) w k × Went m (length_look k w) c r c₁ → (list : List Task) → AsksNamed (file_of s) (how_many s) w list →
    Went m list c (ended r) c₁
went_named m s w c c₁ r h list a =
    let e : a.0 ≡ h.0 = told_one s w a.0 h.0 a.1 h.1 in
    went_is m (length_look h.0 w) c c₁ r h.2 list (a.2 ∙ ap (λ (k : ℕ). length_look k w) e)
