-- Looks one after the other, and what they leave.
use Rattle.std.proofs.Common.{◌≡◌, ℕ, ◌+◌, ◌<◌, true, List, [], ◌∷◌, ◌++◌, length, Some, None, Ok, Err, Option, Result, sym, refl, ap, ◌∙◌, subst, inl, arith}
use Rattle.std.specs.List.{AllByRecursion}
use Rattle.std.specs.Option.{ok_or}
use Rattle.std.specs.Result.{IsErrAnd}
use Rattle.std.proofs.lemmas.Result.{err_from_is_err_and}
use Rattle.card.specs.Meaning.{Meaning, Bytes, Name}
use Rattle.card.specs.Calls.{Op, length_told}
use Rattle.card.specs.Runs.{Act}
use Rattle.journal.specs.OnCard.{judge_acts}
use Rattle.refusal.specs.declared.step.Step.{Step}
use Rattle.refusal.specs.declared.fault.SetFault.{SetFault}
use Rattle.refusal.specs.declared.refusals.Refusal.{Refusal}
use Rattle.refusal.specs.declared.refusals.Refusal.TheVariants.{Damaged, Foreign, Database, Card}
use Rattle.steps.specs.declared.site.Site.{Site}
use Rattle.steps.specs.Tasks.{Task, task, tasks, acts, Looks, Went, at}
use Rattle.steps.proofs.Went.{went_then, went_end}
use Rattle.steps.proofs.Held.{looked_files, all_append}
use Rattle.names.specs.Names.{is_file}
use Rattle.names.proofs.Files.{database_is_file, journal_is_file, super_is_file}
use Rattle.set_files.specs.Looked.{FileTold, Looking, Looked, ended, dropped, stop_of, Told, Says}

module _ {C : Type 0} (m : Meaning C) (step : Step) (file : ℕ → Name) (n : ℕ) where
  pub looked_end : (c : C) → Looked m step file n c (Ok tt) c
  looked_end c = record { list = []; each = tt; went = went_end m c tt }

  pub looked_then : (c c₁ c₂ : C) (r : Result (Unit {0}) SetFault) → Looked m step file n c (Ok tt) c₁ → Looked m step file n c₁ r c₂ → Looked m step file n c r c₂
  looked_then c c₁ c₂ r p q =
      record {
        list = p.list ++ q.list;
        each = all_append m (Looking step file n) p.list q.list p.each q.each;
        went = went_then m p.list q.list c c₁ c₂ tt r p.went q.went;
      }

  looks_acts : (ts : List Task) → AllByRecursion (Looking step file n) ts → AllByRecursion (λ a. Looks a.op) (acts ts)
  looks_acts [] a = tt
  looks_acts (t ∷ ts) a = (a.0.looks, looks_acts ts a.1)

  -- looks leave what files hold
  pub looked_same : (c c₁ : C) → Looked m step file n c (Ok tt) c₁ → m.holds c₁ ≡ m.holds c
  looked_same c c₁ p = looked_files m (acts p.list) c c₁ (looks_acts p.list p.each) p.went.ended

  went_ended : {V : Type 0} (ts : List Task) (c c₁ : C) (r : Result V SetFault) → Went m ts c r c₁ → Went m ts c (ended r) c₁
  went_ended ts c c₁ (Ok v) w = record { ended = w.ended; origins = w.origins }
  went_ended ts c c₁ (Err f) w = record { ended = w.ended; origins = w.origins }

  -- one look
  pub looked_one :
      {V : Type 0} (c c₁ : C) (s : Site) (k : ℕ) (w : Name) (op : Op) (r : Result V SetFault) → s ≡ at step k → Looks op →
      FileTold file n w k → Went m (task s w op ∷ []) c r c₁ → Looked m step file n c (ended r) c₁
  looked_one c c₁ s k w op r e l told q =
      record {
        list = task s w op ∷ [];
        each = (
          subst (λ (x : Site). Looking step file n (task x w op)) (sym e) (record { in_step = refl; no_record = refl; looks = l; named = told }),
          tt,
        );
        went = went_ended (task s w op ∷ []) c c₁ r q;
      }

  -- a look at a database
  pub looked_database :
      {V : Type 0} (c c₁ : C) (d : ℕ) (op : Op) (r : Result V SetFault) → Looks op → d < n → Went m (task (at step d) (file d) op ∷ []) c r c₁ → Looked m step file n c (ended r) c₁
  looked_database c c₁ d op r l lt q = looked_one c c₁ (at step d) d (file d) op r refl l (inl (database_is_file n d lt, refl)) q

  -- a look at the super-journal
  pub looked_super :
      {V : Type 0} (c c₁ : C) (s : Site) (w : Name) (op : Op) (r : Result V SetFault) → s ≡ at step 8 → w ≡ file 8 → Looks op → Went m (task s w op ∷ []) c r c₁ → Looked m step file n c (ended r) c₁
  looked_super c c₁ s w op r e named l q = looked_one c c₁ s 8 w op r e l (inl (super_is_file n, sym named)) q

  looking_tasks : (k : ℕ) (w : Name) (list : List Act) → FileTold file n w k → AllByRecursion (λ a. (a.name ≡ w) × Looks a.op) list → AllByRecursion (Looking step file n) (tasks (at step k) list)
  looking_tasks k w [] told a = tt
  looking_tasks k w (x ∷ list) told a = (
    record { in_step = refl; no_record = refl; looks = a.0.1; named = subst (λ (v : Name). FileTold file n v k) (sym a.0.0) told },
    looking_tasks k w list told a.1,
  )

  -- several looks at one file
  pub looked_acts :
      {V : Type 0} (c c₁ : C) (s : Site) (k : ℕ) (w : Name) (list : List Act) (r : Result V SetFault) → s ≡ at step k →
      FileTold file n w k → AllByRecursion (λ a. (a.name ≡ w) × Looks a.op) list → Went m (tasks s list) c r c₁ → Looked m step file n c (ended r) c₁
  looked_acts c c₁ s k w list r e told a q =
      record {
        list = tasks s list;
        each = subst (λ (x : Site). AllByRecursion (Looking step file n) (tasks x list)) (sym e) (looking_tasks k w list told a);
        went = went_ended (tasks s list) c c₁ r q;
      }

-- what a `?` passes up
pub passed_up : {T E : Type 0} (r : Result T E) (e : E) → IsErrAnd r (λ x. x ≡ e) → r ≡ Err e
passed_up {T} {E} r e h = let p = err_from_is_err_and r h in p.1 ∙ ap (λ (x : E). Err x) p.2

-- a refusal that says more
says_more :
    (e : Refusal) (damaged damaged' : ℕ → ℕ → Type 0) (foreign foreign' bad bad' : ℕ → Type 0) → ((f k : ℕ) → damaged f k → damaged' f k) → ((f : ℕ) → foreign f → foreign' f) →
    ((d : ℕ) → bad d → bad' d) → Says e damaged foreign bad → Says e damaged' foreign' bad'
says_more (Damaged x k) d d' f f' b b' p q r h = p x k h
says_more (Foreign x) d d' f f' b b' p q r h = q x h
says_more (Database x) d d' f f' b b' p q r h = r x h
says_more (Card x) d d' f f' b b' p q r h = tt
says_more _ d d' f f' b b' p q r h = h

module _ {C : Type 0} (m : Meaning C) where
  -- what only looked, and then was refused
  pub looked_refused :
      {V : Type 0} (step : Step) (file : ℕ → Name) (n : ℕ) (c c₁ : C) (e : Refusal) (r : Result V Refusal) → IsErrAnd r (λ x. x ≡ e) → Looked m step file n c (stop_of e) c₁ → Looked m step file n c (dropped r) c₁
  looked_refused {V} step file n c c₁ e r h p = subst (λ (x : Result V Refusal). Looked m step file n c (dropped x) c₁) (sym (passed_up r e h)) p

  -- looks, and after them one that was refused
  pub looked_up :
      {V : Type 0} (step : Step) (file : ℕ → Name) (n : ℕ) (c c₁ c₂ : C) (e : Refusal) (r : Result V Refusal) → IsErrAnd r (λ x. x ≡ e) → Looked m step file n c (Ok tt) c₁ → Looked m step file n c₁ (stop_of e) c₂ →
      Looked m step file n c (dropped r) c₂
  looked_up step file n c c₁ c₂ e r h p q = looked_refused step file n c c₂ e r h (looked_then m step file n c c₁ c₂ (stop_of e) p q)

-- a told length is that of a present file
pub told_some : (f : Option Bytes) (n : ℕ) → Some n ≡ length_told f → (b : Bytes) × (f ≡ Some b) × (n ≡ length b)
told_some None n e = let z : ◌≡◌ {A = ℕ} 0 1 = cc in absurd (omega arith)
told_some (Some b) n e = (b, refl, cc)

pub told_absent : (f : Option Bytes) (o : Option ℕ) → o ≡ None → o ≡ length_told f → f ≡ None
told_absent None o a e = refl
told_absent (Some b) o a e = let z : ◌≡◌ {A = ℕ} 0 1 = cc in absurd (omega arith)

-- an absent value, refused and passed up
pub absent_refused : {T V : Type 0} (o : Option T) (e x : Refusal) (r : Result V Refusal) → Err x ≡ ok_or o e → IsErrAnd r (λ y. y ≡ x) → (o ≡ None) × IsErrAnd r (λ y. y ≡ e)
absent_refused {T} {V} None e x r h up = (refl, subst (λ (y : Refusal). IsErrAnd r (λ z. z ≡ y)) (let is : x ≡ e = cc in is) up)
absent_refused (Some v) e x r h up = let z : ◌≡◌ {A = ℕ} 0 1 = cc in absurd (omega arith)

-- a refusal passed up, that says more
pub told_up :
    {V : Type 0} (r : Result V Refusal) (e : Refusal) (good : V → Type 0) (damaged damaged' : ℕ → ℕ → Type 0) (foreign foreign' bad bad' : ℕ → Type 0) → IsErrAnd r (λ x. x ≡ e) →
    ((f k : ℕ) → damaged f k → damaged' f k) → ((f : ℕ) → foreign f → foreign' f) → ((d : ℕ) → bad d → bad' d) → Says e damaged foreign bad → Told r good damaged' foreign' bad'
told_up {V} r e good d d' f f' b b' up p q s h = subst (λ (x : Result V Refusal). Told x good d' f' b') (sym (passed_up r e up)) (says_more e d d' f f' b b' p q s h)

-- an answer that says more
pub told_more :
    {V : Type 0} (r : Result V Refusal) (good good' : V → Type 0) (damaged damaged' : ℕ → ℕ → Type 0) (foreign foreign' bad bad' : ℕ → Type 0) → ((v : V) → good v → good' v) →
    ((f k : ℕ) → damaged f k → damaged' f k) → ((f : ℕ) → foreign f → foreign' f) → ((d : ℕ) → bad d → bad' d) → Told r good damaged foreign bad → Told r good' damaged' foreign' bad'
told_more (Ok v) g g' d d' f f' b b' p q s t h = p v h
told_more (Err e) g g' d d' f f' b b' p q s t h = says_more e d d' f f' b b' q s t h

judge_looks : (n : Name) (f : Option Bytes) → AllByRecursion (λ a. (a.name ≡ n) × Looks a.op) (judge_acts n f)
judge_looks n None = ((refl, tt), tt)
judge_looks n (Some b) = ((refl, tt), ((refl, tt), tt))

module _ {C : Type 0} (m : Meaning C) (step : Step) (file : ℕ → Name) (n : ℕ) where
  -- a database's journal that is judged is only looked at
  pub looked_judged :
      {V : Type 0} (c c₁ : C) (d k : ℕ) (f : Option Bytes) (r : Result V SetFault) → k ≡ 4 + d → d < n → Went m (tasks (at step k) (judge_acts (file k) f)) c r c₁ →
      Looked m step file n c (ended r) c₁
  looked_judged c c₁ d k f r e lt w =
      looked_acts m step file n c c₁ (at step k) k (file k) (judge_acts (file k) f) r refl (inl (subst (λ (x : ℕ). is_file n x ≡ true) (sym e) (journal_is_file n d lt), refl)) (judge_looks (file k) f) w

  -- what was refused, and passed up
  pub looked_failed : {V : Type 0} (c c₁ : C) (f : SetFault) (r : Result V SetFault) → IsErrAnd r (λ x. x ≡ f) → Looked m step file n c (Err f) c₁ → Looked m step file n c (ended r) c₁
  looked_failed {V} c c₁ f r h p = subst (λ (x : Result V SetFault). Looked m step file n c (ended x) c₁) (sym (passed_up r f h)) p
