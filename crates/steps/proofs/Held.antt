-- What files hold after a run that came through: what they held, if no act is on them, or if all acts only look.
-- And what may remain of them then.
use Rattle.std.proofs.Common.{◌≡◌, ℕ, ◌⊎◌, List, [], ◌∷◌, ◌++◌, Some, Option, sym, refl, ap, ◌∙◌, subst, inl, inr, arith}
use native.Mathlib.Decide.{ℕ_discrete}
use Rattle.std.specs.List.{AllByRecursion}
use Rattle.card.specs.Meaning.{Meaning, May, Untouched, Bytes, Name}
use Rattle.card.specs.Calls.{Op, length_of, read, create, write, set_length, sync, delete, Could, Worked, worked}
use Rattle.card.specs.Runs.{Act, through, Runs, end, next}
use Rattle.card.specs.Crash.{Leaves}
use Rattle.steps.specs.Safe.{Safe}
use Rattle.steps.specs.Tasks.{Task, acts, Looks}

pub name_same : (a b : Name) → Dec (a ≡ b)
name_same [] [] = yes refl
name_same [] (y ∷ b) = no (λ e. let z : ◌≡◌ {A = ℕ} 0 1 = cc in omega arith)
name_same (x ∷ a) [] = no (λ e. let z : ◌≡◌ {A = ℕ} 0 1 = cc in omega arith)
name_same (x ∷ a) (y ∷ b) = pick (ℕ_discrete x y) (name_same a b)
  where
    pick : Dec (x ≡ y) → Dec (a ≡ b) → Dec (x ∷ a ≡ y ∷ b)
    pick (yes p) (yes q) = yes (λ i. p i ∷ q i)
    pick (yes p) (no q) = no (λ e. let z : a ≡ b = cc in q z)
    pick (no p) q = no (λ e. let z : x ≡ y = cc in p z)

worked_look : (op : Op) (f : Option Bytes) → Looks op → worked op f ≡ f
worked_look length_of f l = refl
worked_look (read p k) f l = refl
worked_look create f l = elim l [ ]
worked_look (write p b) f l = elim l [ ]
worked_look (set_length k) f l = elim l [ ]
worked_look sync f l = elim l [ ]
worked_look delete f l = elim l [ ]

-- after a call that only looks no more may remain of its file than before
could_look : (op : Op) (could : Option Bytes → Type 0) (f o : Option Bytes) → Looks op → Could op could f o → could o
could_look length_of could f o l h = h
could_look (read p k) could f o l h = h
could_look create could f o l h = elim l [ ]
could_look (write p b) could f o l h = elim l [ ]
could_look (set_length k) could f o l h = elim l [ ]
could_look sync could f o l h = elim l [ ]
could_look delete could f o l h = elim l [ ]

module _ {C : Type 0} (m : Meaning C) where
  -- a call that only looks leaves what files hold
  pub look_holds : (c c' : C) (n : Name) (op : Op) → Looks op → Worked m c n op c' → (k : Name) → m.holds c' k ≡ m.holds c k
  look_holds c c' n op l w k = by (name_same k n)
    where
      by : Dec (k ≡ n) → m.holds c' k ≡ m.holds c k
      by (yes e) = ap (m.holds c') e ∙ w.holds ∙ worked_look op (m.holds c n) l ∙ sym (ap (m.holds c) e)
      by (no ne) = (w.others k ne).holds

  pub looked_holds : (acts : List Act) (c c' : C) → AllByRecursion (λ a. Looks a.op) acts → Runs m acts c through c' → (k : Name) → m.holds c' k ≡ m.holds c k
  looked_holds acts c c' l end k = refl
  looked_holds acts c c' l (next {a = a} {acts = rest} {c₁ = d} w r) k = looked_holds rest d c' l.1 r k ∙ look_holds c d a.name a.op l.0 w k

  -- and so, as functions
  pub looked_files : (acts : List Act) (c c' : C) → AllByRecursion (λ a. Looks a.op) acts → Runs m acts c through c' → m.holds c' ≡ m.holds c
  looked_files acts c c' l r = λ i k. looked_holds acts c c' l r k i

  -- a file that no act is on
  pub left_holds : (k : Name) (acts : List Act) (c c' : C) → Leaves k acts → Runs m acts c through c' → m.holds c' k ≡ m.holds c k
  left_holds k acts c c' l end = refl
  left_holds k acts c c' l (next {a = a} {acts = rest} {c₁ = d} w r) = left_holds k rest d c' l.1 r ∙ (w.others k l.0).holds

  pub leaves_append : (k : Name) (xs ys : List Act) → Leaves k xs → Leaves k ys → Leaves k (xs ++ ys)
  leaves_append k [] ys p q = q
  leaves_append k (a ∷ xs) ys p q = (p.0, leaves_append k xs ys p.1 q)

  pub all_append : {A : Type 0} (P : A → Type 0) (xs ys : List A) → AllByRecursion P xs → AllByRecursion P ys → AllByRecursion P (xs ++ ys)
  all_append P [] ys p q = q
  all_append P (a ∷ xs) ys p q = (p.0, all_append P xs ys p.1 q)

  -- a task that leaves what the file k holds: it only looks, or it is on another file
  abbrev pub Spares : Name → Task → Type 0
  Spares k t = Looks t.act.op ⊎ (k ≡ t.act.name → ⊥)

  pub untouched_safe : (k : Name) (c c' : C) → Untouched m c k c' → Safe m c k → Safe m c' k
  untouched_safe k c c' u s b r = u.holds ∙ s b (u.remains b r)

  pub untouched_then : (k : Name) (c c₁ c₂ : C) → Untouched m c k c₁ → Untouched m c₁ k c₂ → Untouched m c k c₂
  untouched_then k c c₁ c₂ u v = record { holds = v.holds ∙ u.holds; remains = λ b r. u.remains b (v.remains b r) }

  look_untouched : (k : Name) (c c' : C) (n : Name) (op : Op) → Looks op → Worked m c n op c' → Untouched m c k c'
  look_untouched k c c' n op l w = by (name_same k n)
    where
      by : Dec (k ≡ n) → Untouched m c k c'
      by (yes e) = subst (λ (x : Name). Untouched m c x c') (sym e) (record { holds = look_holds c c' n op l w n; remains = λ b r. could_look op (May m c n) (m.holds c n) (Some b) l (w.remains b r) })
      by (no ne) = w.others k ne

  -- tasks that spare the file k leave it alone
  pub spared_untouched : (k : Name) (ts : List Task) (c c' : C) → AllByRecursion (Spares k) ts → Runs m (acts ts) c through c' → Untouched m c k c'
  spared_untouched k [] c c' s end = record { holds = refl; remains = λ b r. r }
  spared_untouched k (t ∷ ts) c c' s (next {c₁ = d} w r) = untouched_then k c d c' (one s.0) (spared_untouched k ts d c' s.1 r)
    where
      one : Spares k t → Untouched m c k d
      one (inl l) = look_untouched k c d t.act.name t.act.op l w
      one (inr ne) = w.others k ne

  pub spared_holds : (k : Name) (ts : List Task) (c c' : C) → AllByRecursion (Spares k) ts → Runs m (acts ts) c through c' → m.holds c' k ≡ m.holds c k
  spared_holds k ts c c' s r = (spared_untouched k ts c c' s r).holds
