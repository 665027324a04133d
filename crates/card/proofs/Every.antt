-- What may remain of a file after a call, however it is answered: the crash law of every card that
-- keeps the two laws of its meaning; and with it what holds of a file whatever remains of it.
use Rattle.std.proofs.Common.{◌≡◌, ℕ, Bool, true, false, ◌⊎◌, List, Some, None, Option, sym, refl, ◌∙◌, subst, inl, inr, ⊎_elim, arith}
use Rattle.card.specs.declared.fault.Cause.{Cause}
use Rattle.card.specs.declared.fault.Cause.TheVariants.{Power, Device, Absent, Present, Range}
use Rattle.card.specs.Meaning.{Meaning, Lawful, May, Untouched, Bytes, Name}
use Rattle.card.specs.Calls.{Op, length_of, read, create, write, set_length, sync, delete, Could, Called, Worked, tested, after_name, name_ok, worked}
use Rattle.card.specs.Runs.{Act, End, Runs, end, next, stop}
use Rattle.card.specs.Crash.{Every, Leaves, CrashLaw}

pub some_none : {A : Type 0} {b : A} → ◌≡◌ {A = Option A} (Some b) None → ⊥
some_none {A} {b} e = let z : ◌≡◌ {A = ℕ} 0 1 = cc in omega arith

pub not_lawful_absent : (b : Bool) → after_name b (Some Absent) ≡ None → ⊥
not_lawful_absent true t = some_none t
not_lawful_absent false t = some_none t

module _ {C : Type 0} (m : Meaning C) where
  -- what may remain of a file that was left alone could remain before
  pub untouched_may : (c c' : C) (n : Name) (o : Option Bytes) → Untouched m c n c' → May m c' n o → May m c n o
  untouched_may c c' n None u e = sym u.holds ∙ e
  untouched_may c c' n (Some b) u r = u.remains b r

  -- where only what a file holds may remain, a file may be nothing else
  pub only_may : (c : C) (n : Name) (o : Option Bytes) → ((k : Name) (b : Bytes) → m.remains c k b → m.holds c k ≡ Some b) → May m c n o → m.holds c n ≡ o
  only_may c n None only e = e
  only_may c n (Some b) only r = only n b r

  lost_may : (c c' : C) (n : Name) (o : Option Bytes) → ((k : Name) (b : Bytes) → m.remains c' k b → m.holds c' k ≡ Some b) → May m c n (m.holds c' n) → May m c' n o → May m c n o
  lost_may c c' n o only h r = let P : Option Bytes → Type 0 = λ x. May m c n x in subst P (only_may c' n o only r) h

  -- a call on another file
  pub may_other : (c c' : C) (n k : Name) (op : Op) (a : Option Cause) (o : Option Bytes) → (k ≡ n → ⊥) → Called m c n op a c' → May m c' k o → May m c k o
  may_other c c' n k op None o ne d = untouched_may c c' k o (d.others k ne)
  may_other c c' n k op (Some Power) o ne (inl s) = untouched_may c c' k o (s.1.files k)
  may_other c c' n k op (Some Power) o ne (inr d) = lost_may c c' k o d.only (d.others k ne)
  may_other c c' n k op (Some Device) o ne s = untouched_may c c' k o (s.1.files k)
  may_other c c' n k op (Some Absent) o ne s = untouched_may c c' k o (s.2.files k)
  may_other c c' n k op (Some Present) o ne s = untouched_may c c' k o (s.2.files k)
  may_other c c' n k op (Some Range) o ne s = untouched_may c c' k o (s.2.files k)

  -- what a lawful call leaves is absence only where that could remain after its work
  pub gone_could : (c : C) (n : Name) (op : Op) (f : Option Bytes) → m.holds c n ≡ f → tested op n f ≡ None → worked op f ≡ None → Could op (May m c n) f None
  gone_could c n length_of f e t w = e ∙ w
  gone_could c n (read p k) f e t w = e ∙ w
  gone_could c n create f e t w = absurd (some_none w)
  gone_could c n (write p b) None e t w = absurd (not_lawful_absent (name_ok n) t)
  gone_could c n (write p b) (Some x) e t w = absurd (some_none w)
  gone_could c n (set_length k) None e t w = absurd (not_lawful_absent (name_ok n) t)
  gone_could c n (set_length k) (Some x) e t w = absurd (some_none w)
  gone_could c n sync f e t w = sym w
  gone_could c n delete f e t w = refl

  -- what the file of a call may be: what it could be before, or after the work
  abbrev Own : C → Name → Op → Option Bytes → Type 0
  Own c n op o = May m c n o ⊎ ((tested op n (m.holds c n) ≡ None) × Could op (May m c n) (m.holds c n) o)

  worked_own : (c c' : C) (n : Name) (op : Op) (o : Option Bytes) → Worked m c n op c' → May m c' n o → Own c n op o
  worked_own c c' n op None d e = inr (d.lawful, gone_could c n op (m.holds c n) refl d.lawful (sym d.holds ∙ e))
  worked_own c c' n op (Some b) d r = inr (d.lawful, d.remains b r)

  -- a call on the file itself
  pub may_own : (c c' : C) (n : Name) (op : Op) (a : Option Cause) (o : Option Bytes) → Called m c n op a c' → May m c' n o → Own c n op o
  may_own c c' n op None o d r = worked_own c c' n op o d r
  may_own c c' n op (Some Power) o (inl s) r = inl (untouched_may c c' n o (s.1.files n) r)
  may_own c c' n op (Some Power) o (inr d) r = let P : Option Bytes → Type 0 = λ x. Own c n op x in subst P (only_may c' n o d.only r) d.own
  may_own c c' n op (Some Device) o s r = inl (untouched_may c c' n o (s.1.files n) r)
  may_own c c' n op (Some Absent) o s r = inl (untouched_may c c' n o (s.2.files n) r)
  may_own c c' n op (Some Present) o s r = inl (untouched_may c c' n o (s.2.files n) r)
  may_own c c' n op (Some Range) o s r = inl (untouched_may c c' n o (s.2.files n) r)

  -- a run with no act on the file
  pub may_run : (c c' : C) (k : Name) (acts : List Act) (e : End) (o : Option Bytes) → Leaves k acts → Runs m acts c e c' → May m c' k o → May m c k o
  may_run c c' k acts e o l end r = r
  may_run c c' k acts e o l (next {a = a} {acts = rest} {c₁ = c₁} d run) r =
      may_other c c₁ a.name k a.op None o l.0 d (may_run c₁ c' k rest e o l.1 run r)
  may_run c c' k acts e o l (stop {a = a} {x = x} d) r = may_other c c' a.name k a.op (Some x) o l.0 d r

module _ {C : Type 0} {m : Meaning C} (l : Lawful m) where
  -- what a file is now may remain
  pub may_now : (c : C) (n : Name) → May m c n (m.holds c n)
  may_now c n = go (m.holds c n) refl
    where
      go : (o : Option Bytes) → m.holds c n ≡ o → May m c n o
      go None e = e
      go (Some b) e = l.kept c n b e

  pub crash_law_lem : CrashLaw m
  crash_law_lem = record { held = may_now; other = may_other m; own = may_own m; run = may_run m }

  -- what holds of every remain holds of the file now
  pub now_of : (c : C) (n : Name) (P : Option Bytes → Type 0) → Every m c n P → P (m.holds c n)
  now_of c n P h = h (m.holds c n) (may_now c n)

  -- a call on another file, however it is answered, keeps it
  pub every_other : (c c' : C) (n k : Name) (op : Op) (a : Option Cause) (P : Option Bytes → Type 0) → (k ≡ n → ⊥) → Called m c n op a c' → Every m c k P → Every m c' k P
  every_other c c' n k op a P ne d h o r = h o (may_other m c c' n k op a o ne d r)

  -- a call on the file itself keeps it where all that could remain after its work has it
  pub every_own :
      (c c' : C) (n : Name) (op : Op) (a : Option Cause) (P : Option Bytes → Type 0) →
      Every m c n P → ((o : Option Bytes) → Could op (May m c n) (m.holds c n) o → P o) → Called m c n op a c' → Every m c' n P
  every_own c c' n op a P h w d o r = ⊎_elim (h o) (λ x. w o x.1) (may_own m c c' n op a o d r)
