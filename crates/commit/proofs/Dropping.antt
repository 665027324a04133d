-- What another file holds after the journals were deleted, whatever each deletion was answered. Where power
-- failed in one, a file holds what it held if nothing else might remain of it.
use Rattle.std.proofs.Common.{◌≡◌, true, List, Some, None, Option, sym, refl, ◌∙◌, inl, inr, arith}
use Rattle.std.proofs.lemmas.Bool.{false≢true}
use Rattle.card.specs.declared.fault.Cause.{Cause}
use Rattle.card.specs.declared.fault.Cause.TheVariants.{Power, Device, Absent, Present, Range}
use Rattle.card.specs.Meaning.{Meaning, May, Bytes, Name}
use Rattle.card.specs.Calls.{Op, Called}
use Rattle.card.specs.Runs.{Act}
use Rattle.card.specs.Crash.{Leaves}
use Rattle.card.proofs.Every.{may_other}
use Rattle.steps.specs.Safe.{Safe}
use Rattle.commit.specs.Ended.{Tries, done, tried, refusals}

module _ {C : Type 0} (m : Meaning C) (k : Name) where
  safe_may : (c : C) (o : Option Bytes) → Safe m c k → May m c k o → m.holds c k ≡ o
  safe_may c None s e = e
  safe_may c (Some b) s r = s b r

  -- a call on another file keeps a safe file
  safe_holds : (c c' : C) (n : Name) (op : Op) (x : Option Cause) → (k ≡ n → ⊥) → Safe m c k → Called m c n op x c' → m.holds c' k ≡ m.holds c k
  safe_holds c c' n op None ne s w = (w.others k ne).holds
  safe_holds c c' n op (Some Power) ne s (inl w) = (w.1.files k).holds
  safe_holds c c' n op (Some Power) ne s (inr w) = sym (safe_may c (m.holds c' k) s (w.others k ne))
  safe_holds c c' n op (Some Device) ne s w = (w.1.files k).holds
  safe_holds c c' n op (Some Absent) ne s w = (w.2.files k).holds
  safe_holds c c' n op (Some Present) ne s w = (w.2.files k).holds
  safe_holds c c' n op (Some Range) ne s w = (w.2.files k).holds

  safe_still : (c c' : C) (n : Name) (op : Op) (x : Option Cause) → (k ≡ n → ⊥) → Safe m c k → Called m c n op x c' → Safe m c' k
  safe_still c c' n op x ne s w b r = safe_holds c c' n op x ne s w ∙ s b (may_other m c c' n k op x (Some b) ne w r)

  -- a safe file holds what it held, and is safe
  pub dropped_safe : (acts : List Act) (c c' : C) (xs : List (Option Cause)) → Leaves k acts → Safe m c k → Tries m acts c xs c' → (m.holds c' k ≡ m.holds c k) × Safe m c' k
  dropped_safe acts c c' xs l s done = (refl, s)
  dropped_safe acts c c' xs l s (tried {a = a} {acts = rest} {c₁ = d} {x = x} {xs = more} w t) =
      let later = dropped_safe rest d c' more l.1 (safe_still c d a.name a.op x l.0 s w) t in
      (later.0 ∙ safe_holds c d a.name a.op x l.0 s w, later.1)

  -- no deletion was refused
  pub dropped_well : (acts : List Act) (c c' : C) (xs : List (Option Cause)) → Leaves k acts → refusals xs ≡ 0 → Tries m acts c xs c' → m.holds c' k ≡ m.holds c k
  unfolding refusals
  dropped_well acts c c' xs l e done = refl
  dropped_well acts c c' xs l e (tried {acts = rest} {c₁ = d} {x = None} {xs = more} w t) = dropped_well rest d c' more l.1 e t ∙ (w.others k l.0).holds
  dropped_well acts c c' xs l e (tried {x = Some y} w t) = absurd (omega (arith, e))

  -- a call after which power is on
  powered_holds : (c c' : C) (n : Name) (op : Op) (x : Option Cause) → (k ≡ n → ⊥) → m.on c' ≡ true → Called m c n op x c' → (m.on c ≡ true) × (m.holds c' k ≡ m.holds c k)
  powered_holds c c' n op None ne on w = (w.powered, (w.others k ne).holds)
  powered_holds c c' n op (Some Power) ne on (inl w) = (sym w.1.on ∙ on, (w.1.files k).holds)
  powered_holds c c' n op (Some Power) ne on (inr w) = absurd (false≢true (sym w.off ∙ on))
  powered_holds c c' n op (Some Device) ne on w = (w.0, (w.1.files k).holds)
  powered_holds c c' n op (Some Absent) ne on w = (w.0, (w.2.files k).holds)
  powered_holds c c' n op (Some Present) ne on w = (w.0, (w.2.files k).holds)
  powered_holds c c' n op (Some Range) ne on w = (w.0, (w.2.files k).holds)

  -- power is on after all of them
  pub dropped_powered : (acts : List Act) (c c' : C) (xs : List (Option Cause)) → Leaves k acts → m.on c' ≡ true → Tries m acts c xs c' → (m.on c ≡ true) × (m.holds c' k ≡ m.holds c k)
  dropped_powered acts c c' xs l on done = (on, refl)
  dropped_powered acts c c' xs l on (tried {a = a} {acts = rest} {c₁ = d} {x = x} {xs = more} w t) =
      let later = dropped_powered rest d c' more l.1 on t in
      let first = powered_holds c d a.name a.op x l.0 later.0 w in
      (first.0, later.1 ∙ first.1)
