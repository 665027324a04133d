-- Calls of a card one after the other, passed up by their faults.
use Rattle.std.proofs.Common.{◌≡◌, ℕ, List, [], ◌∷◌, Ok, Err, Option, Result, sym, refl, subst}
use Rattle.card.specs.declared.fault.CardFault.{CardFault}
use Rattle.card.specs.Meaning.{Meaning, Bytes, Name}
use Rattle.card.specs.Calls.{Op, read, write, Answered}
use Rattle.card.specs.Runs.{Act, end, next, stop}
use Rattle.journal.specs.OnCard.{Acted, judge_acts}
use Rattle.journal.specs.declared.fault.JournalFault.{JournalFault}

module _ {C V : Type 0} (m : Meaning C) where
  -- nothing is left to do
  pub acted_end : (c : C) (v : V) → Acted {V = V} m [] c (Ok v) c
  acted_end c v = record { ran = end; origins = λ o h. h }

  -- a call answered well, and the rest
  pub acted_next :
      {W : Type 0} (c c₁ c₂ : C) (n : Name) (op : Op) (w : W) (acts : List Act) (r : Result V JournalFault) → Answered m c n op (Ok w) c₁ → Acted m acts c₁ r c₂ →
      Acted m (record { name = n; op = op } ∷ acts) c r c₂
  acted_next c c₁ c₂ n op w acts (Ok v) a rest = record { ran = next a.called rest.ran; origins = λ o h. a.origins o (rest.origins o h) }
  acted_next c c₁ c₂ n op w acts (Err f) a rest =
      let on = rest.ran in
      record { ran = (on.0, next a.called on.1, on.2, a.origins f.card.origin on.3, on.4); origins = λ o h. a.origins o (rest.origins o h) }

  -- a call refused
  pub acted_stop :
      {W : Type 0} (c c₁ : C) (n : Name) (op : Op) (acts : List Act) (f : CardFault) (r : Result V JournalFault) → Answered {V = W} m c n op (Err f) c₁ →
      r ≡ Err (record { card = f; «record» = 0 }) → Acted m (record { name = n; op = op } ∷ acts) c r c₁
  acted_stop c c₁ n op acts f r a e =
      subst (λ (x : Result V JournalFault). Acted m (record { name = n; op = op } ∷ acts) c x c₁) (sym e)
      (record { ran = (record { name = n; op = op }, stop a.called, a.fault.0, a.fault.1, refl); origins = a.origins })

-- a write of the same bytes
pub written_as :
    {C V : Type 0} {m : Meaning C} {c c' : C} {n : Name} {p : ℕ} {x y : Bytes} {r : Result V CardFault} → x ≡ y → Answered m c n (write p x) r c' → Answered m c n (write p y) r c'
written_as {m = m} {c = c} {c' = c'} {n = n} {p = p} {r = r} e a = subst (λ (b : Bytes). Answered m c n (write p b) r c') e a

-- the acts of a file that is as told
pub acted_of : {C V : Type 0} {m : Meaning C} {c c' : C} {r : Result V JournalFault} {f h : Option Bytes} (n : Name) → f ≡ h → Acted m (judge_acts n h) c r c' → Acted m (judge_acts n f) c r c'
acted_of {m = m} {c = c} {c' = c'} {r = r} n e a = subst (λ (x : Option Bytes). Acted m (judge_acts n x) c r c') (sym e) a

-- a read of as many bytes
pub read_as :
    {C V : Type 0} {m : Meaning C} {c c' : C} {n : Name} {p x y : ℕ} {r : Result V CardFault} → x ≡ y → Answered m c n (read p x) r c' → Answered m c n (read p y) r c'
read_as {m = m} {c = c} {c' = c'} {n = n} {p = p} {r = r} e a = subst (λ (k : ℕ). Answered m c n (read p k) r c') e a
