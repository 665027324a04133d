-- The tasks of the indices below a number, done one after the other.
use Rattle.std.proofs.Common.{◌≡◌, ℕ, zero, suc, ◌+◌, ◌<◌, ◌≤◌, ◌⊎◌, List, [], ◌∷◌, ◌++◌, Ok, Err, Result, sym, ap, ◌∙◌, subst, inl, inr, add-one, arith}
use Rattle.std.proofs.lemmas.List.{append-nil}
use Rattle.std.proofs.lemmas.Bool.{cases_lt}
use Rattle.card.specs.Meaning.{Meaning, Name}
use Rattle.card.specs.Runs.{Act}
use Rattle.card.specs.Crash.{Leaves}
use Rattle.refusal.specs.declared.fault.SetFault.{SetFault}
use Rattle.steps.specs.Tasks.{Task, acts, Went, up_to}
use Rattle.steps.proofs.Went.{append_assoc, acts_append, went_then, went_stop, went_up, went_end}
use Rattle.steps.proofs.Held.{leaves_append}

module _ {C : Type 0} (m : Meaning C) (f : ℕ → List Task) where
  pub up_none : (c : C) → Went m {V = Unit {0}} (up_to f 0) c (Ok tt) c
  unfolding up_to
  up_none c = went_end m c tt

  pub up_suc : (k : ℕ) → up_to f (k + 1) ≡ up_to f k ++ f k
  unfolding up_to
  up_suc k = ap (up_to f) (add-one k)

  -- one more
  pub up_more : {V : Type 0} (k : ℕ) (c c₁ c₂ : C) (r : Result V SetFault) → Went m {V = Unit {0}} (up_to f k) c (Ok tt) c₁ → Went m (f k) c₁ r c₂ → Went m (up_to f (k + 1)) c r c₂
  up_more k c c₁ c₂ r p q = subst (λ (ts : List Task). Went m ts c r c₂) (sym (up_suc k)) (went_then m (up_to f k) (f k) c c₁ c₂ tt r p q)

  -- the first ones, and the rest
  pub up_split : (k n : ℕ) → k ≤ n → (rest : List Task) × (up_to f n ≡ up_to f k ++ rest)
  unfolding up_to
  up_split k zero le = ([], ap (up_to f) (let e : 0 ≡ k = omega arith in e) ∙ sym (append-nil (up_to f k)))
  up_split k (suc n) le = by (cases_lt n k) (up_split k n)
    where
      by : (n < k) ⊎ (k ≤ n) → (k ≤ n → (rest : List Task) × (up_to f n ≡ up_to f k ++ rest)) → (rest : List Task) × (up_to f (suc n) ≡ up_to f k ++ rest)
      by (inl lt) old = ([], ap (up_to f) (let e : suc n ≡ k = omega arith in e) ∙ sym (append-nil (up_to f k)))
      by (inr less) old =
          let s = old less in
          (s.0 ++ f n, ap (λ (ts : List Task). ts ++ f n) s.1 ∙ append_assoc m (up_to f k) s.0 (f n))

  -- refused at one of them
  pub up_stop :
      {V W : Type 0} (k n : ℕ) (c c₁ c₂ : C) (e : SetFault) → k < n → Went m {V = Unit {0}} (up_to f k) c (Ok tt) c₁ → Went m {V = V} (f k) c₁ (Err e) c₂ → Went m {V = W} (up_to f n) c (Err e) c₂
  up_stop {V} {W} k n c c₁ c₂ e lt p q =
      let s = up_split (k + 1) n (omega arith) in
      subst (λ (ts : List Task). Went m {V = W} ts c (Err e) c₂) (sym s.1) (went_stop m (up_to f (k + 1)) s.0 c c₂ e (up_more k c c₁ c₂ (Err e) p q))

  -- a file that none of them is on
  pub up_leaves : (w : Name) (n : ℕ) → ((k : ℕ) → k < n → Leaves w (acts (f k))) → Leaves w (acts (up_to f n))
  unfolding up_to
  up_leaves w zero each = tt
  up_leaves w (suc n) each =
      subst (λ (list : List Act). Leaves w list) (sym (acts_append m (up_to f n) (f n)))
      (leaves_append m w (acts (up_to f n)) (acts (f n)) (up_leaves w n (λ k lt. each k (omega arith))) (each n (omega arith)))

module _ {C : Type 0} (m : Meaning C) where
  -- a call answered well, and the rest
  pub went_next :
      {V W : Type 0} (t : Task) (ts : List Task) (c c₁ c₂ : C) (v : V) (r : Result W SetFault) → Went m (t ∷ []) c (Ok v) c₁ → Went m ts c₁ r c₂ → Went m (t ∷ ts) c r c₂
  went_next t ts c c₁ c₂ v r p q = went_then m (t ∷ []) ts c c₁ c₂ v r p q

  -- a part refused, and passed up
  pub went_fail :
      {V W : Type 0} (xs ys : List Task) (c c₁ : C) (f : SetFault) (r : Result W SetFault) → r ≡ Err f → Went m {V = V} xs c (Err f) c₁ → Went m {V = W} (xs ++ ys) c r c₁
  went_fail {V} {W} xs ys c c₁ f r e p = went_up m {V = V} {W = W} (xs ++ ys) c c₁ f r e (went_stop m {V = V} {W = V} xs ys c c₁ f p)
