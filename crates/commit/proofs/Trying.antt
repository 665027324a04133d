-- Journals deleted one after the other, whatever each is answered.
use Rattle.std.proofs.Common.{◌≡◌, ℕ, suc, ◌+◌, ◌<◌, ◌≤◌, List, [], ◌∷◌, ◌++◌, get_or, length, map, take, true, false, is_err, Some, None, Ok, Err, Option, Result, sym, refl, ap, ◌∙◌, subst, arith}
use Rattle.std.proofs.lemmas.Bool.{false≢true}
use Rattle.std.proofs.lemmas.List.{map-append, take_all, take_more}
use Rattle.card.specs.declared.fault.Cause.{Cause}
use Rattle.card.specs.declared.fault.CardFault.{CardFault}
use Rattle.card.specs.Meaning.{Meaning}
use Rattle.card.specs.Calls.{Called, cause_of}
use Rattle.card.specs.Runs.{Act}
use Rattle.commit.specs.Ended.{Tries, done, tried, refusals, Dropped}

-- one more answer
unfoldable pub one_more : Option Cause → ℕ
one_more None = 0
one_more (Some x) = 1

refusals_more : (xs : List (Option Cause)) (x : Option Cause) → refusals (xs ++ (x ∷ [])) ≡ refusals xs + one_more x
unfolding refusals one_more
refusals_more [] None = refl
refusals_more [] (Some x) = omega arith
refusals_more (None ∷ xs) x = refusals_more xs x
refusals_more (Some y ∷ xs) x = ap suc (refusals_more xs x) ∙ omega arith

module _ {C : Type 0} (m : Meaning C) where
  tries_more : (acts : List Act) (xs : List (Option Cause)) (c c₁ c₂ : C) (a : Act) (x : Option Cause) → Tries m acts c xs c₁ → Called m c₁ a.name a.op x c₂ → Tries m (acts ++ (a ∷ [])) c (xs ++ (x ∷ [])) c₂
  tries_more acts xs c c₁ c₂ a x done w = tried w done
  tries_more acts xs c c₁ c₂ a x (tried {acts = rest} {c₁ = d} {xs = more} v t) w = tried v (tries_more rest more d c₁ c₂ a x t w)

  pub dropped_none : (c : C) → Dropped m [] c 0 c
  unfolding refusals
  dropped_none c = record { answers = []; tries = done; left = refl; origins = λ o h. h }

  module _ (act : ℕ → Act) (list : List ℕ) (c₀ : C) where
    -- the journals before place i are tried, and so many are left
    abbrev pub Trying : ℕ → ℕ → C → Type 0
    Trying i n c = Dropped m (map act (take i list)) c₀ n c

    pub trying_more :
        (i n k : ℕ) (c c₁ : C) (x : Option Cause) → i < length list → Trying i n c → Called m c (act (get_or list i 0)).name (act (get_or list i 0)).op x c₁ → ((o : ℕ) → m.origins c₁ o → m.origins c o) →
        k ≡ n + one_more x → Trying (i + 1) k c₁
    trying_more i n k c c₁ x lt t w from is =
        let a = act (get_or list i 0) in
        subst (λ (acts : List Act). Dropped m acts c₀ k c₁) (sym (ap (map act) (take_more list i 0 lt) ∙ map-append act (take i list) (get_or list i 0 ∷ [])))
        (record {
          answers = t.answers ++ (x ∷ []);
          tries = tries_more (map act (take i list)) t.answers c₀ c c₁ a x t.tries w;
          left = is ∙ ap (λ (i : ℕ). i + one_more x) t.left ∙ sym (refusals_more t.answers x);
          origins = λ o h. t.origins o (from o h);
        })

    pub trying_all : (all : List ℕ) → list ≡ all → (i n : ℕ) (c : C) → length list ≤ i → Trying i n c → Dropped m (map act all) c₀ n c
    trying_all all same i n c past t = subst (λ (xs : List ℕ). Dropped m (map act xs) c₀ n c) (take_all i list past ∙ same) t

-- an answer that is a refusal counts, and another does not
pub ill : (r : Result (Unit {0}) CardFault) → is_err r ≡ true → one_more (cause_of r) ≡ 1
unfolding one_more
ill (Ok v) e = absurd (false≢true e)
ill (Err f) e = refl

pub well : (r : Result (Unit {0}) CardFault) → is_err r ≡ false → one_more (cause_of r) ≡ 0
unfolding one_more
well (Ok v) e = refl
well (Err f) e = absurd (false≢true (sym e))
