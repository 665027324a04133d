-- Rounds through a list of databases: something is done for each, in order.
use Rattle.std.proofs.Common.{◌≡◌, ℕ, ◌+◌, ◌<◌, ◌≤◌, List, [], ◌∷◌, ◌++◌, get_or, length, take, drop, map, Ok, Err, sym, refl, ap, ◌∙◌, subst}
use Rattle.std.proofs.lemmas.List.{append-nil, append_assoc, take_all, take_more, drop_more, take-append-drop}
use Rattle.card.specs.Meaning.{Meaning}
use Rattle.refusal.specs.declared.fault.SetFault.{SetFault}
use Rattle.steps.specs.Tasks.{Task, Went}
use Rattle.steps.proofs.Went.{went_end, went_then, went_stop}
use Rattle.journaling.specs.Plan.{for_each}

pub each_append : {A : Type 0} (f : A → List Task) (xs ys : List A) → for_each f (xs ++ ys) ≡ for_each f xs ++ for_each f ys
unfolding for_each
each_append f [] ys = refl
each_append f (x ∷ xs) ys = ap (λ (ts : List Task). f x ++ ts) (each_append f xs ys) ∙ sym (append_assoc (f x) (for_each f xs) (for_each f ys))

pub each_map : {A B : Type 0} (f : B → List Task) (g : A → B) (xs : List A) → for_each f (map g xs) ≡ for_each (λ x. f (g x)) xs
unfolding for_each
each_map f g [] = refl
each_map f g (x ∷ xs) = ap (λ (ts : List Task). f (g x) ++ ts) (each_map f g xs)

module _ {C : Type 0} (m : Meaning C) (f : ℕ → List Task) (list : List ℕ) (c₀ : C) where
  -- the round has come to place i
  abbrev pub Round : ℕ → C → Type 0
  Round i c = Went m {V = Unit {0}} (for_each f (take i list)) c₀ (Ok tt) c

  pub round_none : Round 0 c₀
  unfolding for_each
  round_none = went_end m c₀ tt

  -- the list is the same as all that is to be done
  pub round_all : (all : List ℕ) → list ≡ all → (i : ℕ) (c : C) → length list ≤ i → Round i c → Went m {V = Unit {0}} (for_each f all) c₀ (Ok tt) c
  round_all all same i c past r = subst (λ (xs : List ℕ). Went m {V = Unit {0}} (for_each f xs) c₀ (Ok tt) c) (take_all i list past ∙ same) r

  module _ (i : ℕ) (c c₁ : C) (lt : i < length list) (r : Round i c) where
    abbrev d : ℕ
    d = get_or list i 0

    pub round_more : Went m {V = Unit {0}} (f d) c (Ok tt) c₁ → Round (i + 1) c₁
    unfolding for_each
    round_more w =
        subst (λ (ts : List Task). Went m {V = Unit {0}} ts c₀ (Ok tt) c₁) (sym (ap (for_each f) (take_more list i 0 lt) ∙ each_append f (take i list) (d ∷ []) ∙ ap (λ (ts : List Task). for_each f (take i list) ++ ts) one))
        (went_then m (for_each f (take i list)) (f d) c₀ c c₁ tt (Ok tt) r w)
      where
        one : for_each f (d ∷ []) ≡ f d
        one = append-nil (f d)

    pub round_stop : (all : List ℕ) → list ≡ all → (x : SetFault) → Went m {V = Unit {0}} (f d) c (Err x) c₁ → Went m {V = Unit {0}} (for_each f all) c₀ (Err x) c₁
    unfolding for_each
    round_stop all same x w =
        subst (λ (ts : List Task). Went m {V = Unit {0}} ts c₀ (Err x) c₁) (sym whole)
        (went_then m (for_each f (take i list)) (f d ++ for_each f (drop (i + 1) list)) c₀ c c₁ tt (Err x) r (went_stop m (f d) (for_each f (drop (i + 1) list)) c c₁ x w))
      where
        whole : for_each f all ≡ for_each f (take i list) ++ (f d ++ for_each f (drop (i + 1) list))
        whole =
            ap (for_each f) (sym same ∙ sym (take-append-drop i list) ∙ ap (λ (xs : List ℕ). take i list ++ xs) (drop_more list i 0 lt))
            ∙ each_append f (take i list) (d ∷ drop (i + 1) list)
