-- The looks of a set's journals in their list: one more, all of them, and what a search of them told.
use Rattle.std.proofs.Common.{◌≡◌, ℕ, zero, suc, ◌+◌, ◌-◌, ◌<◌, true, false, List, [], ◌∷◌, ◌++◌, length, drop, set, Some, None, Option, MatchOption, sym, refl, ◌∙◌, subst, arith, below_more}
use Rattle.std.specs.Option.{is_some}
use Rattle.std.proofs.Math.ListN.{get_or-append}
use Rattle.std.proofs.Math.Seq.{get_or-append_right}
use Rattle.std.proofs.lemmas.List.{get_or-set_same, get_or-set_other, get_or-drop}
use Rattle.card.specs.Meaning.{Name}
use Rattle.set_files.specs.Files.{Holds}
use Rattle.survey.specs.declared.look.Look.{Look}
use Rattle.survey.specs.declared.look.Look.TheVariants.{Absent as LookAbsent}
use Rattle.survey.specs.Linked.{LookedAs, AllLooked, look_at}

-- one more journal
pub looked_more :
    (files : Holds) (file : ℕ → Name) (i : ℕ) (looks : List Look) (x : Look) → i < length looks → ((k : ℕ) → k < i → LookedAs files file k (look_at looks k)) → LookedAs files file i x → (k : ℕ) → k < i + 1 →
    LookedAs files file k (look_at (set looks i x) k)
looked_more files file i looks x lt old here =
    below_more (λ (k : ℕ). LookedAs files file k (look_at (set looks i x) k)) i
    (λ k less. subst (LookedAs files file k) (sym (get_or-set_other looks i k x LookAbsent (λ e. omega arith))) (old k less))
    (subst (LookedAs files file i) (sym (get_or-set_same looks i x LookAbsent lt)) here)

-- no journal is told past the set's
blank_at : (k : ℕ) → look_at (LookAbsent ∷ LookAbsent ∷ LookAbsent ∷ LookAbsent ∷ []) k ≡ LookAbsent
blank_at zero = refl
blank_at (suc zero) = refl
blank_at (suc (suc zero)) = refl
blank_at (suc (suc (suc zero))) = refl
blank_at (suc (suc (suc (suc k)))) = refl

-- the journals of the set, and after them none
pub all_looked :
    (files : Holds) (file : ℕ → Name) (n m : ℕ) (looks : List Look) → m ≡ n → length looks ≡ n → ((k : ℕ) → k < n → LookedAs files file k (look_at looks k)) →
    AllLooked files file n (looks ++ drop (m - 0) (LookAbsent ∷ LookAbsent ∷ LookAbsent ∷ LookAbsent ∷ []))
all_looked files file n m looks same long each =
    let rest : List Look = drop (m - 0) (LookAbsent ∷ LookAbsent ∷ LookAbsent ∷ LookAbsent ∷ []) in
    record {
      each = λ k lt. subst (LookedAs files file k) (sym (get_or-append looks rest LookAbsent k (omega arith))) (each k lt);
      rest = λ k le lt.
          get_or-append_right looks rest k LookAbsent (omega arith) ∙ get_or-drop (m - 0) (LookAbsent ∷ LookAbsent ∷ LookAbsent ∷ LookAbsent ∷ []) (k - length looks) LookAbsent
          ∙ blank_at (m - 0 + (k - length looks));
    }

-- what a search for a journal told
pub some_linked : (o : Option ℕ) (N : Type 0) (P : ℕ → Type 0) → is_some o ≡ true → MatchOption o N P → (d : ℕ) × P d
some_linked None N P e h = let z : ◌≡◌ {A = ℕ} 0 1 = cc in absurd (omega arith)
some_linked (Some d) N P e h = (d, h)

pub none_linked : (o : Option ℕ) (N : Type 0) (P : ℕ → Type 0) → is_some o ≡ false → MatchOption o N P → N
none_linked None N P e h = h
none_linked (Some d) N P e h = let z : ◌≡◌ {A = ℕ} 0 1 = cc in absurd (omega arith)
