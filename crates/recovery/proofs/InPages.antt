-- Lengths told in pages.
use Rattle.std.proofs.Common.{◌≡◌, ℕ, zero, suc, ◌+◌, ◌-◌, ◌<◌, List, [], ◌∷◌, ◌++◌, length, get_or, drop, set, Some, None, Ok, Option, MatchOption, Result, sym, refl, ap, ◌∙◌, subst, arith, below_more}
use Rattle.std.specs.Option.{ok_or}
use Rattle.std.proofs.Math.ListN.{get_or-append}
use Rattle.std.proofs.Math.Seq.{get_or-append_right}
use Rattle.std.proofs.lemmas.List.{get_or-set_same, get_or-set_other, get_or-drop}
use Rattle.card.specs.Meaning.{Bytes, Name}
use Rattle.card.specs.Calls.{length_told}
use Rattle.refusal.specs.declared.refusals.Refusal.{Refusal}
use Rattle.refusal.specs.declared.refusals.Refusal.TheVariants.{Database}
use Rattle.set_files.specs.Files.{Holds}
use Rattle.set_files.specs.Looked.{Told, dropped, never, never₂}
use Rattle.set_files.proofs.Looks.{told_some}
use Rattle.recovery.specs.Measured.{Pages, HasPages, NoPages, Sizes, Unsized}

-- how many pages a file has, of the length that is told
told_pages : (f : Option Bytes) (bytes p : ℕ) → Some bytes ≡ length_told f → Pages bytes p → HasPages f p
told_pages f bytes p e h =
    let t = told_some f bytes e in
    (t.0, t.1, subst (λ (x : ℕ). Pages x p) t.2 h)

-- a file whose length is no number of pages
told_none : (f : Option Bytes) (o : Option ℕ) → o ≡ length_told f → ((bytes p : ℕ) → o ≡ Some bytes → Pages bytes p → ⊥) → NoPages f
told_none f o e none p h = none (length h.0) p (e ∙ ap length_told h.1) h.2

-- how many pages a database has, as it is told
pub dropped_pages : (o : Option ℕ) (d : ℕ) (r : Result ℕ Refusal) → r ≡ ok_or o (Database d) → dropped r ≡ Ok tt
dropped_pages None d r is = ap dropped is
dropped_pages (Some p) d r is = ap dropped is

pub told_measured :
    (f : Option Bytes) (n o : Option ℕ) (d : ℕ) (r : Result ℕ Refusal) → n ≡ length_told f → MatchOption n (o ≡ None) (λ x. MatchOption o ((p : ℕ) → Pages x p → ⊥) (Pages x)) → r ≡ ok_or o (Database d) →
    Told r (HasPages f) never₂ never (λ i. (i ≡ d) × NoPages f)
told_measured f n o d r e h is = subst (λ (x : Result ℕ Refusal). Told x (HasPages f) never₂ never (λ i. (i ≡ d) × NoPages f)) (sym is) (by n o e h)
  where
    by :
        (n o : Option ℕ) → n ≡ length_told f → MatchOption n (o ≡ None) (λ x. MatchOption o ((p : ℕ) → Pages x p → ⊥) (Pages x)) →
        Told (ok_or o (Database d)) (HasPages f) never₂ never (λ i. (i ≡ d) × NoPages f)
    by None None e h = (refl, told_none f None e (λ bytes p q w. let z : ◌≡◌ {A = ℕ} 0 1 = cc in omega arith))
    by None (Some p) e h = let z : ◌≡◌ {A = ℕ} 0 1 = cc in absurd (omega arith)
    by (Some b) None e h = (refl, told_none f (Some b) e (λ bytes p q w. h p (subst (λ (x : ℕ). Pages x p) (let same : bytes ≡ b = cc in same) w)))
    by (Some b) (Some p) e h = told_pages f b p e h

-- one more database
pub measured_more :
    (files : Holds) (file : ℕ → Name) (i : ℕ) (sizes : List ℕ) (p : ℕ) → i < length sizes → ((k : ℕ) → k < i → HasPages (files (file k)) (get_or sizes k 0)) → HasPages (files (file i)) p → (k : ℕ) → k < i + 1 →
    HasPages (files (file k)) (get_or (set sizes i p) k 0)
measured_more files file i sizes p lt old here =
    below_more (λ (k : ℕ). HasPages (files (file k)) (get_or (set sizes i p) k 0)) i
    (λ k less. subst (HasPages (files (file k))) (sym (get_or-set_other sizes i k p 0 (λ e. omega arith))) (old k less))
    (subst (HasPages (files (file i))) (sym (get_or-set_same sizes i p 0 lt)) here)

one_at : (k : ℕ) → k < 4 → get_or {A = ℕ} (1 ∷ 1 ∷ 1 ∷ 1 ∷ []) k 0 ≡ 1
one_at zero lt = refl
one_at (suc zero) lt = refl
one_at (suc (suc zero)) lt = refl
one_at (suc (suc (suc zero))) lt = refl
one_at (suc (suc (suc (suc k)))) lt = absurd (omega arith)

-- the databases of the set, and 1 after them
pub all_measured :
    (files : Holds) (file : ℕ → Name) (n m : ℕ) (sizes : List ℕ) → m ≡ n → length sizes ≡ n → ((k : ℕ) → k < n → HasPages (files (file k)) (get_or sizes k 0)) →
    Sizes files file n (sizes ++ drop (m - 0) (1 ∷ 1 ∷ 1 ∷ 1 ∷ []))
all_measured files file n m sizes same long each =
    let rest : List ℕ = drop (m - 0) (1 ∷ 1 ∷ 1 ∷ 1 ∷ []) in
    record {
      each = λ k lt. subst (HasPages (files (file k))) (sym (get_or-append sizes rest 0 k (omega arith))) (each k lt);
      rest = λ k le lt.
          get_or-append_right sizes rest k 0 (omega arith) ∙ get_or-drop (m - 0) (1 ∷ 1 ∷ 1 ∷ 1 ∷ []) (k - length sizes) 0 ∙ one_at (m - 0 + (k - length sizes)) (omega arith);
    }

pub unsized_at :
    (files now : Holds) (file : ℕ → Name) (n i : ℕ) (sizes : List ℕ) (k : ℕ) → now ≡ files → i < n → ((j : ℕ) → j < i → HasPages (files (file j)) (get_or sizes j 0)) → (k ≡ i) × NoPages (now (file i)) → Unsized files file n k
unsized_at files now file n i sizes k same lt m h =
    let e = h.0 in
    record {
      within = omega arith;
      bad = subst (λ (x : ℕ). NoPages (files (file x))) (sym e) (subst (λ (f : Holds). NoPages (f (file i))) same h.1);
      before = λ j less. (get_or sizes j 0, m j (omega arith));
    }
