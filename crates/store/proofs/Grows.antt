-- The pages of a database past its stored size stay changed: a savepoint leaves them, and a write changes the page
-- that it adds.
use Rattle.std.proofs.Common.{◌≡◌, ℕ, ◌<◌, ◌≤◌, max, cond, eqb, true, List, [], length, get_or, Some, None, Option, sym, refl, ap, ◌∙◌, subst, arith}
use native.Mathlib.Decide.{ℕ_discrete}
use Rattle.std.proofs.lemmas.Bool.{cond-true, cond-false, eq-eqb, ne_eqb}
use Rattle.card.specs.Meaning.{Bytes}
use Rattle.refusal.specs.declared.refusals.Refusal.{Refusal}
use Rattle.page_map.specs.Sets.{PageSet, including}
use Rattle.pager.specs.declared.memory.Memory.{Memory}
use Rattle.pager.specs.Machine.{Held, Machine, put, written}
use Rattle.pager.specs.Sound.{map_of}
use Rattle.pager.specs.View.{view, write_refusal}
use Rattle.pager.proofs.Sizes.{held_long, size_written, size_other}
use Rattle.store.specs.Between.{Grown}
use Rattle.store.proofs.Bounds.{Allowed, allowed}

module _ (m n : Memory) (rows : List ℕ) (before : Grown m rows) where
  none : ℕ → List ℕ
  none k = []

  -- a step that is refused
  grown_kept : (e : Refusal) → ((Some e ≡ None → ⊥) → n ≡ m) → Grown n rows
  grown_kept e kept =
      let same : n ≡ m = kept (λ h. let z : ◌≡◌ {A = ℕ} 0 1 = cc in omega arith) in
      subst (λ (x : Memory). Grown x rows) (sym same) before

  -- a step that changes nothing that is held
  pub grown_held : (o : Option Refusal) → ((o ≡ None → ⊥) → n ≡ m) → (o ≡ None → (files : ℕ → List ℕ) → (view files n).held ≡ (view files m).held) → Grown n rows
  grown_held (Some e) kept done = grown_kept e kept
  grown_held None kept done =
      let same : (view none n).held ≡ (view none m).held = done refl none in
      let sizes : (d : ℕ) → get_or n.sizes d 0 ≡ get_or m.sizes d 0 =
      λ d. omega (arith, held_long none n d, held_long none m d, ap (λ (h : Held). length (h.current d)) same) in
      record {
        size = λ d. omega (arith, before.size d, sizes d);
        past = λ d p above within. ap (λ (h : Held). h.changed d p) same ∙ before.past d p above (omega (arith, sizes d));
      }

  -- which pages are changed after a write
  map_written :
      (d p : ℕ) (bytes : Bytes) → view none n ≡ written d p bytes (view none m) → (k q : ℕ) →
      map_of n.maps k q ≡ cond (eqb k d) (including (map_of m.maps d) p) (map_of m.maps k) q
  unfolding put
  map_written d p bytes done k q = ap (λ (x : Machine). x.held.changed k q) done

  -- a write
  pub grown_written :
      (o : Option Refusal) (d p : ℕ) (bytes : Bytes) → o ≡ write_refusal m d p (length bytes) → ((o ≡ None → ⊥) → n ≡ m) →
      (o ≡ None → (files : ℕ → List ℕ) → view files n ≡ written d p bytes (view files m)) → Grown n rows
  grown_written (Some e) d p bytes is kept done = grown_kept e kept
  grown_written None d p bytes is kept done = record { size = λ k. larger k (ℕ_discrete k d); past = λ k q. changed k q (ℕ_discrete k d) (ℕ_discrete q p) }
    where
      ok : Allowed m d p (length bytes)
      ok = allowed m d p (length bytes) (sym is)

      size : get_or n.sizes d 0 ≡ max (get_or m.sizes d 0) p
      size = size_written m n d p bytes (done refl) ok.low ok.high ok.whole

      sizes : (k : ℕ) → (k ≡ d → ⊥) → get_or n.sizes k 0 ≡ get_or m.sizes k 0
      sizes = size_other m n d p bytes (done refl)

      larger : (k : ℕ) → Dec (k ≡ d) → get_or rows k 0 ≤ get_or n.sizes k 0
      larger k (no ne) = omega (arith, before.size k, sizes k ne)
      larger k (yes same) = subst (λ (i : ℕ). get_or rows i 0 ≤ get_or n.sizes i 0) (sym same) (omega (arith, before.size d, size))

      map : (k q : ℕ) → map_of n.maps k q ≡ cond (eqb k d) (including (map_of m.maps d) p) (map_of m.maps k) q
      map = map_written d p bytes (done refl none)

      here : (q : ℕ) → map_of n.maps d q ≡ including (map_of m.maps d) p q
      here q = map d q ∙ ap (λ (s : PageSet). s q) (cond-true (eqb d d) _ _ (eq-eqb d d refl))

      own : (q : ℕ) → Dec (q ≡ p) → get_or rows d 0 < q → q ≤ get_or n.sizes d 0 → map_of n.maps d q ≡ true
      own q (yes same) above within = here q ∙ cond-true (eqb q p) _ _ (eq-eqb q p same)
      own q (no ne) above within = here q ∙ cond-false (eqb q p) _ _ (ne_eqb q p ne) ∙ before.past d q above (omega (arith, size, ok.high, ne))

      changed : (k q : ℕ) → Dec (k ≡ d) → Dec (q ≡ p) → get_or rows k 0 < q → q ≤ get_or n.sizes k 0 → map_of n.maps k q ≡ true
      changed k q (yes same) page above within =
          let at : (i : ℕ) → Type 0 = λ i. map_of n.maps i q ≡ true in
          subst at (sym same) (own q page (subst (λ (i : ℕ). get_or rows i 0 < q) same above) (subst (λ (i : ℕ). q ≤ get_or n.sizes i 0) same within))
      changed k q (no ne) page above within =
          map k q ∙ ap (λ (s : PageSet). s q) (cond-false (eqb k d) _ _ (ne_eqb k d ne)) ∙ before.past k q above (omega (arith, sizes k ne))
