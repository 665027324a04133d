-- The sizes of a set's memory stay 1 to 4,096: a savepoint leaves them, and a write adds one page at most.
use Rattle.std.proofs.Common.{◌≡◌, ℕ, ◌+◌, ◌<◌, ◌≤◌, max, leb, List, [], length, get_or, Some, None, Option, sym, refl, ap, arith}
use native.Mathlib.Decide.{ℕ_discrete}
use Rattle.std.proofs.lemmas.Bool.{eqb-true, leb-true, and_parts}
use Rattle.card.specs.Meaning.{Bytes}
use Rattle.refusal.specs.declared.refusals.Refusal.{Refusal}
use Rattle.pager.specs.declared.memory.Memory.{Memory}
use Rattle.pager.specs.Machine.{written}
use Rattle.pager.specs.View.{view, write_refusal}
use Rattle.pager.proofs.Sizes.{held_long, size_written, size_other}
use Rattle.sizes.specs.Fitting.{Fitting}
use Rattle.store.proofs.Kept.{passed}

-- what the tests of a write leave
pub record Allowed (m : Memory) (d p long : ℕ) : Type 0 where
  pub whole : long ≡ 512
  pub low : 1 ≤ p
  pub high : p ≤ get_or m.sizes d 0 + 1
  pub last : p ≤ 4096

pub allowed : (m : Memory) (d p long : ℕ) → write_refusal m d p long ≡ None → Allowed m d p long
allowed m d p long is =
    let known = passed _ _ _ is in
    let full = passed _ _ _ known.1 in
    let there = passed _ _ _ full.1 in
    let low = and_parts (leb 1 p) _ there.0 in
    let high = and_parts (leb p (get_or m.sizes d 0 + 1)) (leb p 4096) low.1 in
    record { whole = eqb-true long 512 full.0; low = leb-true 1 p low.0; high = leb-true p _ high.0; last = leb-true p 4096 high.1 }

module _ (m n : Memory) (before : Fitting m.sizes) where
  bounded_same : ((i : ℕ) → get_or n.sizes i 0 ≡ get_or m.sizes i 0) → Fitting n.sizes
  bounded_same same =
      λ i lt. (omega (arith, same i, (before i lt).0), omega (arith, same i, (before i lt).1))

  refused_bounded : (e : Refusal) → ((Some e ≡ None → ⊥) → n ≡ m) → Fitting n.sizes
  refused_bounded e kept = bounded_same (λ i. ap (λ (x : Memory). get_or x.sizes i 0) (kept (λ h. let z : ◌≡◌ {A = ℕ} 0 1 = cc in omega arith)))

  -- a step that changes nothing that is held
  pub held_bounded : (o : Option Refusal) → ((o ≡ None → ⊥) → n ≡ m) → (o ≡ None → (files : ℕ → List ℕ) (i : ℕ) → (view files n).held.current i ≡ (view files m).held.current i) → Fitting n.sizes
  held_bounded (Some e) kept done = refused_bounded e kept
  held_bounded None kept done =
      bounded_same (λ i. let none : ℕ → List ℕ = λ k. [] in omega (arith, held_long none n i, held_long none m i, ap length (done refl none i)))

  -- a write
  pub write_bounded :
      (o : Option Refusal) (d p : ℕ) (bytes : Bytes) → o ≡ write_refusal m d p (length bytes) → ((o ≡ None → ⊥) → n ≡ m) →
      (o ≡ None → (files : ℕ → List ℕ) → view files n ≡ written d p bytes (view files m)) → Fitting n.sizes
  write_bounded (Some e) d p bytes is kept done = refused_bounded e kept
  write_bounded None d p bytes is kept done = each
    where
      each : (i : ℕ) → i < 4 → (1 ≤ get_or n.sizes i 0) × (get_or n.sizes i 0 ≤ 4096)
      each i lt = by (ℕ_discrete i d)
        where
          by : Dec (i ≡ d) → (1 ≤ get_or n.sizes i 0) × (get_or n.sizes i 0 ≤ 4096)
          by (no ne) = let e = size_other m n d p bytes (done refl) i ne in (omega (arith, e, (before i lt).0), omega (arith, e, (before i lt).1))
          by (yes same) =
              let ok = allowed m d p (length bytes) (sym is) in
              let e : get_or n.sizes d 0 ≡ max (get_or m.sizes d 0) p = size_written m n d p bytes (done refl) ok.low ok.high ok.whole in
              let at : get_or n.sizes i 0 ≡ get_or n.sizes d 0 = ap (λ (k : ℕ). get_or n.sizes k 0) same in
              let was : get_or m.sizes i 0 ≡ get_or m.sizes d 0 = ap (λ (k : ℕ). get_or m.sizes k 0) same in
              (omega (arith, e, at, was, (before i lt).0), omega (arith, e, at, was, (before i lt).1, ok.last))
