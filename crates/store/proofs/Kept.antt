-- What a call that passed a test knows: the test of the mode, and one test among others.
use Rattle.std.proofs.Common.{◌≡◌, ℕ, Bool, true, false, cond, Some, None, Option, refl, ap, ◌∙◌, arith}
use Rattle.pager.specs.declared.memory.Memory.{Memory}
use Rattle.store.specs.declared.set.Set.{Set}
use Rattle.store.specs.declared.mode.Mode.{Mode}
use Rattle.store.specs.declared.mode.Mode.TheVariants.{Cold, Ready, Running}
use Rattle.store.specs.declared.mode.Call.TheVariants.{Use}
use Rattle.store.specs.Modes.{says}
use Rattle.store.specs.Between.{runs, Rested}

-- a test that let the call pass
pub passed : {E : Type 0} (b : Bool) (x : Option E) (e : E) → cond b x (Some e) ≡ None → (b ≡ true) × (x ≡ None)
passed true x e h = (refl, h)
passed false x e h = absurd (let z : ◌≡◌ {A = ℕ} 0 1 = cc in omega arith)

-- a transaction is used only while one runs
used_runs : (mode : Mode) (begun number : ℕ) → None ≡ says mode begun (Use number) → runs mode ≡ true
used_runs Cold begun number h = absurd (let z : ◌≡◌ {A = ℕ} 0 1 = cc in omega arith)
used_runs Ready begun number h = absurd (let z : ◌≡◌ {A = ℕ} 0 1 = cc in omega arith)
used_runs (Running n k) begun number h = refl

-- so then the memory may show anything
pub in_use : {C : Type 0} (s at : Set C) (number : ℕ) (memory : Memory) → None ≡ says s.mode s.begun (Use number) → at ≡ s → Rested at.mode memory at.stored.rows
in_use s at number memory passes same =
    λ idle. let runs_now : runs at.mode ≡ true = ap (λ (x : Set _). runs x.mode) same ∙ used_runs s.mode s.begun number passes in
    absurd (let z : ◌≡◌ {A = ℕ} 0 1 = cc in omega arith)
