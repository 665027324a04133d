-- The lengths that were asked for, up to one that is refused or bad.
use Rattle.std.proofs.Common.{◌≡◌, ℕ, ◌+◌, ◌<◌, Ok, Err, sym, subst}
use Rattle.card.specs.Meaning.{Meaning, Name}
use Rattle.refusal.specs.declared.refusals.Refusal.{Refusal}
use Rattle.refusal.specs.declared.refusals.Refusal.TheVariants.{Damaged, Foreign, Database, Card}
use Rattle.steps.specs.Tasks.{Went, up_to}
use Rattle.set_files.specs.Looked.{stop_of, Says, never, never₂}
use Rattle.steps.proofs.UpTo.{up_more, up_stop}
use Rattle.recovery.specs.Measured.{length_tasks, measure_tasks}

module _ {C : Type 0} (m : Meaning C) (file : ℕ → Name) (n d : ℕ) where
  pub measure_stopped :
      (c c₁ c₂ : C) (e : Refusal) (bad : ℕ → Type 0) → d < n → Went m {V = Unit {0}} (up_to (length_tasks file) d) c (Ok tt) c₁ → Went m {V = Unit {0}} (length_tasks file d) c₁ (stop_of e) c₂ →
      Says e never₂ never (λ i. (i ≡ d) × bad i) → Went m {V = Unit {0}} (measure_tasks file n (Err e)) c (stop_of e) c₂
  measure_stopped c c₁ c₂ (Card f) bad lt p q h = up_stop m (length_tasks file) d n c c₁ c₂ f lt p q
  measure_stopped c c₁ c₂ (Database i) bad lt p q h =
      subst (λ (k : ℕ). Went m {V = Unit {0}} (up_to (length_tasks file) (k + 1)) c (Ok tt) c₂) (sym h.0) (up_more m (length_tasks file) d c c₁ c₂ (Ok tt) p q)
  measure_stopped c c₁ c₂ (Damaged f k) bad lt p q h = absurd h
  measure_stopped c c₁ c₂ (Foreign f) bad lt p q h = absurd h
  measure_stopped c c₁ c₂ _ bad lt p q h = absurd h
