-- The laws of savepoints. Since the making of a savepoint any steps may be taken that leave it
-- standing; the step back to it then restores what was held at its making.
use Rattle.std.specs.Prelude.{◌≡◌, ℕ, suc, ◌+◌, ◌-◌, ◌<◌, ◌≤◌, map, length, drop}
use Rattle.card.specs.Meaning.{Bytes}
use Rattle.pager.specs.Machine.{Machine, written, pushed, released, back}

-- steps from one machine to another, in which savepoint s stands throughout
pub data Onward (s : ℕ) : Machine → Machine → Type 0 where
  here : {m : Machine} → Onward s m m
  write : {m n : Machine} (d p : ℕ) (bytes : Bytes) → Onward s m n → Onward s m (written d p bytes n)
  push : {m n : Machine} → Onward s m n → Onward s m (pushed n)
  release : {m n : Machine} (t : ℕ) → s < t → t ≤ length n.savepoints → Onward s m n → Onward s m (released t n)
  step_back : {m n : Machine} (t : ℕ) → s ≤ t → t ≤ length n.savepoints → Onward s m n → Onward s m (back t n)

-- the step back to a savepoint leaves contents, sizes and changed sets as they were at its making, and
-- the savepoints as they were then, that one on top
pub record BackLaw : Type 0 where
  pub restores : (m n : Machine) → Onward (suc (length m.savepoints)) (pushed m) n → (back (suc (length m.savepoints)) n).held ≡ m.held
  pub stack : (m n : Machine) → Onward (suc (length m.savepoints)) (pushed m) n → (back (suc (length m.savepoints)) n).savepoints ≡ (pushed m).savepoints

-- a release changes nothing that is held now, and nothing that the savepoints below hold
pub record ReleaseLaw : Type 0 where
  pub keeps : (m : Machine) (s : ℕ) → (released s m).held ≡ m.held
  pub below :
      (m : Machine) (s : ℕ) →
      map (λ s. s.held) (released s m).savepoints ≡ drop (length m.savepoints + 1 - s) (map (λ s. s.held) m.savepoints)
