-- What a card means. It has three parts: whether power is on, what each present file holds now,
-- and which contents of each file may remain if power fails. Beside them stand the origins that
-- the faults of the card and of the cards below it may carry.
use Rattle.std.specs.Prelude.{◌≡◌, ℕ, Bool, true, List, Some, None, Option}

abbrev pub Name : Type 0
Name = List ℕ

abbrev pub Bytes : Type 0
Bytes = List ℕ

pub record Meaning (C : Type 0) : Type 1 where
  pub on : C → Bool
  pub holds : C → Name → Option Bytes
  pub remains : C → Name → Bytes → Type 0
  pub origins : C → ℕ → Type 0

-- the two laws of a card's meaning: what a file holds now may remain, and of an absent file only absence
pub record Lawful {C : Type 0} (m : Meaning C) : Type 0 where
  pub kept : (c : C) (n : Name) (b : Bytes) → m.holds c n ≡ Some b → m.remains c n b
  pub gone : (c : C) (n : Name) (b : Bytes) → m.holds c n ≡ None → m.remains c n b → ⊥

-- a file may be this after a power failure: absent only if it is absent now
abbrev pub May : {C : Type 0} → Meaning C → C → Name → Option Bytes → Type 0
May m c n None = m.holds c n ≡ None
May m c n (Some b) = m.remains c n b

-- the file n was left alone: it holds what it held, and no more may remain of it than before
pub record Untouched {C : Type 0} (m : Meaning C) (c : C) (n : Name) (c' : C) : Type 0 where
  pub holds : m.holds c' n ≡ m.holds c n
  pub remains : (b : Bytes) → m.remains c' n b → m.remains c n b

-- the card means what it meant
pub record Same {C : Type 0} (m : Meaning C) (c c' : C) : Type 0 where
  pub on : m.on c' ≡ m.on c
  pub files : (n : Name) → Untouched m c n c'

-- power was switched on, or was on already, and nothing else changed
pub record Switched {C : Type 0} (m : Meaning C) (c c' : C) : Type 0 where
  pub on : m.on c' ≡ true
  pub files : (n : Name) → Untouched m c n c'
  pub origins : (o : ℕ) → m.origins c' o → m.origins c o
