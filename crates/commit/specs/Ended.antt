-- How a commit ended on the card.
use Rattle.std.specs.Prelude.{◌≡◌, ℕ, suc, List, [], ◌∷◌, Some, None, Ok, Err, Option, Result}
use Rattle.card.specs.declared.fault.Cause.{Cause}
use Rattle.card.specs.Meaning.{Meaning, Name}
use Rattle.card.specs.Calls.{Called}
use Rattle.card.specs.Runs.{Act}
use Rattle.refusal.specs.declared.fault.SetFault.{SetFault}
use Rattle.steps.specs.Tasks.{Went}
use Rattle.journaling.specs.Plan.{Change, plan, drops}

-- how many of the answers are refusals
unfoldable pub refusals : List (Option Cause) → ℕ
refusals [] = 0
refusals (None ∷ xs) = refusals xs
refusals (Some x ∷ xs) = suc (refusals xs)

module _ {C : Type 0} (m : Meaning C) where
  -- calls made one after the other, whatever each is answered
  pub data Tries : List Act → C → List (Option Cause) → C → Type 0 where
    done : {c : C} → Tries [] c [] c
    tried :
        {a : Act} {acts : List Act} {c c₁ c₂ : C} {x : Option Cause} {xs : List (Option Cause)} → Called m c a.name a.op x c₁ → Tries acts c₁ xs c₂ →
        Tries (a ∷ acts) c (x ∷ xs) c₂

  -- so many of them were refused
  pub record Dropped (acts : List Act) (c : C) (n : ℕ) (c' : C) : Type 0 where
    pub answers : List (Option Cause)
    pub tries : Tries acts c answers c'
    pub left : n ≡ refusals answers
    pub origins : (o : ℕ) → m.origins c' o → m.origins c o

  -- after the last deletion that counts each journal is deleted, and the refused ones are told
  abbrev pub Left : List Act → C → Result ℕ SetFault → C → Type 0
  Left acts here (Ok n) c' = Dropped acts here n c'
  Left acts here (Err f) c' = c' ≡ here

  -- the plan was gone through, and then the journals were deleted; or a task of the plan was refused
  pub record Committed (file : ℕ → Name) (nonce : ℕ) (chs : List Change) (c : C) (r : Result ℕ SetFault) (c' : C) : Type 0 where
    pub here : C
    pub went : Went m (plan file nonce chs) c r here
    pub left : Left (drops file chs) here r c'
