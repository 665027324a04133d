-- The direct card: what it means, and exactly what it answers.
use Rattle.std.specs.Prelude.{◌≡◌, true, Some, Result}
use Rattle.card.specs.declared.fault.CardFault.{CardFault}
use Rattle.card.specs.Meaning.{Meaning, Name}
use Rattle.card.specs.Calls.{Op, cause_of}
use Rattle.image.specs.Layout.{held}
use Rattle.image.specs.Stored.{answer_of, Left}
use Rattle.image.specs.Blamed.{FromOrigin}
use Rattle.direct_card.specs.declared.DirectCard.{DirectCard}

-- the answer is the one that the image asks for, with the work done on the image, or nothing
pub record Direct {V : Type 0} (op : Op) (n : Name) (c : DirectCard) (r : Result V CardFault) (c' : DirectCard) : Type 0 where
  pub answer : cause_of r ≡ answer_of op n c.image.now
  pub left : Left (cause_of r) op n c.image.now c'.image.now
  pub from : FromOrigin c.origin r
  pub origin : c'.origin ≡ c.origin

-- power is always on, and of each file only what it holds now may remain: each change is synced at once
abbrev pub direct : Meaning DirectCard
direct = record { on = λ c. true; holds = λ c n. held c.image.now n; remains = λ c n b. held c.image.now n ≡ Some b; origins = λ c o. o ≡ c.origin }
