use Rattle.std.proofs.Common.{◌≡◌, ℕ, true, false, rules}
use Rattle.std.proofs.lemmas.Iterator.{first_from_Range}
use Rattle.image.specs.Layout.{free, slot}
use Rattle.image.proofs.First.{first_slot}
use Rattle.image.proofs.slots.find_free.Goals as goal

pub returns : goal.returns
returns c =
    first_slot (free) c.args.image.now c.find.result
    (first_from_Range _ _ _ _ (λ (k : ℕ). free (slot c.args.image.now k) ≡ true) (λ (k : ℕ). free (slot c.args.image.now k) ≡ false) c.find.ensures.ran (λ k q e. search rules) (λ k q e. search rules))
