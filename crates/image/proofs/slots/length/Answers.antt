use Rattle.std.proofs.Common.{rules, ◌≡◌, ◌<◌, ◌≤◌, length, Some, sym, subst}
use Rattle.card.specs.Meaning.{Bytes}
use Rattle.image.specs.Layout.{slot, FirstSlot, named}
use Rattle.image.proofs.Named.{named_parts}
use Rattle.image.proofs.Files.{told_length}
use Rattle.image.proofs.slots.length.Goals as goal

pub map-requires : goal.map-requires
map-requires c = λ k e.
    let found : FirstSlot (named c.args.name.now) c.args.image.now (Some k) = subst (FirstSlot (named c.args.name.now) c.args.image.now) e c.find.ensures in
    let in_image : k < 16 = found.0 in
    let head : 37 ≤ length (slot c.args.image.now k) = (named_parts c.args.name.now (slot c.args.image.now k) found.1).1 in
    let at : (s : Bytes) → s ≡ slot c.args.image.now k → 37 ≤ length s = λ s is. subst (λ (x : Bytes). 37 ≤ length x) (sym is) head in
    search (rules, in_image, head, at)

pub returns-clause-told : goal.returns-clause-told
returns-clause-told c = told_length c.args.image.now c.args.name.now _ c.find.result c.map.result c.find.ensures c.map.ensures.cases (λ k l lt p. search rules)
