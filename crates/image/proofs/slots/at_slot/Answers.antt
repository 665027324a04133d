use Rattle.std.proofs.Common.{◌≡◌, length, rules, ap, ◌∙◌, sym}
use Rattle.image.specs.Layout.{slot_size}
use Rattle.image.proofs.Slices.{slot_part, slot_write, length_slot}
use Rattle.image.proofs.slots.at_slot.Goals as goal

pub work-requires : goal.work-requires
work-requires g c = c.requires.callable _ (slot_part c.args.image.now c.args.k _ _ c.bounds-slot.ensures.start c.bounds-slot.ensures.end)

pub returns : goal.returns
returns g c =
    let image = c.args.image.now in
    let k = c.args.k in
    let at = c.bounds-slot.ensures in
    let part = slot_part image k _ _ at.start at.end in
    let new = c.work.new.arg2 in
    let whole : length new ≡ slot_size image = c.work.auto.arg2 ∙ ap length part ∙ length_slot image k c.requires.within in
    (new, rw (sym part) (search rules), whole, slot_write image k _ _ at.start at.end new whole)
