use Rattle.std.proofs.Common.{◌≡◌, ◌+◌, ◌-◌, length, take, drop, refl, ap₂, arith}
use Rattle.std.proofs.lemmas.List.{length-take, length-drop}
use Rattle.card.specs.Calls.{read}
use Rattle.steps.proofs.Went.{went_as}
use Rattle.journaling.proofs.Copies.{copied_page}
use Rattle.journaling.proofs.originals.read_original.Goals as goal

pub returns : goal.returns
returns g c =
    let start = c.record_place-start.result + 4 in
    let k = start + 512 - start in
    let buf = c.args.buffer.now in
    let old = take k (drop start buf) in
    let long : length old ≡ 512 = omega (arith, length-take k (drop start buf), length-drop start buf, c.told-buffer, c.record_place-start.ensures, c.requires.index) in
    record {
      went = went_as _ _ _ _ _ _ _ _ _ _ c.of_record-site.ensures refl (ap₂ read c.page_place.ensures long) c.read.ensures.went;
      copied = copied_page _ c.args.card.now c.read.new.card _ c.args.name.now c.args.page c.args.index start k buf old c.read.new.buffer c.read.result (omega (arith, c.record_place-start.ensures)) (omega arith) refl long (rw c.page_place.ensures at c.read.ensures.went) (rw c.page_place.ensures at c.read.ensures.told);
    }
