use Rattle.std.proofs.Common.{◌≡◌, ◌≤◌, length, take, Some, sym, refl, ap, ◌∙◌, arith, length-take}
use Rattle.refusal.specs.declared.step.Step.TheVariants.{R1}
use Rattle.names.specs.Files.{how_many, file_of, super_file}
use Rattle.steps.proofs.Went.{went_up, went_value}
use Rattle.set_files.specs.Files.{Holds}
use Rattle.set_files.proofs.Looks.{looked_super, looked_then, looked_same, looked_failed, told_some, passed_up}
use Rattle.set_files.proofs.Played.{some_same}
use Rattle.survey.specs.Asks.{super_looks}
use Rattle.survey.proofs.Listings.{super_read, super_stop, super_long, super_short}
use Rattle.survey.proofs.listing.read_super.Goals as goal

pub returns-in_err-length_of-clause-looked : goal.returns-in_err-length_of-clause-looked
returns-in_err-length_of-clause-looked g c = looked_failed _ _ _ _ _ _ _ _ c.from_residual.ensures.1 (looked_super _ _ _ _ _ _ _ _ _ _ refl refl tt c.in_err-length_of.ensures.went)

pub returns-then-length-gt-JOURNAL_LIMIT-clause-looked : goal.returns-then-length-gt-JOURNAL_LIMIT-clause-looked
returns-then-length-gt-JOURNAL_LIMIT-clause-looked g c = looked_super _ _ _ _ _ _ _ _ _ _ refl refl tt c.in_ok-length_of.ensures.went

pub returns-in_err-read-clause-looked : goal.returns-in_err-read-clause-looked
returns-in_err-read-clause-looked g c =
    looked_failed _ _ _ _ _ _ _ _ c.from_residual-in_err-read.ensures.1
    (looked_then _ _ _ _ _ _ _ _ (looked_super _ _ _ _ _ _ _ _ _ _ refl refl tt c.in_ok-length_of.ensures.went)
    (looked_super _ _ _ _ _ _ _ _ _ _ c.new.ensures (c.bytes.ensures ∙ c.file-name.ensures) tt c.in_err-read.ensures.went))

pub returns-clause-looked : goal.returns-clause-looked
returns-clause-looked g c =
    looked_then _ _ _ _ _ _ _ _ (looked_super _ _ _ _ _ _ _ _ _ _ refl refl tt c.in_ok-length_of.ensures.went)
    (looked_super _ _ _ _ _ _ _ _ _ _ c.new.ensures (c.bytes.ensures ∙ c.file-name.ensures) tt c.in_ok-read.ensures.went)

pub returns-clause-told : goal.returns-clause-told
returns-clause-told g c =
    let there = told_some _ _ (sym c.unwrap-length.ensures ∙ c.in_ok-length_of.ensures.told) in
    let same = looked_same _ R1 (file_of c.args.names.now) (how_many c.args.names.now) _ _ (looked_super _ _ _ _ _ _ _ _ _ _ refl refl tt c.in_ok-length_of.ensures.went) in
    let held : g.C.Card.meaning.holds c.length_of.new.card c.bytes.result.now ≡ Some there.0 =
    ap (g.C.Card.meaning.holds c.length_of.new.card) (c.bytes.ensures ∙ c.file-name.ensures) ∙ ap (λ (h : Holds). h (file_of c.args.names.now 8)) same ∙ there.1 in
    let short : c.unwrap-length.result ≤ 17724 = omega arith in
    let room : length c.args.buffer.now ≡ 17724 = omega arith in
    (there.0, there.1, super_read there.0 c.args.buffer.now _ c.unwrap-length.result _ _ there.2 short room held (omega arith) c.in_ok-read.ensures.told)

pub returns-in_err-length_of-clause-asked : goal.returns-in_err-length_of-clause-asked
returns-in_err-length_of-clause-asked g c b held = super_stop _ _ b _ _ _ _ (passed_up _ _ c.from_residual.ensures.1) c.in_err-length_of.ensures.went

pub returns-then-length-gt-JOURNAL_LIMIT-clause-asked : goal.returns-then-length-gt-JOURNAL_LIMIT-clause-asked
returns-then-length-gt-JOURNAL_LIMIT-clause-asked g c b held =
    let there = told_some _ _ (sym c.unwrap-length.ensures ∙ c.in_ok-length_of.ensures.told) in
    let e = some_same _ b there.0 held there.1 in
    super_long _ _ b _ _ _ _ (omega (arith, ap length e)) c.in_ok-length_of.ensures.went

pub returns-in_err-read-clause-asked : goal.returns-in_err-read-clause-asked
returns-in_err-read-clause-asked g c b held =
    let there = told_some _ _ (sym c.unwrap-length.ensures ∙ c.in_ok-length_of.ensures.told) in
    let e = some_same _ b there.0 held there.1 in
    let short : c.unwrap-length.result ≤ 17724 = omega arith in
    let room : length c.args.buffer.now ≡ 17724 = omega arith in
    let whole : length b ≤ 17724 = omega (arith, ap length e, there.2) in
    let long : length (take c.unwrap-length.result c.args.buffer.now) ≡ length b = omega (arith, ap length e, there.2, length-take c.unwrap-length.result c.args.buffer.now) in
    let super = super_file c.args.names.now in
    went_up _ (super_looks super b) _ _ _ _ (passed_up _ _ c.from_residual-in_err-read.ensures.1)
    (super_short _ super b _ _ _ _ _ _ _ _ whole c.new.ensures (c.bytes.ensures ∙ c.file-name.ensures) long c.in_ok-length_of.ensures.went c.in_err-read.ensures.went)

pub returns-clause-asked : goal.returns-clause-asked
returns-clause-asked g c b held =
    let there = told_some _ _ (sym c.unwrap-length.ensures ∙ c.in_ok-length_of.ensures.told) in
    let e = some_same _ b there.0 held there.1 in
    let short : c.unwrap-length.result ≤ 17724 = omega arith in
    let room : length c.args.buffer.now ≡ 17724 = omega arith in
    let whole : length b ≤ 17724 = omega (arith, ap length e, there.2) in
    let long : length (take c.unwrap-length.result c.args.buffer.now) ≡ length b = omega (arith, ap length e, there.2, length-take c.unwrap-length.result c.args.buffer.now) in
    let super = super_file c.args.names.now in
    went_value _ (super_looks super b) _ _ _ _
    (super_short _ super b _ _ _ _ _ _ _ _ whole c.new.ensures (c.bytes.ensures ∙ c.file-name.ensures) long c.in_ok-length_of.ensures.went c.in_ok-read.ensures.went)
