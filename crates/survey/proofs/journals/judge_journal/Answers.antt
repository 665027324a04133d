use Rattle.std.proofs.Common.{◌≡◌, ℕ, ◌+◌, Some, sym, ap, ◌∙◌, subst}
use Rattle.refusal.specs.declared.step.Step.TheVariants.{R1}
use Rattle.card.specs.Meaning.{Bytes}
use Rattle.names.specs.Files.{how_many, file_of}
use Rattle.set_files.specs.Files.{Holds}
use Rattle.set_files.specs.Looked.{never}
use Rattle.set_files.proofs.Looks.{looked_judged, looked_then, looked_same, looked_refused, told_more}
use Rattle.set_files.proofs.Played.{told_judged, journal_read}
use Rattle.survey.specs.Finds.{DamagedAt}
use Rattle.survey.specs.Linked.{SuperLook, LookedAs}
use Rattle.survey.proofs.Surveyed.{judged_sound, alone_hot, named_look}
use Rattle.survey.specs.Asks.{AsksJournal}
use Rattle.survey.proofs.Asked.{asked_up}
use Rattle.survey.proofs.Judging.{went_judged, judged_stop, judged_alone, judged_named, absent_names, unsound_names, alone_names, spent_not_sound, damaged_not_sound}
use Rattle.survey.proofs.journals.judge_journal.Goals as goal

pub journal_in-requires : goal.journal_in-requires
journal_in-requires g c =
    let t = told_judged _ _ _ _ _ c.in-Some-Sound.is c.in_ok-judge_numbered.ensures.told in
    let s = judged_sound _ _ _ t.2 c.in-Some-Sound.field-0-is in
    (s.0, s.1, s.3)

pub returns-in_err-judge_numbered-clause-looked : goal.returns-in_err-judge_numbered-clause-looked
returns-in_err-judge_numbered-clause-looked g c =
    looked_refused _ _ _ _ _ _ _ _ c.from_residual.ensures.1 (looked_judged _ _ (file_of c.args.names.now) _ _ _ c.args.d c.journal_of-file.result _ _ c.journal_of-file.ensures c.requires c.in_err-judge_numbered.ensures.went)

pub returns-in-Some-clause-looked : goal.returns-in-Some-clause-looked
returns-in-Some-clause-looked g c =
    looked_then _ _ _ _ _ _ _ _ (looked_judged _ _ (file_of c.args.names.now) _ _ _ c.args.d c.journal_of-file.result _ _ c.journal_of-file.ensures c.requires c.in_ok-judge_numbered.ensures.went) c.look_at_super.ensures.looked

pub returns-in-Some-clause-told : goal.returns-in-Some-clause-told
returns-in-Some-clause-told g c =
    let file = file_of c.args.names.now in
    let d = c.args.d in
    let files = g.C.Card.meaning.holds c.args.card.now in
    let t = told_judged _ _ _ _ _ c.in-Some-Sound.is c.in_ok-judge_numbered.ensures.told in
    let s = judged_sound _ _ _ t.2 c.in-Some-Sound.field-0-is in
    let of = c.journal_in.ensures s.0 _ s.1 s.3 (journal_read c.args.buffer.now _ t.0 s.0 s.1 s.2 t.3) in
    let same = looked_same _ _ _ _ _ _ (looked_judged _ R1 file _ _ _ c.args.d c.journal_of-file.result _ _ c.journal_of-file.ensures c.requires c.in_ok-judge_numbered.ensures.went) in
    let held : files (file (4 + d)) ≡ Some t.0 = subst (λ (k : ℕ). files (file k) ≡ Some t.0) c.journal_of-file.ensures t.1 in
    told_more c.look_at_super.result _ (LookedAs files file d) _ (λ f k. (f ≡ 4 + d) × DamagedAt files file d k) _ never _ never
    (λ x h.
    named_look files file d t.0 s.0 c.in-Some-Sound.sound.count c.in-Some.name.now x held s.1 s.2 (c.in-Some.ensures.told s.0 of) s.3.count
    (subst (λ (h : Holds). SuperLook h file c.in-Some-Sound.sound.count c.in-Some.name.now x) same h))
    (λ f k h. absurd h) (λ f h. h) (λ f h. h) c.look_at_super.ensures.told

pub returns-in-None-super_journal-clause-told : goal.returns-in-None-super_journal-clause-told
returns-in-None-super_journal-clause-told g c =
    let file = file_of c.args.names.now in
    let d = c.args.d in
    let files = g.C.Card.meaning.holds c.args.card.now in
    let t = told_judged _ _ _ _ _ c.in-Some-Sound.is c.in_ok-judge_numbered.ensures.told in
    let s = judged_sound _ _ _ t.2 c.in-Some-Sound.field-0-is in
    let of = c.journal_in.ensures s.0 _ s.1 s.3 (journal_read c.args.buffer.now _ t.0 s.0 s.1 s.2 t.3) in
    let held : files (file (4 + d)) ≡ Some t.0 = subst (λ (k : ℕ). files (file k) ≡ Some t.0) c.journal_of-file.ensures t.1 in
    alone_hot files file d t.0 s.0 _ held s.1 s.2 (c.in-None-super_journal.ensures.told s.0 of) s.3.count

pub returns-in-None-clause-looked : goal.returns-in-None-clause-looked
returns-in-None-clause-looked g c =
    looked_judged _ _ (file_of c.args.names.now) _ _ _ c.args.d c.journal_of-file.result _ _ c.journal_of-file.ensures c.requires c.in_ok-judge_numbered.ensures.went

pub returns-in-Some-Spent-clause-looked : goal.returns-in-Some-Spent-clause-looked
returns-in-Some-Spent-clause-looked g c =
    looked_judged _ _ (file_of c.args.names.now) _ _ _ c.args.d c.journal_of-file.result _ _ c.journal_of-file.ensures c.requires c.in_ok-judge_numbered.ensures.went

pub returns-in-Some-Damaged-clause-looked : goal.returns-in-Some-Damaged-clause-looked
returns-in-Some-Damaged-clause-looked g c =
    looked_judged _ _ (file_of c.args.names.now) _ _ _ c.args.d c.journal_of-file.result _ _ c.journal_of-file.ensures c.requires c.in_ok-judge_numbered.ensures.went

pub returns-in-None-super_journal-clause-looked : goal.returns-in-None-super_journal-clause-looked
returns-in-None-super_journal-clause-looked g c =
    looked_judged _ _ (file_of c.args.names.now) _ _ _ c.args.d c.journal_of-file.result _ _ c.journal_of-file.ensures c.requires c.in_ok-judge_numbered.ensures.went

pub returns-in_err-judge_numbered-clause-asked : goal.returns-in_err-judge_numbered-clause-asked
returns-in_err-judge_numbered-clause-asked g c =
    let file = file_of c.args.names.now in
    let n = how_many c.args.names.now in
    let files = g.C.Card.meaning.holds c.args.card.now in
    asked_up _ (AsksJournal files file n c.args.d) _ _ _ _ c.from_residual.ensures.1
    (judged_stop files file c.args.d _ n _ _ _ (went_judged files file c.args.d _ n _ _ _ _ c.journal_of-file.ensures c.in_err-judge_numbered.ensures.went))

pub returns-in-None-clause-asked : goal.returns-in-None-clause-asked
returns-in-None-clause-asked g c =
    let file = file_of c.args.names.now in
    let n = how_many c.args.names.now in
    let d = c.args.d in
    let files = g.C.Card.meaning.holds c.args.card.now in
    judged_alone files file d _ n _ _ (absent_names files file d _ _ _ _ c.journal_of-file.ensures c.in-None.is c.in_ok-judge_numbered.ensures.told)
    (went_judged files file d _ n _ _ _ _ c.journal_of-file.ensures c.in_ok-judge_numbered.ensures.went)

pub returns-in-Some-Spent-clause-asked : goal.returns-in-Some-Spent-clause-asked
returns-in-Some-Spent-clause-asked g c =
    let file = file_of c.args.names.now in
    let n = how_many c.args.names.now in
    let d = c.args.d in
    let files = g.C.Card.meaning.holds c.args.card.now in
    judged_alone files file d _ n _ _
    (unsound_names files file d _ _ _ _ _ c.journal_of-file.ensures c.in-Some-Spent.is (spent_not_sound _ c.in-Some-Spent.field-0-is) c.in_ok-judge_numbered.ensures.told)
    (went_judged files file d _ n _ _ _ _ c.journal_of-file.ensures c.in_ok-judge_numbered.ensures.went)

pub returns-in-Some-Damaged-clause-asked : goal.returns-in-Some-Damaged-clause-asked
returns-in-Some-Damaged-clause-asked g c =
    let file = file_of c.args.names.now in
    let n = how_many c.args.names.now in
    let d = c.args.d in
    let files = g.C.Card.meaning.holds c.args.card.now in
    judged_alone files file d _ n _ _
    (unsound_names files file d _ _ _ _ _ c.journal_of-file.ensures c.in-Some-Damaged.is (damaged_not_sound _ _ c.in-Some-Damaged.field-0-is) c.in_ok-judge_numbered.ensures.told)
    (went_judged files file d _ n _ _ _ _ c.journal_of-file.ensures c.in_ok-judge_numbered.ensures.went)

pub returns-in-Some-clause-asked : goal.returns-in-Some-clause-asked
returns-in-Some-clause-asked g c =
    let file = file_of c.args.names.now in
    let n = how_many c.args.names.now in
    let d = c.args.d in
    let files = g.C.Card.meaning.holds c.args.card.now in
    let t = told_judged _ _ _ _ _ c.in-Some-Sound.is c.in_ok-judge_numbered.ensures.told in
    let s = judged_sound _ _ _ t.2 c.in-Some-Sound.field-0-is in
    let of = c.journal_in.ensures s.0 _ s.1 s.3 (journal_read c.args.buffer.now _ t.0 s.0 s.1 s.2 t.3) in
    let held : files (file (4 + d)) ≡ Some t.0 = subst (λ (k : ℕ). files (file k) ≡ Some t.0) c.journal_of-file.ensures t.1 in
    judged_named files file d _ n c.in-Some.name.now _ _ _ _ (s.0, s.1, held ∙ ap (λ (x : Bytes). Some x) s.2, sym (c.in-Some.ensures.told s.0 of))
    (went_judged files file d _ n _ _ _ _ c.journal_of-file.ensures c.in_ok-judge_numbered.ensures.went)
    c.look_at_super.ensures.asked

pub returns-in-None-super_journal-clause-asked : goal.returns-in-None-super_journal-clause-asked
returns-in-None-super_journal-clause-asked g c =
    let file = file_of c.args.names.now in
    let n = how_many c.args.names.now in
    let d = c.args.d in
    let files = g.C.Card.meaning.holds c.args.card.now in
    let t = told_judged _ _ _ _ _ c.in-Some-Sound.is c.in_ok-judge_numbered.ensures.told in
    let s = judged_sound _ _ _ t.2 c.in-Some-Sound.field-0-is in
    let of = c.journal_in.ensures s.0 _ s.1 s.3 (journal_read c.args.buffer.now _ t.0 s.0 s.1 s.2 t.3) in
    let held : files (file (4 + d)) ≡ Some t.0 = subst (λ (k : ℕ). files (file k) ≡ Some t.0) c.journal_of-file.ensures t.1 in
    judged_alone files file d _ n _ _ (alone_names files file d t.0 s.0 held s.1 s.2 (c.in-None-super_journal.ensures.told s.0 of))
    (went_judged files file d _ n _ _ _ _ c.journal_of-file.ensures c.in_ok-judge_numbered.ensures.went)
