use Rattle.std.proofs.Common.{◌≡◌, ℕ, None, sym, ◌∙◌, subst, arith, below_more}
use Rattle.names.specs.Files.{how_many, file_of}
use Rattle.set_files.specs.Files.{Holds, Present}
use Rattle.set_files.proofs.Looks.{looked_end, looked_then, looked_same, looked_database, looked_up, told_some, told_absent, passed_up, absent_refused}
use Rattle.survey.specs.Asks.{Absent, AsksDatabase}
use Rattle.survey.proofs.Asked.{gone_none, gone_more, gone_ends, gone_all, went_is, asked_up, not_good, not_absent}
use Rattle.survey.proofs.presence.all_present.Goals as goal

pub loop-d-init : goal.loop-d-init
loop-d-init g c = (looked_end _ _ _ _ _, gone_none _ (AsksDatabase (g.C.Card.meaning.holds c.args.card.now) (file_of c.args.names.now)) _, λ k lt. absurd (omega arith))

pub returns-in_err-length_of-clause-looked : goal.returns-in_err-length_of-clause-looked
returns-in_err-length_of-clause-looked g c =
    looked_up _ _ _ _ _ _ _ _ _ c.from_residual.ensures.1 c.loop-d.invariant.0 (looked_database _ _ _ (how_many c.args.names.now) _ _ c.loop-d.d _ _ tt (omega arith) c.in_err-length_of.ensures.went)

pub returns-in_err-ok_or-clause-looked : goal.returns-in_err-ok_or-clause-looked
returns-in_err-ok_or-clause-looked g c =
    looked_up _ _ _ _ _ _ _ _ _ (absent_refused _ _ _ _ c.in_err-ok_or.ensures.value c.from_residual-in_err-ok_or.ensures.1).1 c.loop-d.invariant.0
    (looked_database _ _ _ (how_many c.args.names.now) _ _ c.loop-d.d _ _ tt (omega arith) c.in_ok-length_of.ensures.went)

pub returns-in_err-ok_or-clause-told : goal.returns-in_err-ok_or-clause-told
returns-in_err-ok_or-clause-told g c =
    let same = looked_same _ _ _ _ _ _ c.loop-d.invariant.0 in
    let p = absent_refused _ _ _ _ c.in_err-ok_or.ensures.value c.from_residual-in_err-ok_or.ensures.1 in
    let gone = told_absent _ _ p.0 c.in_ok-length_of.ensures.told in
    rw (passed_up _ _ p.1)
    (record { within = omega arith; absent = subst (λ (h : Holds). h (file_of c.args.names.now c.loop-d.d) ≡ None) same gone; before = c.loop-d.invariant.2 })

pub returns-in_err-length_of-clause-asked : goal.returns-in_err-length_of-clause-asked
returns-in_err-length_of-clause-asked g c =
    let file = file_of c.args.names.now in
    let files = g.C.Card.meaning.holds c.args.card.now in
    asked_up _ _ _ _ _ _ c.from_residual.ensures.1
    (gone_ends _ (AsksDatabase files file) (Absent files file) (how_many c.args.names.now) c.loop-d.d _ _ _ _ (omega arith) (λ i lt. not_absent (files (file i)) (c.loop-d.invariant.2 i lt)) (not_good _ _) c.loop-d.invariant.1
    (went_is _ _ _ _ _ c.in_err-length_of.ensures.went))

pub returns-in_err-ok_or-clause-asked : goal.returns-in_err-ok_or-clause-asked
returns-in_err-ok_or-clause-asked g c =
    let file = file_of c.args.names.now in
    let files = g.C.Card.meaning.holds c.args.card.now in
    let same = looked_same _ _ _ _ _ _ c.loop-d.invariant.0 in
    let p = absent_refused _ _ _ _ c.in_err-ok_or.ensures.value c.from_residual-in_err-ok_or.ensures.1 in
    let gone = told_absent _ _ p.0 c.in_ok-length_of.ensures.told in
    asked_up _ _ _ _ _ _ p.1
    (gone_ends _ (AsksDatabase files file) (Absent files file) (how_many c.args.names.now) c.loop-d.d _ _ _ _ (omega arith) (λ i lt. not_absent (files (file i)) (c.loop-d.invariant.2 i lt))
    (λ e. subst (λ (h : Holds). h (file c.loop-d.d) ≡ None) same gone) c.loop-d.invariant.1 (went_is _ _ _ _ _ c.in_ok-length_of.ensures.went))

pub returns-clause-asked : goal.returns-clause-asked
returns-clause-asked g c =
    let file = file_of c.args.names.now in
    let files = g.C.Card.meaning.holds c.args.card.now in
    gone_all _ (AsksDatabase files file) (Absent files file) (how_many c.args.names.now) c.loop-d.d _ _ (omega arith) (λ i lt. not_absent (files (file i)) (c.loop-d.invariant.2 i (omega arith))) c.loop-d.invariant.1

pub loop-d-preserved : goal.loop-d-preserved
loop-d-preserved g c =
    let file = file_of c.args.names.now in
    let same = looked_same _ _ _ _ _ _ c.loop-d.invariant.0 in
    let there = told_some _ _ (sym c.in_ok-ok_or.ensures.ok_part ∙ c.in_ok-length_of.ensures.told) in (
      looked_then _ _ _ _ _ _ _ _ c.loop-d.invariant.0 (looked_database _ _ _ (how_many c.args.names.now) _ _ c.loop-d.d _ _ tt (omega arith) c.in_ok-length_of.ensures.went),
      gone_more _ (AsksDatabase (g.C.Card.meaning.holds c.args.card.now) file) c.loop-d.d _ _ _ c.loop-d.invariant.1 (went_is _ _ _ _ _ c.in_ok-length_of.ensures.went),
      below_more (λ (k : ℕ). Present (g.C.Card.meaning.holds c.args.card.now (file k))) _ c.loop-d.invariant.2 (subst (λ (h : Holds). Present (h (file c.loop-d.d))) same (there.0, there.1)),
    )
