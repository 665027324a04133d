use Rattle.std.proofs.Common.{◌≡◌, ℕ, ◌<◌, Ok, length, refl, ◌∙◌, subst, arith}
use Rattle.steps.specs.Tasks.{Went, acts, up_to}
use Rattle.steps.proofs.Held.{looked_files}
use Rattle.names.specs.Files.{how_many, file_of}
use Rattle.set_files.specs.Files.{Holds}
use Rattle.set_files.specs.Looked.{never, never₂}
use Rattle.set_files.proofs.Looks.{passed_up, told_up}
use Rattle.steps.proofs.UpTo.{up_none, up_more}
use Rattle.recovery.specs.Measured.{HasPages, Unsized, length_tasks}
use Rattle.recovery.proofs.InPages.{measured_more, all_measured, unsized_at}
use Rattle.recovery.proofs.Measuring.{measure_stopped}
use Rattle.recovery.proofs.lengths.measure.Goals as goal

pub loop-d-init : goal.loop-d-init
loop-d-init g c = (up_none _ (length_tasks (file_of c.args.names.now)) _, refl, λ k lt. absurd (omega arith))

pub returns-in_err-size-clause-went : goal.returns-in_err-size-clause-went
returns-in_err-size-clause-went g c =
    let lt : c.loop-d.d < how_many c.args.names.now = omega arith in
    rw (passed_up _ _ c.from_residual.ensures.1)
    (measure_stopped g.C.Card.meaning (file_of c.args.names.now) (how_many c.args.names.now) c.loop-d.d _ _ _ _ _ lt c.loop-d.invariant.0 c.in_err-size.ensures.went c.in_err-size.ensures.told)

pub returns-in_err-size-clause-told : goal.returns-in_err-size-clause-told
returns-in_err-size-clause-told g c =
    let lt : c.loop-d.d < how_many c.args.names.now = omega arith in
    told_up c.from_residual.result _ _ _ never₂ _ never _ (Unsized (g.C.Card.meaning.holds c.args.card.now) (file_of c.args.names.now) (how_many c.args.names.now)) c.from_residual.ensures.1 (λ f k h. h) (λ f h. h)
    (λ i h. unsized_at _ _ (file_of c.args.names.now) _ c.loop-d.d c.loop-d.kept i c.loop-d.invariant.1 lt c.loop-d.invariant.2 h) c.in_err-size.ensures.told

pub loop-d-preserved : goal.loop-d-preserved
loop-d-preserved g c =
    let m = g.C.Card.meaning in
    let file = file_of c.args.names.now in
    let old = c.loop-d.invariant in
    let went = c.in_ok-size.ensures.went in
    let lt : c.loop-d.d < length c.loop-d.kept = omega arith in (
      up_more m (length_tasks file) c.loop-d.d c.args.card.now c.loop-d.card c.measure_one.new.card (Ok tt) old.0 went,
      looked_files m (acts (length_tasks file c.loop-d.d)) c.loop-d.card c.measure_one.new.card (tt, tt) went.ended ∙ old.1,
      measured_more (m.holds c.args.card.now) file c.loop-d.d c.loop-d.kept c.in_ok-size.field-0 lt old.2 (subst (λ (h : Holds). HasPages (h (file c.loop-d.d)) c.in_ok-size.field-0) old.1 c.in_ok-size.ensures.told),
    )

pub returns-clause-went : goal.returns-clause-went
returns-clause-went g c =
    let all : c.loop-d.d ≡ how_many c.args.names.now = omega arith in
    subst (λ (k : ℕ). Went g.C.Card.meaning {V = Unit {0}} (up_to (length_tasks (file_of c.args.names.now)) k) c.args.card.now (Ok tt) c.loop-d.card) all c.loop-d.invariant.0

pub returns-clause-told : goal.returns-clause-told
returns-clause-told g c =
    let long : length c.loop-d.kept ≡ how_many c.args.names.now = omega arith in
    all_measured _ _ _ c.count.result _ c.count.ensures long (λ k lt. c.loop-d.invariant.2 k (omega arith))
