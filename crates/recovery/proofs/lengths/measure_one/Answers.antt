use Rattle.std.proofs.Common.{◌≡◌, ℕ, None, MatchOption, ap, rules}
use Rattle.steps.proofs.Went.{went_up, went_value}
use Rattle.set_files.specs.Looked.{dropped}
use Rattle.set_files.proofs.Looks.{passed_up}
use Rattle.recovery.specs.Measured.{Pages}
use Rattle.recovery.proofs.InPages.{dropped_pages, told_measured}
use Rattle.recovery.proofs.lengths.measure_one.Goals as goal

pub returns-in_err-length-clause-went : goal.returns-in_err-length-clause-went
returns-in_err-length-clause-went g c = went_up _ _ _ _ _ _ (ap dropped (passed_up _ _ c.from_residual.ensures.1)) c.in_err-length.ensures.went

pub returns-clause-went : goal.returns-clause-went
returns-clause-went g c = rw (dropped_pages _ _ _ c.ok_or.ensures.value) (went_value _ _ _ _ _ _ c.in_ok-length.ensures.went)

pub returns-clause-told : goal.returns-clause-told
returns-clause-told g c =
    let pages : MatchOption c.in_ok-length.length (c.and_then.result ≡ None) (λ x. MatchOption c.and_then.result ((p : ℕ) → Pages x p → ⊥) (Pages x)) = search rules in
    told_measured _ _ c.and_then.result _ _ c.in_ok-length.ensures.told pages c.ok_or.ensures.value
