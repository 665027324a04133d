use Rattle.std.proofs.Common.{◌<◌, length, Ok, arith}
use Rattle.set_files.proofs.Looks.{passed_up}
use Rattle.steps.proofs.Went.{went_up}
use Rattle.steps.proofs.UpTo.{up_none, up_more, up_stop}
use Rattle.settling.proofs.playback.write_records.Goals as goal

pub loop-index-init : goal.loop-index-init
loop-index-init g c = λ j of. up_none _ _ _

pub returns-in_err-write_record : goal.returns-in_err-write_record
returns-in_err-write_record g c =
    let failed = passed_up _ _ c.from_residual.ensures.1 in
    λ j of.
    let lt : c.loop-index.index < length j.records = omega (arith, of.parts.count) in
    went_up _ {V = Unit {0}} _ _ _ _ _ failed (up_stop _ _ _ _ _ _ _ _ lt (c.loop-index.invariant j of) (c.in_err-write_record.ensures j of))

pub loop-index-preserved : goal.loop-index-preserved
loop-index-preserved g c = λ j of. up_more _ _ _ _ _ _ (Ok tt) (c.loop-index.invariant j of) (c.in_ok-write_record.ensures j of)
