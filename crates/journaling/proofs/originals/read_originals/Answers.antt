use Rattle.std.proofs.Common.{arith}
use Rattle.std.proofs.lemmas.Result.{err_from_is_err_and}
use Rattle.journaling.proofs.Readings.{reading_none, reading_more, reading_stopped}
use Rattle.journaling.proofs.originals.read_originals.Goals as goal

pub loop-index-init : goal.loop-index-init
loop-index-init g c = reading_none _ _ _ _ _ _ c.told-buffer

pub loop-index-preserved : goal.loop-index-preserved
loop-index-preserved g c =
    reading_more _ _ _ _ _ c.loop-index.index _ _ _ _ c.loop-index.invariant c.loop-index-test.true (omega (arith, c.loop-index-test.true, c.requires.few)) c.in_ok-read_original.ensures.went c.in_ok-read_original.ensures.copied

pub returns-in_err-read_original-clause-went : goal.returns-in_err-read_original-clause-went
returns-in_err-read_original-clause-went g c =
    let p = err_from_is_err_and c.from_residual.result c.from_residual.ensures.1 in
    rw (p.1, p.2)
    (reading_stopped _ _ _ _ _ c.loop-index.index _ _ _ c.read_original.new.buffer c.loop-index.invariant c.loop-index-test.true (omega (arith, c.loop-index-test.true, c.requires.few)) _ c.in_err-read_original.ensures.went)
