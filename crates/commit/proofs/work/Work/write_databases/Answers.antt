use Rattle.std.proofs.lemmas.Result.{err_from_is_err_and}
use Rattle.commit.proofs.Turns.{round_none, round_more, round_stop, round_all}
use Rattle.commit.proofs.work.Work.write_databases.Goals as goal

pub loop-database-init : goal.loop-database-init
loop-database-init g c = λ stored base. round_none _ _ c.changed-database-items.result.now _

pub loop-database-preserved : goal.loop-database-preserved
loop-database-preserved g c =
    λ stored base.
    round_more _ _ _ _ c.loop-database.database-index _ _ c.loop-database-test.true (c.loop-database.invariant stored base) (c.in_ok-write_pages.ensures stored)

pub returns-in_err-write_pages : goal.returns-in_err-write_pages
returns-in_err-write_pages g c =
    let p = err_from_is_err_and c.from_residual.result c.from_residual.ensures.1 in
    λ stored base.
    rw (p.1, p.2)
    (round_stop _ _ _ _ c.loop-database.database-index _ _ c.loop-database-test.true (c.loop-database.invariant stored base) _ c.changed-database-items.ensures.is _ (c.in_err-write_pages.ensures stored))

pub returns : goal.returns
returns g c =
    λ stored base.
    round_all _ _ _ _ _ c.changed-database-items.ensures.is c.loop-database.database-index _ c.loop-database-test.false (c.loop-database.invariant stored base)
