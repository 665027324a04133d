use Rattle.std.proofs.Common.{rules, sym}
use Rattle.std.specs.Fn.{FnOnceReturnsAtMut}
use Rattle.cut_calls.proofs.Calls.{cut_lost, cut_kept, cut_undone}
use Rattle.cut_calls.proofs.cut.Goals as goal

pub returns-then-is_none : goal.returns-then-is_none
returns-then-is_none g c =
    cut_kept (FnOnceReturnsAtMut g.F.FnOnce c.args.work) c.args.halves.now c.work.new.arg2 c.work.new.arg2 c.work.result c.work.result c.args.lost
    c.if-is_none.ensures (search rules)

pub returns-then-undone : goal.returns-then-undone
returns-then-undone g c =
    cut_undone (FnOnceReturnsAtMut g.F.FnOnce c.args.work) c.args.halves.now c.lose.new.halves c.lose.new.halves c.lose.result c.lose.result c.args.lost
    (sym c.if-undone.ensures) c.lose.ensures

pub returns : goal.returns
returns g c =
    cut_lost (FnOnceReturnsAtMut g.F.FnOnce c.args.work) c.args.halves.now c.work-2.new.arg2 c.lose-2.new.halves c.work-2.result c.lose-2.result c.args.lost
    c.if-is_none.ensures (sym c.if-undone.ensures) (search rules) c.lose-2.ensures
