use Rattle.std.proofs.Common.{length, ap, arith}
use Rattle.page_map.proofs.Walks.{none_left, end_left, step_left}
use Rattle.page_map.proofs.pages.PagesIterator.next.Goals as goal

pub returns-in_err-self-clause-steps : goal.returns-in_err-self-clause-steps
returns-in_err-self-clause-steps c = rw c.from_residual.ensures (let n = none_left c.args.self.now c.in_err-self.was in (n, n))

pub returns-in_err-self-2-clause-steps : goal.returns-in_err-self-2-clause-steps
returns-in_err-self-2-clause-steps c =
    rw c.from_residual-in_err-self-2.ensures (let n = end_left c.args.self.now c.in_ok-self.field-0 c.in_ok-self.was c.in_err-self-2.ensures.next in (n, n))

pub returns-clause-steps : goal.returns-clause-steps
returns-clause-steps c =
    step_left c.args.self.now c.in_ok-self.field-0 c.in_ok-self.was c.in_ok-self-2.field-0 c.in_ok-self-2.ensures.next c.in_ok-self-2.ensures.within

pub returns-clause-goes : goal.returns-clause-goes
returns-clause-goes c =
    let step = step_left c.args.self.now c.in_ok-self.field-0 c.in_ok-self.was c.in_ok-self-2.field-0 c.in_ok-self-2.ensures.next c.in_ok-self-2.ensures.within in
    record { on = λ _. (tt, tt, omega (arith, ap length step)); keeps = tt; rests = λ _. tt }
