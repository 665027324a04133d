use Rattle.std.proofs.Common.{ap}
use Rattle.pager.specs.Machine.{Machine}
use Rattle.refusal.specs.Results.{refused}
use Rattle.store.proofs.Kept.{in_use}
use Rattle.store.proofs.Bounds.{held_bounded}
use Rattle.store.proofs.Grows.{grown_held}
use Rattle.store.proofs.set.Set.savepoint.Goals as goal

pub invariant_of-self-clause-fitting : goal.invariant_of-self-clause-fitting
invariant_of-self-clause-fitting g c =
    let at = c.admit.new.self in
    held_bounded at.memory c.push.new.self at.fitting (refused c.push.result) c.push.ensures.kept
    (λ ok files i. ap (λ (x : Machine). x.held.current i) (c.push.ensures.done ok files))

pub invariant_of-self-clause-rest : goal.invariant_of-self-clause-rest
invariant_of-self-clause-rest g c =
    let a = c.in_ok-admit.ensures in
    in_use c.args.self.now c.admit.new.self _ c.push.new.self a.refusal (a.asked tt)

pub invariant_of-self-clause-grown : goal.invariant_of-self-clause-grown
invariant_of-self-clause-grown g c =
    let at = c.admit.new.self in
    grown_held at.memory c.push.new.self at.stored.rows at.grown (refused c.push.result) c.push.ensures.kept
    (λ ok files. ap (λ (x : Machine). x.held) (c.push.ensures.done ok files))
