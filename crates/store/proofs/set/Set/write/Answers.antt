use Rattle.refusal.specs.Results.{refused}
use Rattle.store.proofs.Kept.{in_use}
use Rattle.store.proofs.Bounds.{write_bounded}
use Rattle.store.proofs.Grows.{grown_written}
use Rattle.store.proofs.set.Set.write.Goals as goal

pub invariant_of-self-clause-fitting : goal.invariant_of-self-clause-fitting
invariant_of-self-clause-fitting g c =
    let at = c.admit.new.self in
    write_bounded at.memory c.write.new.self at.fitting (refused c.write.result) c.args.database c.args.page c.args.bytes.now c.write.ensures.refusal c.write.ensures.kept
    c.write.ensures.done

pub invariant_of-self-clause-rest : goal.invariant_of-self-clause-rest
invariant_of-self-clause-rest g c =
    let a = c.in_ok-admit.ensures in
    in_use c.args.self.now c.admit.new.self _ c.write.new.self a.refusal (a.asked tt)

pub invariant_of-self-clause-grown : goal.invariant_of-self-clause-grown
invariant_of-self-clause-grown g c =
    let at = c.admit.new.self in
    grown_written at.memory c.write.new.self at.stored.rows at.grown (refused c.write.result) c.args.database c.args.page c.args.bytes.now c.write.ensures.refusal
    c.write.ensures.kept c.write.ensures.done
