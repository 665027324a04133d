use Rattle.halves.proofs.Backed.{pair_created, created_found}
use Rattle.halves.proofs.both.Halves.create.Goals as goal

pub returns-in-Ok : goal.returns-in-Ok
returns-in-Ok c =
    let stored = c.in_ok-create.ensures in
    rw c.settle.ensures.current
    (record {
      answer = stored.answer;
      left = pair_created c.args.name.now c.args.self.now.current.now c.args.self.now.synced.now _ _ c.in-Ok.made stored.left c.in-Ok.ensures c.settle.ensures.settled;
      long = c.create.auto.image;
    })

pub returns-in_default : goal.returns-in_default
returns-in_default c = absurd (created_found c.args.name.now c.args.self.now.current.now _ c.in_ok-create.ensures.left c.in_default.ensures.0)
