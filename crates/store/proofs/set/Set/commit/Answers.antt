use Rattle.std.proofs.Common.{sym, ap}
use Rattle.card.specs.Meaning.{Meaning}
use Rattle.store.specs.Commits.{nonce_of}
use Rattle.store.proofs.Carried.{carried}
use Rattle.store.proofs.Stored.{commit_stores}
use Rattle.store.proofs.set.Set.commit.Goals as goal

pub returns : goal.returns
returns g c =
    let m : Meaning g.row.C.Denot = g.C.Card.meaning in
    let a = c.in_ok-admit.ensures in
    let d = c.conclude.ensures in
    let commits =
    carried m c.args.self.now c.admit.new.self c.conclude.new.self c.in-Running.nonce c.commit-answer.new.card c.commit-answer.result c.conclude.result c.end-number.result
    c.args.t.number a.refusal c.end-number.ensures (a.asked tt) (sym (ap nonce_of c.in-Running.is)) c.commit-answer.ensures d.told d.concluded d.others.card d.others.names
    d.others.begun in
    record { commits = commits; stores = commit_stores m c.args.self.now c.conclude.result c.conclude.new.self _ commits }
