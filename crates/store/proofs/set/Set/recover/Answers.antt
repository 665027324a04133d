use Rattle.std.proofs.Common.{Result, sym, subst}
use Rattle.card.specs.Meaning.{Meaning}
use Rattle.names.specs.Files.{how_many}
use Rattle.refusal.specs.declared.refusals.Refusal.{Refusal}
use Rattle.recovery.specs.declared.report.Recovery.{Recovery}
use Rattle.recovery.specs.Recovered.{Recovered}
use Rattle.store.specs.Reads.{file_of}
use Rattle.store.specs.Recovers.{Recovers}
use Rattle.store.proofs.Sized.{sized}
use Rattle.store.proofs.Standing.{shows}
use Rattle.store.proofs.set.Set.recover.Goals as goal

pub restart-requires : goal.restart-requires
restart-requires g c = sized _ _ _ _ _ _ c.recover-answer.ensures

pub returns-clause-recovers : goal.returns-clause-recovers
returns-clause-recovers g c =
    let m : Meaning g.row.C.Denot = g.C.Card.meaning in
    let s = c.args.self.now in
    let s' = c.restart.new.self in
    let d = c.restart.ensures in
    subst (λ (r : Result Recovery Refusal). Recovers m s r s') (sym d.told)
    (record {
      recovered = subst (λ (x : g.row.C.Denot). Recovered m (file_of s) (how_many s.names) s.card c.recover-answer.result x) (sym d.others.card) c.recover-answer.ensures;
      restarted = d.restarted;
      names = d.others.names;
      begun = d.others.begun;
    })

pub returns-clause-shows : goal.returns-clause-shows
returns-clause-shows g c = shows g.C.Card.meaning c.args.self.now c.restart.new.self c.restart.result (returns-clause-recovers g c)
