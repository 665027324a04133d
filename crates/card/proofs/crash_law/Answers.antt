use Rattle.card.proofs.Every.{crash_law_lem}
use Rattle.card.proofs.Cases.{examples}
use Rattle.card.proofs.crash_law.Goals as goal

pub returns : goal.returns
returns g c = record { examples = examples; lawful = g.met.C.Card.lawful; law = crash_law_lem g.met.C.Card.lawful; powered = c.powered.ensures }
