use Rattle.few.proofs.Sets.{set_among}
use Rattle.few.proofs.Few.set.Goals as goal

pub returns : goal.returns
returns g c = set_among _ _ _ _ _ c.self.view_is c.requires
