use Rattle.names.specs.Files.{file_of}
use Rattle.settling.proofs.Restored.{restore_none}
use Rattle.settling.proofs.settling.restore.Goals as goal

pub returns-in-None : goal.returns-in-None
returns-in-None g c = λ s st f. restore_none _ (file_of c.args.names.now) _ _ s _ c.in-None.is f
