-- What a recovery does with the small sets is as the examples say.
use Rattle.std.proofs.Common.{refl}
use Rattle.journal.specs.Format.{header, record_bytes, records_bytes, super_bytes, encode}
use Rattle.steps.specs.Tasks.{up_to}
use Rattle.settling.specs.Examples.{Examples}

pub examples : Examples
unfolding header record_bytes records_bytes super_bytes encode up_to
examples = record { both = refl; nothing = refl }
