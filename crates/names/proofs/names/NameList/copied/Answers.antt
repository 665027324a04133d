use Rattle.std.proofs.Common.{[], arith}
use Rattle.names.proofs.Texts.{short_name}
use Rattle.names.proofs.names.NameList.copied.Goals as goal

pub from_slice-requires : goal.from_slice-requires
from_slice-requires c =
    (omega arith, short_name (record { ref_ptr = (0, 0); now = [] }) c.args.list.now c.loop-name.name-index c.requires.short (omega arith))
