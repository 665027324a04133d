use Rattle.std.proofs.Common.{◌≡◌, length, take}
use Rattle.names.specs.Names.{held, texts}
use Rattle.names.proofs.names.NameList.copied.Given as goal

abbrev pub invariant-loop-name : goal.invariant-loop-name
invariant-loop-name l = record { so_many : length l.names.items ≡ l.name-index; same : held l.names.items ≡ texts (take l.name-index l.list) }
