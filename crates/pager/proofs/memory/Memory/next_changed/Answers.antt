use Rattle.std.proofs.Common.{arith}
use Rattle.pager.specs.Sound.{map_of}
use Rattle.page_map.proofs.Visits.{visit_law}
use Rattle.pager.proofs.memory.Memory.next_changed.Goals as goal

pub returns-in_err-known-clause-visit : goal.returns-in_err-known-clause-visit
returns-in_err-known-clause-visit c = visit_law (map_of c.args.self.now.maps c.args.database)

pub returns : goal.returns
unfolding map_of
returns c = record { next = (omega arith, c.next_above.ensures.next); visit = visit_law (map_of c.args.self.now.maps c.args.database) }
