use Rattle.pager.proofs.Members.{given_page, none_given}
use Rattle.pager.proofs.memory.Memory.get.Goals as goal

pub returns-clause-view : goal.returns-clause-view
returns-clause-view c files = given_page files c.args.self.now c.args.database c.args.page c.get.result c.get.ensures

pub returns-clause-absent : goal.returns-clause-absent
returns-clause-absent c past = none_given c.args.self.now c.args.database c.args.page c.get.result past c.get.ensures
