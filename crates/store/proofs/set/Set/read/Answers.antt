use Rattle.std.proofs.Common.{ℕ, List, length, Ok, rules}
use Rattle.pager.specs.Changed.{look}
use Rattle.pager.specs.View.{fields}
use Rattle.store.specs.Reads.{read_refusal, Reads}
use Rattle.store.proofs.Shown.{page_small, shown}
use Rattle.store.proofs.set.Set.read.Goals as goal

pub read_page-answer-requires-clause-last : goal.read_page-answer-requires-clause-last
read_page-answer-requires-clause-last g c =
    let at = c.admit.new.self in
    page_small at.memory c.args.database c.args.page (length c.args.buffer.now) c.in_ok-check_page.ensures at.fitting

pub returns-in-Some-clause-shows : goal.returns-in-Some-clause-shows
returns-in-Some-clause-shows g c =
    let self = c.args.self.now in
    let old : List ℕ = c.args.buffer.now in
    let d = c.args.database in
    let p = c.args.page in
    let reads : Reads g.C.Card.meaning d p self old (Ok tt) c.admit.new.self c.copy_from_slice.new.self (read_refusal self.mode self.begun self.memory d p (length old)) (look (fields self.memory).changed d p) =
    search rules in
    shown g.C.Card.meaning d p self old (Ok tt) c.admit.new.self c.copy_from_slice.new.self reads

pub returns-clause-shows : goal.returns-clause-shows
returns-clause-shows g c =
    let self = c.args.self.now in
    let old : List ℕ = c.args.buffer.now in
    let d = c.args.database in
    let p = c.args.page in
    let reads : Reads g.C.Card.meaning d p self old c.settle.result c.settle.new.self c.read_page-answer.new.buffer (read_refusal self.mode self.begun self.memory d p (length old)) (look (fields self.memory).changed d p) =
    search rules in
    shown g.C.Card.meaning d p self old c.settle.result c.settle.new.self c.read_page-answer.new.buffer reads
