use Rattle.std.proofs.Common.{◌↔◌, ◌≤◌, ltb, get_or, rules}
use Rattle.std.specs.List.{EachIndex}
use Rattle.std.specs.Bool.{IsTrue}
use Rattle.std.proofs.lemmas.List.Sorted.{answers_always}
use Rattle.journal_writer.proofs.Ascent.{ascend_sorted, ascend_unsorted}
use Rattle.journal_writer.proofs.filler.ascends.Goals as goal

pub returns-then-is_sorted_by : goal.returns-then-is_sorted_by
returns-then-is_sorted_by c =
    let pages = c.args.pages.now in
    let within : IsTrue c.all.result ↔ EachIndex pages (λ k. get_or pages k 0 ≤ c.args.size) = search rules in
    ascend_sorted c.args.size pages c.is_sorted_by.result c.all.result c.if-is_sorted_by.true c.requires (c.is_sorted_by.ensures.cases ltb (answers_always _ _ _ (λ f a r g h. search rules))) within

pub returns-else-is_sorted_by : goal.returns-else-is_sorted_by
returns-else-is_sorted_by c = ascend_unsorted c.args.size c.args.pages.now c.is_sorted_by.result c.if-is_sorted_by.false (c.is_sorted_by.ensures.cases ltb (answers_always _ _ _ (λ f a r g h. search rules)))
