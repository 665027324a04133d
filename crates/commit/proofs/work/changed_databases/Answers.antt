use Rattle.std.proofs.Common.{length, sym, ap, ◌∙◌, arith, rules, tests}
use Rattle.std.proofs.lemmas.Iterator.{YieldsList-from_range}
use Rattle.std.proofs.lemmas.Iterator.Consumers.{YieldsList-at, YieldsList-from_filter, YieldsList-turn, YieldsList-end}
use Rattle.std.proofs.lemmas.List.{map-id}
use Rattle.pager.specs.Sound.{map_of}
use Rattle.journaling.specs.Changes.{is_changed, changed_list}
use Rattle.commit.proofs.Listed.{list_few}
use Rattle.commit.proofs.work.changed_databases.Goals as goal

pub push-requires : goal.push-requires
unfolding changed_list
push-requires c =
    let turn = YieldsList-turn
    (YieldsList-at c.into_iter-database-iterator.ensures.into_iter_gives
    (YieldsList-from_filter _ (is_changed (map_of c.args.memory.now.maps)) (YieldsList-from_range 0 c.args.count c.args.count c.filter-database-items.ensures.source (omega arith)) c.filter-database-items.ensures.closure (λ x r q k. search (rules, tests))))
    c.loop-database.yielded _ c.loop-database.yielded_by _ _ _ c.in-Some.is c.next.ensures.steps in
    omega (arith, turn.0, list_few (map_of c.args.memory.now.maps) c.args.count, c.requires, ap length c.loop-database.invariant.2)

pub returns : goal.returns
unfolding changed_list
returns c =
    let seen = YieldsList-end
    (YieldsList-at c.into_iter-database-iterator.ensures.into_iter_gives
    (YieldsList-from_filter _ (is_changed (map_of c.args.memory.now.maps)) (YieldsList-from_range 0 c.args.count c.args.count c.filter-database-items.ensures.source (omega arith)) c.filter-database-items.ensures.closure (λ x r q k. search (rules, tests))))
    c.loop-database.yielded _ c.loop-database.yielded_by _ _ c.in-None.is c.next.ensures.steps in
    c.loop-database.invariant.2 ∙ sym (map-id c.loop-database.yielded) ∙ seen.0
