use Rattle.std.proofs.Common.{ℕ, List, ◌∷◌, sym, ap, ◌∙◌, rules, tests}
use Rattle.std.proofs.lemmas.Iterator.Consumers.{YieldsList-at, YieldsList-from_first, YieldsList-from_filter, YieldsList-end}
use Rattle.std.proofs.lemmas.List.{map-id}
use Rattle.page_map.specs.Listed.{above}
use Rattle.page_map.specs.Walks.{left}
use Rattle.pager.specs.Sound.{map_of}
use Rattle.journaling.proofs.Recorded.{is_later, recorded_later}
use Rattle.journaling.proofs.pages.recorded_pages.Goals as goal

pub returns : goal.returns
returns c =
    let s = map_of c.args.memory.now.maps c.args.database in
    let seen = YieldsList-end
    (YieldsList-at c.into_iter-page-iterator.ensures.into_iter_gives
    (YieldsList-from_filter _ (is_later c.args.size) (YieldsList-from_first (λ (p : ℕ). p) left (above s 0 4096) (ap left c.filter-page-items.ensures.source ∙ c.changed_pages.ensures.is)) c.filter-page-items.ensures.closure (λ x r q k. search (rules, tests))))
    c.loop-page.yielded _ c.loop-page.yielded_by _ _ c.in-None.is c.next.ensures.steps in
    c.loop-page.invariant.1.1 ∙ ap (λ (l : List ℕ). 1 ∷ l) (sym (map-id c.loop-page.yielded) ∙ seen.0) ∙ recorded_later s c.args.size c.requires.some c.requires.small
