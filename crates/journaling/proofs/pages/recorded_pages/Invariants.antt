use Rattle.std.proofs.Common.{◌≡◌, ◌∷◌}
use Rattle.journaling.proofs.pages.recorded_pages.Given as goal

abbrev pub invariant-loop-page : goal.invariant-loop-page
invariant-loop-page l =
    goal.iterator-loop-page.can_next l.page-iterator × (goal.iterator-loop-page.is_finite l.page-iterator × (l.pages.items ≡ 1 ∷ l.yielded))
