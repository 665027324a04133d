use Rattle.std.proofs.Common.{◌≡◌, ◌≤◌, [], length, take}
use Rattle.pager.specs.Saved.{gathered}
use Rattle.pager.proofs.saved_pages.SavedPages.passed_down.Given as goal

abbrev pub invariant-loop-row : goal.invariant-loop-row
invariant-loop-row l = (l.out.rows.items ≡ gathered l.s [] (take l.row-index l.self.rows.items)) × (length l.out.rows.items ≤ l.row-index)
