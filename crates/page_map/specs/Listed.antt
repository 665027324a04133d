-- The pages of a set above a page, as a list in ascending order.
use Rattle.std.specs.Prelude.{◌≡◌, ℕ, zero, suc, ◌+◌, cond, ◌&&◌, List, [], ◌∷◌, nat_le, nat_lt}
use Rattle.page_map.specs.Sets.{PageSet, is_page, Ascending, listed}

-- the pages of a set above `after`, up to `after + k`
unfoldable pub above : PageSet → ℕ → ℕ → List ℕ
above s after zero = []
above s after (suc k) = cond (s (suc after)) (suc after ∷ above s (suc after) k) (above s (suc after) k)

-- the list ascends, so it has no page twice, and the pages in it are just those of the set within its bounds
pub record AboveLaw : Type 0 where
  pub ascending : (s : PageSet) (after k : ℕ) → Ascending after (above s after k)
  pub each : (s : PageSet) (after k q : ℕ) → listed (above s after k) q ≡ (nat_lt after q && (nat_le q (after + k) && s q))

-- the list has each page of the set that a database can have once, and no other, in ascending order
pub record EachOnce (s : PageSet) (pages : List ℕ) : Type 0 where
  pub ascending : Ascending 0 pages
  pub each : (q : ℕ) → listed pages q ≡ (is_page q && s q)
