-- A set of pages in words: the page p is in where the digit (p - 1) % 64 of the word (p - 1) / 64 is 1.
use Rattle.std.specs.Prelude.{ℕ, zero, suc, ◌/◌, ◌%◌, ◌^◌, false, List, ◌==◌, slice_index}
use Rattle.page_map.specs.Sets.{PageSet}

-- the digit of a word at a place: 0 or 1
unfoldable pub bit : ℕ → ℕ → ℕ
bit w k = w / 2 ^ k % 2

-- the digit at a place, counted through all words
unfoldable pub digit : List ℕ → ℕ → ℕ
digit ws k = bit (slice_index ws (k / 64)) (k % 64)

unfoldable pub pages_of : List ℕ → PageSet
pages_of ws zero = false
pages_of ws (suc k) = digit ws k == 1
