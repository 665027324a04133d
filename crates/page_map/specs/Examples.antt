-- A small map of pages, for readers of the definitions.
use Rattle.std.specs.Prelude.{◌≡◌, ℕ, ◌+◌, ◌^◌, true, false, ◌||◌, List, [], ◌∷◌, ◌++◌, map, replicate, ◌==◌}
use Rattle.page_map.specs.Sets.{PageSet, is_page, without, counted, NoneAbove, NextAbove}
use Rattle.page_map.specs.Words.{pages_of}
use Rattle.page_map.specs.Listed.{above}

-- the words of a map: the lowest and the highest bit of the first, the lowest of the second, the highest of the last
abbrev pub words : List ℕ
words = (2 ^ 63 + 1) ∷ 1 ∷ (replicate 61 0 ++ ((2 ^ 63) ∷ []))

abbrev pub four : PageSet
four = pages_of words

pub record Examples : Type 0 where
  -- a database has the pages 1 to 4,096
  pub pages : map is_page (0 ∷ 1 ∷ 4096 ∷ 4097 ∷ []) ≡ false ∷ true ∷ true ∷ false ∷ []
  -- these four pages are in the map, and no other
  pub member : (q : ℕ) → four q ≡ (q == 1 || (q == 64 || (q == 65 || q == 4096)))
  pub number : counted four 4096 ≡ 4
  -- the next page above one, in the same word, in the next word, and far on
  pub first : NextAbove four 0 1
  pub same_word : NextAbove four 1 64
  pub next_word : NextAbove four 64 65
  pub far_on : NextAbove four 65 4096
  pub end : NoneAbove four 4096
  -- the pages above 1, up to 65, and all of them
  pub some : above four 1 64 ≡ 64 ∷ 65 ∷ []
  pub all : above four 0 4096 ≡ 1 ∷ 64 ∷ 65 ∷ 4096 ∷ []
  -- with 64 taken out, 65 is the next above 1
  pub taken : NextAbove (without four 64) 1 65
