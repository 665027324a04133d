-- The changed pages of a database, as a walk over its map gives them.
use Rattle.std.proofs.Common.{◌≡◌, ℕ, suc, zero, ◌%◌, ◌<◌, ◌≤◌, true, false, eqb, ⊎_elim, List, [], length, get_or, is_some, Some, None, Option, Bor, All, refl, sym, ap, ◌∙◌, arith}
use Rattle.std.specs.Option.{option_map, unwrap_or}
use Rattle.std.proofs.lemmas.List.{get_or_default}
use Rattle.std.proofs.lemmas.Bool.{cases_lt}
use Rattle.page_map.specs.declared.PageMap.{PageMap}
use Rattle.page_map.specs.Words.{pages_of, digit}
use Rattle.page_map.specs.Listed.{above}
use Rattle.page_map.specs.Walks.{pages_in}
use Rattle.page_map.proofs.Digits.{bit_zero}
use Rattle.page_map.proofs.Listed.{above_none, above_length, above_within}
use Rattle.pager.specs.declared.memory.Memory.{Memory}
use Rattle.pager.specs.Changed.{look}
use Rattle.pager.specs.Sound.{map_of}
use Rattle.pager.specs.View.{fields}
use Rattle.pager.proofs.Counted.{changed_few}
use Rattle.pager.proofs.Members.{unchanged, changed_is}

-- where there are no words, no page is in
wordless : (q : ℕ) → pages_of [] q ≡ false
unfolding pages_of digit
wordless zero = refl
wordless (suc k) = ap (λ (b : ℕ). eqb b 1) (bit_zero (k % 64))

no_words : PageMap
no_words = record { words = [] }

looked_up : (o : Option (Bor PageMap)) (q : ℕ) → pages_in o q ≡ pages_of (unwrap_or (option_map (λ (m : Bor PageMap). m.now) o) no_words).words q
unfolding no_words
looked_up None q = sym (wordless q)
looked_up (Some m) q = refl

-- the pages of a map that was looked up are those of the database
pub pages_looked_up :
    (maps : List PageMap) (d : ℕ) (o : Option (Bor PageMap)) →
    ((none : PageMap) → unwrap_or (option_map (λ m. m.now) o) none ≡ get_or maps d none) → pages_in o ≡ map_of maps d
unfolding map_of no_words
pages_looked_up maps d o at = λ i q. (looked_up o q ∙ ap (λ (m : PageMap). pages_of m.words q) (at no_words)) i

module _ (m : Memory) (d : ℕ) where
  -- of a database that is not there the walk gives no page
  pub walk_none : m.count ≤ d → above (map_of m.maps d) 0 4096 ≡ []
  walk_none past = above_none (map_of m.maps d) 0 4096 (λ q _. unchanged m d past q)

  pub walk_few : length (above (map_of m.maps d) 0 4096) ≤ 32
  walk_few = ⊎_elim near far (cases_lt d 4)
    where
      near : d < 4 → length (above (map_of m.maps d) 0 4096) ≤ 32
      near lt = omega (arith, above_length (map_of m.maps d) 0 4096, changed_few m d lt)

      far : 4 ≤ d → length (above (map_of m.maps d) 0 4096) ≤ 32
      far past = omega (arith, ap length (walk_none (omega (arith, m.few, past))))

  -- each page of the walk is in the store
  pub walk_held : All (λ p. is_some (look (fields m).changed d p) ≡ true) (above (map_of m.maps d) 0 4096)
  walk_held i x lt =
      sym (changed_is m d (get_or (above (map_of m.maps d) 0 4096) i x))
      ∙ ap (map_of m.maps d) (get_or_default (above (map_of m.maps d) 0 4096) i x 0 lt) ∙ (above_within (map_of m.maps d) 0 4096 i lt).member
