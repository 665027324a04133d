-- What a step of a walk leaves of the pages that are still to come.
use Rattle.std.proofs.Common.{true, ◌≡◌, ℕ, ◌+◌, ◌-◌, ◌<◌, ◌≤◌, List, [], ◌∷◌, ◌++◌, length, take, drop, get_or, Some, None, Option, Bor, refl, sym, ap, ◌∙◌, ap₂, arith}
use Rattle.std.specs.Iterator.{Yields, YieldsFirst}
use Rattle.std.proofs.lemmas.Iterator.{YieldsList}
use Rattle.std.proofs.lemmas.Iterator.Consumers.{YieldsList-from_first, YieldsList-so_far, YieldsList-turn, YieldsList-end}
use Rattle.std.proofs.lemmas.List.{map-id, take-append-drop, drop_more, get_or_default}
use Rattle.page_map.specs.declared.PageMap.{PageMap}
use Rattle.page_map.specs.declared.pages.Pages.{Pages}
use Rattle.page_map.specs.Sets.{PageSet, NextAbove, NoneAbove}
use Rattle.page_map.specs.Words.{pages_of}
use Rattle.page_map.specs.Listed.{above}
use Rattle.page_map.specs.Walks.{left, pages_in}
use Rattle.page_map.proofs.Listed.{Within, above_none, above_next, above_within}

-- the next page stands first, and those above it follow
pub above_step : (s : PageSet) (after p : ℕ) → NextAbove s after p → p ≤ 4096 → above s after (4096 - after) ≡ p ∷ above s p (4096 - p)
above_step s after p next high =
    let low = next.above in
    let same : after + (4096 - after) - p ≡ 4096 - p = omega arith in
    above_next s after p (4096 - after) next (omega arith) ∙ ap (λ (k : ℕ). p ∷ above s p k) same

module _ (walk : Pages) where
  pub none_left : walk.map ≡ None → left walk ≡ []
  unfolding left
  none_left e = ap (λ (o : Option (Bor PageMap)). above (pages_in o) walk.after (4096 - walk.after)) e ∙ above_none (pages_in None) walk.after (4096 - walk.after) (λ q _. refl)

  module _ (map : Bor PageMap) (is : walk.map ≡ Some map) where
    of_map : (after : ℕ) → above (pages_in walk.map) after (4096 - after) ≡ above (pages_of map.now.words) after (4096 - after)
    of_map after = ap (λ (o : Option (Bor PageMap)). above (pages_in o) after (4096 - after)) is

    pub end_left : NoneAbove (pages_of map.now.words) walk.after → left walk ≡ []
    unfolding left
    end_left none = of_map walk.after ∙ above_none (pages_of map.now.words) walk.after (4096 - walk.after) none

    pub step_left : (p : ℕ) → NextAbove (pages_of map.now.words) walk.after p → p ≤ 4096 → left walk ≡ p ∷ left (record { map = walk.map; after = p })
    unfolding left
    step_left p next high =
        of_map walk.after ∙ above_step (pages_of map.now.words) walk.after p next high
        ∙ ap (λ (l : List ℕ). p ∷ l) (sym (of_map p))

-- a page of a walk over all pages of a set: it is one of them; those walked before it, those that follow, and its bounds
pub record Turn (s : PageSet) (walked : List ℕ) (p : ℕ) : Type 0 where
  pub member : s p ≡ true
  pub rest : List ℕ
  pub parts : above s 0 4096 ≡ walked ++ p ∷ rest
  pub low : 1 ≤ p
  pub high : p ≤ 4096

module _ (s : PageSet) (start walk : Pages) (walked : List ℕ) (whole : left start ≡ above s 0 4096) (by : Yields (YieldsFirst left) start walked walk) (r : Option ℕ) (after : Pages)
    (step : YieldsFirst left walk r after) where
  abbrev all : List ℕ
  all = above s 0 4096

  gives : YieldsList (YieldsFirst left) (λ (p : ℕ). p) start all
  gives = YieldsList-from_first (λ (p : ℕ). p) left all whole

  -- a walk that is at its end has given all
  pub walked_all : r ≡ None → walked ≡ all
  walked_all none = sym (map-id walked) ∙ (YieldsList-end gives walked walk by r after none step).0

  pub walked_turn : (p : ℕ) → r ≡ Some p → Turn s walked p
  walked_turn p some = record {
    member = ap s (sym same) ∙ at.member;
    rest = drop (n + 1) all;
    parts = sym (take-append-drop n all) ∙ ap₂ (λ (x y : List ℕ). x ++ y) (sym before) (drop_more all n p turn.0 ∙ ap (λ (q : ℕ). q ∷ drop (n + 1) all) (sym turn.1));
    low = omega (arith, at.low, same);
    high = omega (arith, at.high, same);
  }
    where
      n : ℕ
      n = length walked

      turn : (n < length all) × (p ≡ get_or all n p)
      turn = YieldsList-turn gives walked walk by r after p some step

      before : walked ≡ take n all
      before = sym (map-id walked) ∙ YieldsList-so_far gives walked walk by

      at : Within s 0 4096 (get_or all n 0)
      at = above_within s 0 4096 n turn.0

      same : get_or all n 0 ≡ p
      same = sym (turn.1 ∙ get_or_default all n p 0 turn.0)
