-- The pages that a journal records: gathered one by one, and at most 33.
use Rattle.std.proofs.Common.{◌≡◌, ℕ, zero, suc, ◌+◌, ◌-◌, ◌<◌, ◌≤◌, Bool, true, false, cond, ◌&&◌, leb, ⊎_elim, List, [], ◌∷◌, length, refl, sym, ap, ◌∙◌, arith}
use Rattle.std.specs.List.{filter}
use Rattle.std.proofs.lemmas.Bool.{cases_lt, cond-true, cond-false, le-leb, lt-leb, and_from, and_right}
use Rattle.page_map.specs.Sets.{PageSet, counted}
use Rattle.page_map.specs.Listed.{above}
use Rattle.page_map.proofs.Listed.{above_counted, above_length, above_within}
use Rattle.journaling.specs.Changes.{recorded}
use Rattle.journaling.specs.Buffers.{PagesOk}

-- more pages are counted further up
pub counted_more : (s : PageSet) (n k : ℕ) → n ≤ k → counted s n ≤ counted s k
counted_more s n k le =
    let e : counted s (n + (k - n)) ≡ counted s k = ap (counted s) (omega arith) in
    omega (arith, above_counted s n (k - n), e)

pub recorded_few : (s : PageSet) (size : ℕ) → 1 ≤ size → size ≤ 4096 → counted s 4096 ≤ 32 → length (recorded s size) ≤ 33
unfolding recorded
recorded_few s size some small few =
    omega (arith, above_length s 1 (size - 1), counted_more s (1 + (size - 1)) 4096 (omega arith))

-- the page is recorded after page 1: it is another page, within the size
abbrev pub is_later : ℕ → ℕ → Bool
is_later size p = leb 2 p && leb p size

-- past the size no page is recorded
later_past : (s : PageSet) (size after k : ℕ) → size ≤ after → filter (is_later size) (above s after k) ≡ []
unfolding above
later_past s size after zero le = refl
later_past s size after (suc k) le = by (s (suc after)) (later_past s size (suc after) k (omega arith))
  where
    by : (b : Bool) → filter (is_later size) (above s (suc after) k) ≡ [] → filter (is_later size) (cond b (suc after ∷ above s (suc after) k) (above s (suc after) k)) ≡ []
    by false none = none
    by true none = cond-false _ _ _ (and_right (leb 2 (suc after)) (leb (suc after) size) (lt-leb (suc after) size (omega arith))) ∙ none

-- within it each other page is
later_within : (s : PageSet) (size after k : ℕ) → 1 ≤ after → after ≤ size → size ≤ after + k → filter (is_later size) (above s after k) ≡ above s after (size - after)
unfolding above
later_within s size after zero low le high = let e : size - after ≡ 0 = omega arith in sym (ap (above s after) e)
later_within s size after (suc k) low le high = ⊎_elim (inside (later_within s size (suc after) k (omega arith))) last (cases_lt after size)
  where
    last : size ≤ after → filter (is_later size) (above s after (suc k)) ≡ above s after (size - after)
    last far = let e : size - after ≡ 0 = omega arith in later_past s size after (suc k) far ∙ sym (ap (above s after) e)

    by : (b : Bool) (rest : List ℕ) → after < size → filter (is_later size) (above s (suc after) k) ≡ rest → filter (is_later size) (cond b (suc after ∷ above s (suc after) k) (above s (suc after) k)) ≡ cond b (suc after ∷ rest) rest
    by false rest lt e = e
    by true rest lt e = cond-true _ _ _ (and_from (leb 2 (suc after)) (leb (suc after) size) (le-leb 2 (suc after) (omega arith)) (le-leb (suc after) size (omega arith))) ∙ ap (λ (l : List ℕ). suc after ∷ l) e

    Later : Type 0
    Later = suc after ≤ size → size ≤ suc after + k → filter (is_later size) (above s (suc after) k) ≡ above s (suc after) (size - suc after)

    inside : Later → after < size → filter (is_later size) (above s after (suc k)) ≡ above s after (size - after)
    inside more lt =
        let e : suc (size - suc after) ≡ size - after = omega arith in
        by (s (suc after)) (above s (suc after) (size - suc after)) lt (more (omega arith) (omega arith)) ∙ ap (above s after) e

-- of all pages of a set those within the size are recorded
pub recorded_later : (s : PageSet) (size : ℕ) → 1 ≤ size → size ≤ 4096 → 1 ∷ filter (is_later size) (above s 0 4096) ≡ recorded s size
unfolding recorded above
recorded_later s size some small = ap (λ (l : List ℕ). 1 ∷ l) (by (s 1) ∙ later_within s size 1 4095 (omega arith) some (omega arith))
  where
    by : (b : Bool) → filter (is_later size) (cond b (1 ∷ above s 1 4095) (above s 1 4095)) ≡ filter (is_later size) (above s 1 4095)
    by false = refl
    by true = refl

-- each is a page that a database can have
pub recorded_ok : (s : PageSet) (size : ℕ) → 1 ≤ size → size ≤ 4096 → PagesOk (recorded s size)
unfolding recorded
recorded_ok s size some small zero lt = (omega arith, omega arith)
recorded_ok s size some small (suc i) lt =
    let w = above_within s 1 (size - 1) i (omega arith) in
    (omega (arith, w.low), omega (arith, w.high))
