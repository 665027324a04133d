-- A memory in which nothing is changed is the machine at its start.
use Rattle.std.proofs.Common.{◌≡◌, ℕ, zero, suc, ◌+◌, ◌-◌, ◌*◌, ◌%◌, ◌<◌, ◌≤◌, false, ◌⊎◌, List, [], ◌++◌, length, get_or, take, drop, replicate, sym, refl, ap, ◌∙◌, ap₂, inl, inr, arith, length-drop, take-add}
use mathlib.Core.Path.{fun_ext}
use Rattle.std.proofs.lemmas.List.{take_all, take-append-le, get_or-replicate, get_or_past, length-replicate}
use Rattle.std.proofs.lemmas.Bool.{cases_lt, both_ways}
use Rattle.std.proofs.lemmas.List.Elements.{All-nil}
use Rattle.card.specs.Meaning.{Bytes}
use Rattle.page_map.specs.declared.PageMap.{PageMap}
use Rattle.page_map.specs.Words.{pages_of, digit}
use Rattle.pager.specs.Changed.{look}
use Rattle.pager.specs.Saved.{has_from, Placed}
use Rattle.pager.specs.Sound.{Sound, map_of}
use Rattle.pager.specs.Machine.{no_pages}
use Rattle.pager.specs.View.{file_page, joined, held_now, Stored}
use Rattle.page_map.proofs.Digits.{bit_zero}
use Rattle.page_map.proofs.Totals.{total_none}
use Rattle.page_map.proofs.Members.{page_none, page_out}
use Rattle.pager.proofs.SavedRows.{total_empty}

-- a file is its pages, one after the other
file_joined : (file : Bytes) (n : ℕ) → n * 512 ≤ length file → joined n (file_page file) ≡ take (n * 512) file
unfolding joined file_page
file_joined file zero le = refl
file_joined file (suc n) le =
    let at : suc n - 1 ≡ n = omega arith in
    let next : n * 512 + 512 ≡ suc n * 512 = omega arith in
    let rest = drop (n * 512) file in
    ap₂ (λ (x y : Bytes). x ++ y) (file_joined file n (omega arith))
    (ap (λ (k : ℕ). take 512 (drop (k * 512) file ++ replicate 512 0)) at ∙ take-append-le 512 rest (replicate 512 0) (simp length-drop (omega arith)))
    ∙ sym (take-add (n * 512) 512 file) ∙ ap (λ (k : ℕ). take k file) next

pub file_whole : (file : Bytes) (n : ℕ) → length file ≡ n * 512 → joined n (file_page file) ≡ file
file_whole file n e = file_joined file n (omega arith) ∙ take_all (n * 512) file (omega arith)

no_digit : (k : ℕ) → digit [] k ≡ 0
unfolding digit
no_digit k = bit_zero (k % 64)

no_words : (p : ℕ) → pages_of [] p ≡ false
no_words zero = page_none []
no_words (suc k) = page_out [] k (no_digit k)

-- the maps are empty
pub maps_empty : (map : PageMap) → ((q : ℕ) → pages_of map.words q ≡ false) → (d p : ℕ) → map_of (replicate 4 map) d p ≡ false
unfolding map_of
maps_empty map none d p = by (cases_lt d 4)
  where
    by : (d < 4) ⊎ (4 ≤ d) → pages_of (get_or (replicate 4 map) d (record { words = [] })).words p ≡ false
    by (inl lt) = ap (λ (m : PageMap). pages_of m.words p) (get_or-replicate 4 d map (record { words = [] }) lt) ∙ none p
    by (inr ge) = ap (λ (m : PageMap). pages_of m.words p) (get_or_past (replicate 4 map) d (record { words = [] }) (omega (arith, length-replicate 4 map))) ∙ no_words p

module _ (maps : List PageMap) (empty : (d p : ℕ) → map_of maps d p ≡ false) where
  pub sound_fresh : (count : ℕ) (sizes : List ℕ) → Sound count (record { sizes = sizes; maps = maps; changed = []; saved = []; level_sizes = [] })
  unfolding look has_from
  sound_fresh count sizes = record {
    link = λ d p lt. empty d p;
    all = sym (total_none (map_of maps) 4 empty);
    within = λ d p is. absurd (both_ways _ (empty d p) is);
    was_within = λ k some le. absurd (omega (arith, some, le));
    since = λ k some le. absurd (omega (arith, some, le));
    below = λ d p. refl;
    placed = All-nil (Placed count);
    saved_all = sym (total_empty 0);
  }

  pub view_fresh :
      (files : ℕ → Bytes) (sizes : List ℕ) (level_sizes : List (List ℕ)) → Stored files sizes →
      held_now files (record { sizes = sizes; maps = maps; changed = []; saved = []; level_sizes = level_sizes }) ≡ record { current = files; changed = no_pages }
  unfolding look
  view_fresh files sizes level_sizes stored =
      let c = fun_ext (λ (d : ℕ). file_whole (files d) (get_or sizes d 0) (stored d)) in
      let m = fun_ext (λ (d : ℕ). fun_ext (λ (p : ℕ). empty d p)) in
      λ i. record { current = c i; changed = m i }
