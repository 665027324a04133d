-- A savepoint pushed, and savepoints released, as steps of the machine that the memory is.
use Rattle.std.proofs.Common.{◌≡◌, ℕ, zero, suc, ◌+◌, ◌-◌, ◌<◌, ◌≤◌, Bool, true, false, ◌||◌, ◌⊎◌, List, [], ◌∷◌, ◌++◌, All, length, get_or, take, drop, None, Option, sym, refl, ap, ◌∙◌, subst, inl, inr, arith, length-append, length-take-le}
use mathlib.Core.Path.{fun_ext}
use Rattle.std.proofs.Math.Bool.{or-false}
use Rattle.std.proofs.lemmas.List.{get_or_append_left, get_or-take}
use Rattle.std.proofs.Math.Seq.{get_or-append_seam}
use Rattle.std.proofs.lemmas.Bool.{or_parts, cases_lt}
use Rattle.std.proofs.lemmas.List.Elements.{All-nil}
use Rattle.card.specs.Meaning.{Bytes}
use Rattle.pager.specs.declared.saved_page.Was.{Was}
use Rattle.pager.specs.Saved.{has, has_from, saved_total, Placed, first, was_changed, gathered}
use Rattle.pager.specs.Sound.{Fields, Since, Sound, map_of, changed_at, Within}
use Rattle.pager.specs.Machine.{saved_by, pass_down, no_pages}
use Rattle.pager.specs.View.{file_page, joined, was_page, page_now, held_now, held_at, stack}
use Rattle.pager.proofs.Pages.{joined_same}
use Rattle.pager.proofs.SavedRows.{total_next, total_empty, gathered_all, gathered_placed}
use Rattle.pager.proofs.Since.{since_pushed, since_kept}
use Rattle.pager.proofs.Passes.{gathered_below, gathered_top, gathered_first, gathered_above, from_first, from_split}

module _ (files : ℕ → Bytes) (f : Fields) where
  pub length_stack : (k : ℕ) → length (stack files f k) ≡ k
  unfolding stack
  length_stack zero = refl
  length_stack (suc k) = ap suc (length_stack k)

  module _ (levels : ℕ) (below : (d p : ℕ) → has_from (suc levels) f.saved d p ≡ false) (high : length f.level_sizes ≡ levels) where
    -- the sizes of now are kept for the new savepoint
    unfoldable pub with_sizes : Fields
    with_sizes = record {
      sizes = f.sizes;
      maps = f.maps;
      changed = f.changed;
      saved = f.saved;
      level_sizes = f.level_sizes ++ f.sizes ∷ [];
    }

    held_new : held_at files with_sizes (suc levels) ≡ held_now files f
    unfolding with_sizes
    held_new =
        let i : suc levels - 1 ≡ length f.level_sizes = omega arith in
        let sizes : get_or (f.level_sizes ++ f.sizes ∷ []) (suc levels - 1) [] ≡ f.sizes =
        ap (λ (j : ℕ). get_or (f.level_sizes ++ f.sizes ∷ []) j []) i ∙ get_or-append_seam f.level_sizes f.sizes [] [] in
        let none : (d p : ℕ) → first (suc levels) f.saved d p ≡ None = λ d p. from_first (suc levels) f.saved d p (below d p) in
        let c = fun_ext (λ (d : ℕ). ap (λ (l : List ℕ). joined (get_or l d 0) (λ p. was_page (first (suc levels) f.saved d p) (page_now files f d p) (file_page (files d) p))) sizes ∙ joined_same (get_or f.sizes d 0) _ _ (λ p a b. ap (λ (o : Option Was). was_page o (page_now files f d p) (file_page (files d) p)) (none d p))) in
        let m = fun_ext (λ (d : ℕ). fun_ext (λ (p : ℕ). ap (λ (o : Option Was). was_changed o (map_of f.maps d p)) (none d p))) in
        λ i. record { current = c i; changed = m i }

    held_old : (k : ℕ) → 0 < k → k ≤ levels → held_at files with_sizes k ≡ held_at files f k
    unfolding with_sizes
    held_old k some le =
        let c = fun_ext (λ (d : ℕ). ap (λ (l : List ℕ). joined (get_or l d 0) (λ p. was_page (first k f.saved d p) (page_now files f d p) (file_page (files d) p))) (get_or_append_left f.level_sizes (f.sizes ∷ []) [] (k - 1) (omega arith))) in
        λ i. record { current = c i; changed = (held_at files f k).changed }

    none_saved : has (suc levels) f.saved ≡ no_pages
    none_saved = fun_ext (λ (d : ℕ). fun_ext (λ (p : ℕ). (or_parts _ _ (sym (from_split (suc levels) f.saved d p) ∙ below d p)).0))

    stack_old : (k : ℕ) → k ≤ levels → stack files with_sizes k ≡ stack files f k
    unfolding stack with_sizes
    stack_old zero le = refl
    stack_old (suc k) le =
        let h = held_old (suc k) (omega arith) le in
        let rest = stack_old k (omega arith) in
        λ i. record { held = h i; saved = has (suc k) f.saved } ∷ rest i

    pub stack_pushed : stack files with_sizes (suc levels) ≡ record { held = held_now files f; saved = no_pages } ∷ stack files f levels
    unfolding stack with_sizes
    stack_pushed =
        let h = held_new in
        let s = none_saved in
        let rest = stack_old levels (omega arith) in
        λ i. record { held = h i; saved = s i } ∷ rest i

    none_two_above : (d p : ℕ) → has_from (suc (suc levels)) f.saved d p ≡ false
    none_two_above d p = (or_parts _ _ (sym (from_split (suc levels) f.saved d p) ∙ below d p)).1

    -- at the new savepoint just the pages are changed that are now
    new_changed : (d p : ℕ) → changed_at f (suc levels) d p ≡ map_of f.maps d p
    new_changed d p = ap (λ (o : Option Was). was_changed o (map_of f.maps d p)) (from_first (suc levels) f.saved d p (below d p))

    pub sound_pushed : (count : ℕ) → Sound count f → Sound count with_sizes
    unfolding with_sizes
    sound_pushed count sound = record {
      link = sound.link;
      all = sound.all;
      within = sound.within;
      was_within = was_within;
      since = since;
      below = subst (λ (n : ℕ). (d p : ℕ) → has_from (suc n) f.saved d p ≡ false) (sym long) none_two_above;
      placed = sound.placed;
      saved_all = sound.saved_all ∙ ap (λ (n : ℕ). saved_total n f.saved) high ∙ sym (ap (λ (n : ℕ). saved_total n f.saved) long ∙ total_next levels f.saved (λ d p i. none_saved i d p));
    }
      where
        long : length (f.level_sizes ++ f.sizes ∷ []) ≡ suc levels
        long = length-append f.level_sizes (f.sizes ∷ []) ∙ omega (arith, high)

        was_within : (k : ℕ) → 1 ≤ k → k ≤ length (f.level_sizes ++ f.sizes ∷ []) → Within count (get_or (f.level_sizes ++ f.sizes ∷ []) (k - 1) []) (changed_at f k)
        was_within k some le = by (cases_lt levels k)
          where
            by : (levels < k) ⊎ (k ≤ levels) → Within count (get_or (f.level_sizes ++ f.sizes ∷ []) (k - 1) []) (changed_at f k)
            by (inr old) =
                subst (λ (l : List ℕ). Within count l (changed_at f k)) (sym (get_or_append_left f.level_sizes (f.sizes ∷ []) [] (k - 1) (omega arith))) (sound.was_within k some (omega arith))
            by (inl new) =
                let here : k ≡ suc levels = omega (arith, new, le, long) in
                let i : k - 1 ≡ length f.level_sizes = omega (arith, here, high) in
                λ d p in-it.
                let was = sound.within d p (sym (new_changed d p) ∙ ap (λ (n : ℕ). changed_at f n d p) (sym here) ∙ in-it) in
                (was.0, was.1, subst (λ (l : List ℕ). p ≤ get_or l d 0) (sym (ap (λ (j : ℕ). get_or (f.level_sizes ++ f.sizes ∷ []) j []) i ∙ get_or-append_seam f.level_sizes f.sizes [] [])) was.2)

        since : (k : ℕ) → 1 ≤ k → k ≤ length (f.level_sizes ++ f.sizes ∷ []) → Since with_sizes k
        since k some le = by (cases_lt levels k)
          where
            by : (levels < k) ⊎ (k ≤ levels) → Since with_sizes k
            by (inr old) =
                since_kept f with_sizes k (λ d p. refl) (get_or_append_left f.level_sizes (f.sizes ∷ []) [] (k - 1) (omega arith)) refl (sound.since k some (omega arith))
            by (inl new) =
                let here : k ≡ suc levels = omega (arith, new, le, long) in
                let i : k - 1 ≡ length f.level_sizes = omega (arith, here, high) in
                since_pushed f with_sizes k refl (ap (λ (j : ℕ). get_or (f.level_sizes ++ f.sizes ∷ []) j []) i ∙ get_or-append_seam f.level_sizes f.sizes [] []) refl
                (subst (λ (n : ℕ). (d p : ℕ) → has_from n f.saved d p ≡ false) (sym here) below)

  -- the lowest k of a stack, and what those above them saved
  drop_stack : (j k l : ℕ) → l ≡ j + k → drop j (stack files f l) ≡ stack files f k
  unfolding stack
  drop_stack zero k l e = let same : l ≡ k = omega arith in ap (stack files f) same
  drop_stack (suc j) k zero e = absurd (omega arith)
  drop_stack (suc j) k (suc l) e = drop_stack j k l (omega arith)

  saved_stack : (j k l d p : ℕ) → l ≡ j + k → has_from (suc k) f.saved d p ≡ (saved_by (take j (stack files f l)) d p || has_from (suc l) f.saved d p)
  unfolding stack saved_by
  saved_stack zero k l d p e = let same : k ≡ l = omega arith in ap (λ (n : ℕ). has_from (suc n) f.saved d p) same
  saved_stack (suc j) k zero d p e = absurd (omega arith)
  saved_stack (suc j) k (suc l) d p e =
      saved_stack j k l d p (omega arith)
      ∙ ap (λ (b : Bool). saved_by (take j (stack files f l)) d p || b) (from_split (suc l) f.saved d p)
      ∙ swap (saved_by (take j (stack files f l)) d p) (has (suc l) f.saved d p) (has_from (suc (suc l)) f.saved d p)
    where
      swap : (a b c : Bool) → (a || (b || c)) ≡ ((b || a) || c)
      swap true true c = refl
      swap true false c = refl
      swap false true c = refl
      swap false false c = refl

  module _ (s levels : ℕ) (low : 0 < s) (high : s ≤ levels) (below : (d p : ℕ) → has_from (suc levels) f.saved d p ≡ false) where
    -- the saved pages are passed down
    unfoldable pub passed_fields : Fields
    passed_fields = record {
      sizes = f.sizes;
      maps = f.maps;
      changed = f.changed;
      saved = gathered s [] f.saved;
      level_sizes = take (s - 1) f.level_sizes;
    }

    same_first : (k d p : ℕ) → 0 < k → k ≤ s - 1 → first k (gathered s [] f.saved) d p ≡ first k f.saved d p
    unfolding first
    same_first k d p some le = gathered_first s d p k [] f.saved some le

    held_passed : (k : ℕ) → 0 < k → k ≤ s - 1 → held_at files passed_fields k ≡ held_at files f k
    unfolding passed_fields
    held_passed k some le =
        let sizes = get_or-take (s - 1) f.level_sizes (k - 1) [] (omega arith) in
        let c = fun_ext (λ (d : ℕ). ap (λ (l : List ℕ). joined (get_or l d 0) (λ p. was_page (first k (gathered s [] f.saved) d p) (page_now files f d p) (file_page (files d) p))) sizes ∙ joined_same (get_or (get_or f.level_sizes (k - 1) []) d 0) _ _ (λ p a b. ap (λ (o : Option Was). was_page o (page_now files f d p) (file_page (files d) p)) (same_first k d p some le))) in
        let m = fun_ext (λ (d : ℕ). fun_ext (λ (p : ℕ). ap (λ (o : Option Was). was_changed o (map_of f.maps d p)) (same_first k d p some le))) in
        λ i. record { current = c i; changed = m i }

    stack_below : (k : ℕ) → k < s - 1 → stack files passed_fields k ≡ stack files f k
    unfolding stack passed_fields has
    stack_below zero lt = refl
    stack_below (suc k) lt =
        let h = held_passed (suc k) (omega arith) (omega arith) in
        let v = fun_ext (λ (d : ℕ). fun_ext (λ (p : ℕ). gathered_below s d p (suc k) [] f.saved (omega arith) lt)) in
        let rest = stack_below k (omega arith) in
        λ i. record { held = h i; saved = v i } ∷ rest i

    -- what the savepoints above saved passes to the top one that is left
    top_saved : (k d p : ℕ) → suc k ≡ s - 1 → has (suc k) (gathered s [] f.saved) d p ≡ (has (suc k) f.saved d p || saved_by (take (levels + 1 - s) (stack files f levels)) d p)
    unfolding has
    top_saved k d p e =
        gathered_top s d p (suc k) [] f.saved (omega arith) e ∙ from_split (suc k) f.saved d p
        ∙ ap (λ (b : Bool). has (suc k) f.saved d p || b)
        (saved_stack (levels + 1 - s) (suc k) levels d p (omega arith) ∙ ap (λ (b : Bool). saved_by (take (levels + 1 - s) (stack files f levels)) d p || b) (below d p) ∙ or-false (saved_by (take (levels + 1 - s) (stack files f levels)) d p))

    left : (k : ℕ) → k ≡ s - 1 → stack files passed_fields k ≡ pass_down (take (levels + 1 - s) (stack files f levels)) (stack files f k)
    unfolding stack pass_down passed_fields
    left zero e = refl
    left (suc k) e =
        let h = held_passed (suc k) (omega arith) (omega arith) in
        let v = fun_ext (λ (d : ℕ). fun_ext (λ (p : ℕ). top_saved k d p e)) in
        let rest = stack_below k (omega arith) in
        λ i. record { held = h i; saved = v i } ∷ rest i

    pub stack_released :
        stack files passed_fields (s - 1)
        ≡ pass_down (take (length (stack files f levels) + 1 - s) (stack files f levels)) (drop (length (stack files f levels) + 1 - s) (stack files f levels))
    stack_released =
        left (s - 1) refl
        ∙ ap (pass_down (take (levels + 1 - s) (stack files f levels))) (sym (drop_stack (levels + 1 - s) (s - 1) levels (omega arith)))
        ∙ ap (λ (n : ℕ). pass_down (take (n + 1 - s) (stack files f levels)) (drop (n + 1 - s) (stack files f levels))) (sym (length_stack levels))

    none_left : (d p : ℕ) → has_from (suc (s - 1)) (gathered s [] f.saved) d p ≡ false
    unfolding has_from
    none_left d p = gathered_above s d p (suc (s - 1)) [] f.saved (omega arith) refl

    pub sound_released : (count : ℕ) → count ≤ 4 → length f.level_sizes ≡ levels → Sound count f → Sound count passed_fields
    unfolding passed_fields
    sound_released count four all sound = record {
      link = sound.link;
      all = sound.all;
      within = sound.within;
      was_within = was_within;
      since = since;
      below = subst (λ (n : ℕ). (d p : ℕ) → has_from (suc n) (gathered s [] f.saved) d p ≡ false) (sym long) none_left;
      placed = gathered_placed count s [] f.saved (All-nil (Placed count)) sound.placed;
      saved_all = gathered_all s [] f.saved placed (sym (total_empty (s - 1))) ∙ ap (λ (n : ℕ). saved_total n (gathered s [] f.saved)) (sym long);
    }
      where
        long : length (take (s - 1) f.level_sizes) ≡ s - 1
        long = length-take-le (s - 1) f.level_sizes (omega (arith, all, high))

        placed : All (Placed 4) f.saved
        placed i row lt = let here = sound.placed i row lt in (omega (arith, here.0, four), here.1)

        was_within : (k : ℕ) → 1 ≤ k → k ≤ length (take (s - 1) f.level_sizes) → Within count (get_or (take (s - 1) f.level_sizes) (k - 1) []) (changed_at passed_fields k)
        was_within k some le d p in-it =
            let lower : k ≤ s - 1 = omega (arith, le, long) in
            let was = sound.was_within k some (omega (arith, lower, all, high)) d p (sym (ap (λ (o : Option Was). was_changed o (map_of f.maps d p)) (same_first k d p some lower)) ∙ in-it) in
            (was.0, was.1, subst (λ (l : List ℕ). p ≤ get_or l d 0) (sym (get_or-take (s - 1) f.level_sizes (k - 1) [] (omega (arith, some, lower)))) was.2)

        since : (k : ℕ) → 1 ≤ k → k ≤ length (take (s - 1) f.level_sizes) → Since passed_fields k
        since k some le =
            let lower : k ≤ s - 1 = omega (arith, le, long) in
            since_kept f passed_fields k (λ d p. same_first k d p some lower) (get_or-take (s - 1) f.level_sizes (k - 1) [] (omega (arith, some, lower))) refl (sound.since k some (omega (arith, lower, all, high)))
