-- The savepoints of a stack, over the steps of the machine.
use Rattle.std.proofs.Common.{◌≡◌, ℕ, suc, ◌+◌, ◌-◌, ◌<◌, ◌≤◌, ◌||◌, List, [], ◌∷◌, ◌++◌, map, length, take, drop, sym, refl, ap, ◌∙◌, subst, arith, length-append}
use Rattle.std.proofs.lemmas.List.{drop_at, drop-map, drop-append-le}
use Rattle.page_map.specs.Sets.{PageSet, including}
use Rattle.pager.specs.Machine.{Held, Savepoint, Machine, at, no_pages, saving, saved_by, pass_down, restored, pushed, released, back}
use Rattle.pager.specs.Laws.{Onward, here, write, push, release, step_back, BackLaw, ReleaseLaw}

-- what each savepoint holds, the top one first
abbrev helds : List Savepoint → List Held
helds ss = map (λ s. s.held) ss

helds_passed : (removed kept : List Savepoint) → helds (pass_down removed kept) ≡ helds kept
unfolding pass_down
helds_passed removed [] = refl
helds_passed removed (s ∷ below) = refl

helds_released : (m : Machine) (s : ℕ) → helds (released s m).savepoints ≡ drop (length m.savepoints + 1 - s) (helds m.savepoints)
helds_released m s =
    let n = length m.savepoints + 1 - s in
    helds_passed (take n m.savepoints) (drop n m.savepoints) ∙ sym (drop-map (λ (s : Savepoint). s.held) n m.savepoints)

-- the top savepoint has saved other pages, and nothing else of the stack changes
abbrev touched : (Savepoint → ℕ → PageSet) → List Savepoint → List Savepoint
touched saved [] = []
touched saved (s ∷ below) = record { held = s.held; saved = saved s } ∷ below

touched_saving : (d p : ℕ) (ss : List Savepoint) → saving d p ss ≡ touched (λ s. at s.saved d (including (s.saved d) p)) ss
unfolding saving
touched_saving d p [] = refl
touched_saving d p (s ∷ below) = refl

touched_passed : (removed kept : List Savepoint) → pass_down removed kept ≡ touched (λ s d p. s.saved d p || saved_by removed d p) kept
unfolding pass_down
touched_passed removed [] = refl
touched_passed removed (s ∷ below) = refl

touched_restored : (ss : List Savepoint) (m : Machine) → 0 < length ss → (restored ss m).savepoints ≡ touched (λ s. no_pages) ss
unfolding restored
touched_restored [] m some = absurd (omega arith)
touched_restored (s ∷ below) m some = refl

module _ (m : Machine) where
  -- on the machine's savepoints, which are as they were, stands one of what it held
  record Standing (ss : List Savepoint) : Type 0 where
    above : List Savepoint
    top : Savepoint
    is : ss ≡ above ++ top ∷ m.savepoints
    held : top.held ≡ m.held

  standing_length : (ss : List Savepoint) (old : Standing ss) → length ss ≡ length old.above + suc (length m.savepoints)
  standing_length ss old = ap length old.is ∙ length-append old.above (old.top ∷ m.savepoints)

  still_touched : (saved : Savepoint → ℕ → PageSet) (ss : List Savepoint) → Standing ss → Standing (touched saved ss)
  still_touched saved ss old = by old.above old.is
    where
      by : (above : List Savepoint) → ss ≡ above ++ old.top ∷ m.savepoints → Standing (touched saved ss)
      by [] e = record { above = []; top = record { held = old.top.held; saved = saved old.top }; is = ap (touched saved) e; held = old.held }
      by (a ∷ above) e = record { above = record { held = a.held; saved = saved a } ∷ above; top = old.top; is = ap (touched saved) e; held = old.held }

  still_dropped : (k : ℕ) (ss : List Savepoint) → Standing ss → k + suc (length m.savepoints) ≤ length ss → Standing (drop k ss)
  still_dropped k ss old fits = record {
    above = drop k old.above;
    top = old.top;
    is = ap (drop k) old.is ∙ drop-append-le k old.above (old.top ∷ m.savepoints) (omega (arith, standing_length ss old));
    held = old.held;
  }

  still : {k n : Machine} → Onward (suc (length m.savepoints)) k n → Standing k.savepoints → Standing n.savepoints
  still here old = old
  still (write {n = n} d p bytes steps) old =
      subst Standing (sym (touched_saving d p n.savepoints)) (still_touched _ n.savepoints (still steps old))
  still (push {n = n} steps) old =
      let was = still steps old in
      let new : Savepoint = record { held = n.held; saved = no_pages } in
      record { above = new ∷ was.above; top = was.top; is = ap (λ (ss : List Savepoint). new ∷ ss) was.is; held = was.held }
  still (release {n = n} t above within steps) old =
      let ss = n.savepoints in
      let k = length ss + 1 - t in
      subst Standing (sym (touched_passed (take k ss) (drop k ss))) (still_touched _ (drop k ss) (still_dropped k ss (still steps old) (omega arith)))
  still (step_back {n = n} t above within steps) old =
      let ss = n.savepoints in
      let k = length ss - t in
      let kept = still_dropped k ss (still steps old) (omega arith) in
      subst Standing (sym (touched_restored (drop k ss) n (omega (arith, standing_length (drop k ss) kept)))) (still_touched _ (drop k ss) kept)

  module _ (n : Machine) (steps : Onward (suc (length m.savepoints)) (pushed m) n) where
    at_end : Standing n.savepoints
    at_end = still steps (record { above = []; top = record { held = m.held; saved = no_pages }; is = refl; held = refl })

    -- the step back is to the machine as it was once the savepoint was made
    back_whole : back (suc (length m.savepoints)) n ≡ pushed m
    unfolding restored
    back_whole =
        let s = suc (length m.savepoints) in
        let above : length n.savepoints - s ≡ length at_end.above = omega (arith, standing_length n.savepoints at_end) in
        ap (λ (k : ℕ). restored (drop k n.savepoints) n) above
        ∙ ap (λ (ss : List Savepoint). restored ss n) (ap (drop (length at_end.above)) at_end.is ∙ drop_at at_end.above (at_end.top ∷ m.savepoints) (length at_end.above) refl)
        ∙ ap (λ (h : Held). record { held = h; savepoints = record { held = h; saved = no_pages } ∷ m.savepoints }) at_end.held

pub back_law : BackLaw
back_law = record {
  restores = λ m n steps. ap (λ (x : Machine). x.held) (back_whole m n steps);
  stack = λ m n steps. ap (λ (x : Machine). x.savepoints) (back_whole m n steps);
}

pub release_law : ReleaseLaw
release_law = record { keeps = λ m s. refl; below = helds_released }
