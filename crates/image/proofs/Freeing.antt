-- Slots freed one after the other, and what an image then holds.
use Rattle.std.proofs.Common.{◌≡◌, ℕ, suc, ◌+◌, ◌-◌, ◌*◌, ◌<◌, ◌≤◌, Bool, true, false, cond, ◌⊎◌, length, Some, None, sym, refl, ap, ◌∙◌, subst, inl, inr, ⊎_elim, arith, below_more}
use native.Mathlib.Decide.{ℕ_discrete}
use Rattle.std.proofs.lemmas.Bool.{cases_Bool, both_ways, le-leb, lt-leb}
use Rattle.card.specs.Meaning.{Bytes, Name}
use Rattle.card.specs.Calls.{overwrite, delete}
use Rattle.image.specs.Layout.{named, free, content, slot, slot_size, held, first_of, free_slots, FirstSlot}
use Rattle.image.specs.Stored.{Freed, Done, Empty}
use Rattle.image.proofs.Named.{free_unnamed, free_head, named_parts, not_named}
use Rattle.image.proofs.First.{first_same, first_none, free_gain, free_none, free_all, free_most}
use Rattle.image.proofs.Slices.{slot_put, slot_other, put_length, put_size, length_slot}

-- of the slots of which a test is true some are freed: each slot is as it was, or was one of them and is free
pub record Freeing (is : Bytes → Bool) (image image' : Bytes) : Type 0 where
  pub long : length image' ≡ length image
  pub slots : (j : ℕ) → j < 16 → (slot image' j ≡ slot image j) ⊎ ((is (slot image j) ≡ true) × (free (slot image' j) ≡ true))

module _ (is : Bytes → Bool) (image : Bytes) where
  pub freeing_none : Freeing is image image
  freeing_none = record { long = refl; slots = λ j lt. inl refl }

  -- with none left of which the test is true, all are freed
  pub freed : (image' : Bytes) → Freeing is image image' → ((j : ℕ) → j < 16 → is (slot image' j) ≡ false) → Freed is image image'
  freed image' some none =
      record {
        long = some.long;
        free = λ j lt t. ⊎_elim (λ e. absurd (both_ways _ (none j lt) (ap is e ∙ t))) (λ p. p.1) (some.slots j lt);
        kept = λ j lt f. ⊎_elim (λ e. e) (λ p. absurd (both_ways _ f p.0)) (some.slots j lt);
      }

  -- one slot more is freed
  module _ (image' : Bytes) (some : Freeing is image image') (k : ℕ) (new image'' : Bytes) (in_image : k < 16) (true_here : is (slot image' k) ≡ true) (whole : length new ≡ slot_size image') (vacant : free new ≡ true)
      (put : image'' ≡ overwrite image' (k * slot_size image') new) where
    here : slot image'' k ≡ new
    here = ap (λ (i : Bytes). slot i k) put ∙ slot_put image' k new in_image whole

    there : (j : ℕ) → j < 16 → (j ≡ k → ⊥) → slot image'' j ≡ slot image' j
    there j lt ne = ap (λ (i : Bytes). slot i j) put ∙ slot_other image' k new in_image whole j lt ne

    pub freeing_more : Freeing is image image''
    freeing_more = record { long = ap length put ∙ put_length image' k new in_image whole ∙ some.long; slots = slots }
      where
        was : is (slot image k) ≡ true
        was = ⊎_elim (λ e. ap is (sym e) ∙ true_here) (λ p. p.0) (some.slots k in_image)

        slots : (j : ℕ) → j < 16 → (slot image'' j ≡ slot image j) ⊎ ((is (slot image j) ≡ true) × (free (slot image'' j) ≡ true))
        slots j lt = by (ℕ_discrete j k)
          where
            by : Dec (j ≡ k) → (slot image'' j ≡ slot image j) ⊎ ((is (slot image j) ≡ true) × (free (slot image'' j) ≡ true))
            by (yes e) = subst (λ (i : ℕ). (slot image'' i ≡ slot image i) ⊎ ((is (slot image i) ≡ true) × (free (slot image'' i) ≡ true))) (sym e) (inr (was, ap free here ∙ vacant))
            by (no ne) = ⊎_elim (λ e. inl (there j lt ne ∙ e)) (λ p. inr (p.0, ap free (there j lt ne) ∙ p.1)) (some.slots j lt)

    -- and one more is free, if the test is of no free slot
    pub freeing_gain : free (slot image' k) ≡ false → 16 - free_slots image'' < 16 - free_slots image'
    unfolding free_slots
    freeing_gain taken = omega (arith, more, free_most (slot image'') 16)
      where
        more : suc (free_slots image') ≤ free_slots image''
        more = free_gain (slot image') (slot image'') 16 k in_image taken (ap free here ∙ vacant) keep
          where
            keep : (i : ℕ) → i < 16 → free (slot image' i) ≡ true → free (slot image'' i) ≡ true
            keep i lt t = by (ℕ_discrete i k)
              where
                by : Dec (i ≡ k) → free (slot image'' i) ≡ true
                by (yes e) = subst (λ (j : ℕ). free (slot image'' j) ≡ true) (sym e) (ap free here ∙ vacant)
                by (no ne) = ap free (there i lt ne) ∙ t

-- a slot of the name is not free
pub named_taken : (n : Name) (s : Bytes) → named n s ≡ true → free s ≡ false
named_taken n s is = ⊎_elim (λ t. absurd (both_ways _ (free_unnamed n s t) is)) (λ f. f) (cases_Bool (free s))

-- with every slot of the name freed, the file is absent, and no other is touched
pub done_deleted : (image image' : Bytes) (n : Name) (k : ℕ) → FirstSlot (named n) image (Some k) → Freed (named n) image image' → Done delete n image image'
unfolding held free_slots
done_deleted image image' n k found freed = record { own = own; others = others; slots = λ m belongs ne. same m (ne refl) belongs belongs (λ j lt t. refl); frees = gain }
  where
    unnamed : (j : ℕ) → j < 16 → named n (slot image' j) ≡ false
    unnamed j lt =
        ⊎_elim (λ t. free_unnamed n (slot image' j) (freed.free j lt t)) (λ e. ap (named n) (freed.kept j lt e) ∙ e) (cases_Bool (named n (slot image j)))

    own : held image' n ≡ None
    own = first_none n (slot image') (λ j. content (slot image' j)) 16 unnamed

    names : (m : Name) → (m ≡ n → ⊥) → (j : ℕ) → j < 16 → named m (slot image' j) ≡ named m (slot image j)
    names m ne j lt =
        ⊎_elim (λ t. free_unnamed m (slot image' j) (freed.free j lt t) ∙ sym (not_named n m (slot image j) ne t)) (λ e. ap (named m) (freed.kept j lt e)) (cases_Bool (named n (slot image j)))

    same : (m : Name) → (m ≡ n → ⊥) → (a b : ℕ → Bytes) → ((j : ℕ) → j < 16 → named m (slot image' j) ≡ true → a j ≡ b j) → first_of m (slot image') a 16 ≡ first_of m (slot image) b 16
    same m ne a b alike = first_same m (slot image') (slot image) a b 16 (names m ne) alike

    others : (m : Name) → (m ≡ n → ⊥) → held image' m ≡ held image m
    others m ne =
        same m ne (λ j. content (slot image' j)) (λ j. content (slot image j))
        (λ j lt t. ⊎_elim (λ u. absurd (both_ways _ (free_unnamed m (slot image' j) (freed.free j lt u)) t)) (λ e. ap content (freed.kept j lt e)) (cases_Bool (named n (slot image j))))

    taken : free (slot image k) ≡ false
    taken = named_taken n (slot image k) found.1

    gain : suc (free_slots image) ≤ free_slots image'
    gain =
        free_gain (slot image) (slot image') 16 k found.0 taken (freed.free k found.0 found.1)
        (λ i lt t. ap free (freed.kept i lt (free_unnamed n (slot image i) t)) ∙ t)

-- slots without room for a head hold no file
pub empty_small : (image : Bytes) → slot_size image < 37 → Empty image
unfolding held free_slots
empty_small image small =
    record {
      none = λ n. first_none n (slot image) (λ j. content (slot image j)) 16 (λ j lt. ⊎_elim (λ t. absurd (omega (arith, (named_parts n (slot image j) t).1, length_slot image j lt))) (λ f. f) (cases_Bool (named n (slot image j))));
      free =
          free_none (slot image) 16 (λ j lt. ⊎_elim (λ t. absurd (omega (arith, free_head (slot image j) t, length_slot image j lt))) (λ f. f) (cases_Bool (free (slot image j))))
          ∙ sym (ap (λ (b : Bool). cond b 16 0) (lt-leb 37 (slot_size image) small));
    }

-- slots with room for a head, of which the first k are free
pub record Vacant (image : Bytes) (k : ℕ) : Type 0 where
  pub large : 37 ≤ slot_size image
  pub below : (j : ℕ) → j < k → free (slot image j) ≡ true

pub vacant_none : (image : Bytes) → 37 ≤ slot_size image → Vacant image 0
vacant_none image large = record { large = large; below = λ j lt. absurd (omega (arith, lt)) }

-- one slot more is free
pub vacant_more : (image : Bytes) (k : ℕ) → Vacant image k → (new image' : Bytes) → k < 16 → length new ≡ slot_size image → free new ≡ true → image' ≡ overwrite image (k * slot_size image) new → Vacant image' (k + 1)
vacant_more image k some new image' in_image whole vacant put =
    record {
      large = omega (arith, some.large, ap slot_size put ∙ put_size image k new in_image whole);
      below = below_more _ k (λ j lt. ap free (there j lt) ∙ some.below j lt) (ap free here ∙ vacant);
    }
  where
    here : slot image' k ≡ new
    here = ap (λ (i : Bytes). slot i k) put ∙ slot_put image k new in_image whole

    there : (j : ℕ) → j < k → slot image' j ≡ slot image j
    there j lt = ap (λ (i : Bytes). slot i j) put ∙ slot_other image k new in_image whole j (omega arith) (λ e. omega arith)

-- an image of free slots holds no file
pub empty_vacant : (image : Bytes) → Vacant image 16 → Empty image
unfolding held free_slots
empty_vacant image all =
    record {
      none = λ n. first_none n (slot image) (λ j. content (slot image j)) 16 (λ j lt. free_unnamed n (slot image j) (all.below j lt));
      free = free_all (slot image) 16 all.below ∙ sym (ap (λ (b : Bool). cond b 16 0) (le-leb 37 (slot_size image) all.large));
    }
