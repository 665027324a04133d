-- Slots given what is kept of their files, one after the other, and what both halves then hold.
use Rattle.std.proofs.Common.{◌≡◌, ℕ, zero, suc, ◌*◌, ◌/◌, ◌<◌, Bool, true, false, cond, ◌⊎◌, length, take, Some, None, Option, sym, refl, ap, ◌∙◌, subst, ap₂, inl, inr, ⊎_elim, arith}
use Rattle.std.proofs.lemmas.Bool.{cases_Bool}
use Rattle.card.specs.Meaning.{Bytes, Name}
use Rattle.card.specs.Calls.{overwrite}
use Rattle.card.proofs.Every.{some_none}
use Rattle.halves.specs.declared.kept.Kept.{Kept}
use Rattle.image.specs.Layout.{named, content, slot, slot_size, held, first_of, or_else, free_slots}
use Rattle.halves.specs.Halves.{backed, kept_content, kept_of, KeptAs, KeptBelow, SlotKept, Settled}
use Rattle.image.proofs.Named.{named_front, free_front, named_parts}
use Rattle.image.proofs.First.{first_same, first_none, free_same}
use Rattle.image.proofs.Slices.{slot_put, slot_other, put_length, length_slot}

-- a slot of the synced half is written over by the current one's
pub settled_put : (current synced synced' new : Bytes) (k : ℕ) → k < 16 → new ≡ slot current k → length new ≡ slot_size synced → synced' ≡ overwrite synced (k * slot_size synced) new → Settled current synced k synced'
settled_put current synced synced' new k in_image is whole put =
    record {
      long = ap length put ∙ put_length synced k new in_image whole;
      here = ap (λ (i : Bytes). slot i k) put ∙ slot_put synced k new in_image whole ∙ is;
      there = λ j lt ne. ap (λ (i : Bytes). slot i j) put ∙ slot_other synced k new in_image whole j lt ne;
    }

-- a slot is given what is kept of its file, and settled
pub slot_kept :
    (kept : Kept) (current synced mid new current' synced' : Bytes) (k : ℕ) → k < 16 → length new ≡ slot_size current → take 33 new ≡ take 33 (slot current k) →
    content new ≡ kept_content kept (content (slot current k)) (content (slot synced k)) → mid ≡ overwrite current (k * slot_size current) new → current' ≡ mid → Settled mid synced k synced' → SlotKept kept k current synced current' synced'
slot_kept kept current synced mid new current' synced' k in_image whole name bytes put same settled =
    record {
      long = ap length (same ∙ put) ∙ put_length current k new in_image whole;
      name = ap (take 33) here ∙ name;
      bytes = ap content here ∙ bytes;
      others = λ j lt ne. ap (λ (i : Bytes). slot i j) (same ∙ put) ∙ slot_other current k new in_image whole j lt ne;
      settled = subst (λ (x : Bytes). Settled x synced k synced') (sym same) settled;
    }
  where
    here : slot current' k ≡ new
    here = ap (λ (i : Bytes). slot i k) (same ∙ put) ∙ slot_put current k new in_image whole

-- what belongs to the first slot of a name, made of what belongs to it in two ways
or_else_kept :
    (kept : Kept) (a s b t : Option Bytes) → ((a ≡ None) × (s ≡ None)) ⊎ ((x : Bytes) × (y : Bytes) × (a ≡ Some x) × (s ≡ Some y)) →
    or_else (kept_of kept a s) (kept_of kept b t) ≡ kept_of kept (or_else a b) (or_else s t)
or_else_kept kept a s b t (inl e) =
    ap₂ (λ (x y : Option Bytes). or_else (kept_of kept x y) (kept_of kept b t)) e.0 e.1 ∙ sym (ap₂ (λ (x y : Option Bytes). kept_of kept (or_else x b) (or_else y t)) e.0 e.1)
or_else_kept kept a s b t (inr p) =
    ap₂ (λ (x y : Option Bytes). or_else (kept_of kept x y) (kept_of kept b t)) p.2 p.3 ∙ sym (ap₂ (λ (x y : Option Bytes). kept_of kept (or_else x b) (or_else y t)) p.2 p.3)

cond_kept : (kept : Kept) (u : Bool) (x y : Bytes) → cond u (Some (kept_content kept x y)) None ≡ kept_of kept (cond u (Some x) None) (cond u (Some y) None)
cond_kept kept true x y = refl
cond_kept kept false x y = refl

-- found in both ways or in neither
first_both :
    (n : Name) (f a s : ℕ → Bytes) (k : ℕ) → ((first_of n f a k ≡ None) × (first_of n f s k ≡ None)) ⊎ ((x : Bytes) × (y : Bytes) × (first_of n f a k ≡ Some x) × (first_of n f s k ≡ Some y))
unfolding first_of
first_both n f a s zero = inl (refl, refl)
first_both n f a s (suc k) = by (first_both n f a s k) (cases_Bool (named n (f k)))
  where
    Here : Type 0
    Here =
        ((or_else (first_of n f a k) (cond (named n (f k)) (Some (a k)) None) ≡ None) × (or_else (first_of n f s k) (cond (named n (f k)) (Some (s k)) None) ≡ None))
        ⊎ ((x : Bytes) × (y : Bytes) × (or_else (first_of n f a k) (cond (named n (f k)) (Some (a k)) None) ≡ Some x) × (or_else (first_of n f s k) (cond (named n (f k)) (Some (s k)) None) ≡ Some y))

    by :
        ((first_of n f a k ≡ None) × (first_of n f s k ≡ None)) ⊎ ((x : Bytes) × (y : Bytes) × (first_of n f a k ≡ Some x) × (first_of n f s k ≡ Some y)) →
        (named n (f k) ≡ true) ⊎ (named n (f k) ≡ false) → Here
    by (inr p) t =
        inr (p.0, p.1, ap (λ (o : Option Bytes). or_else o (cond (named n (f k)) (Some (a k)) None)) p.2, ap (λ (o : Option Bytes). or_else o (cond (named n (f k)) (Some (s k)) None)) p.3)
    by (inl e) (inl t) =
        inr (a k, s k, ap₂ or_else e.0 (ap (λ (u : Bool). cond u (Some (a k)) None) t), ap₂ or_else e.1 (ap (λ (u : Bool). cond u (Some (s k)) None) t))
    by (inl e) (inr t) = inl (ap₂ or_else e.0 (ap (λ (u : Bool). cond u (Some (a k)) None) t), ap₂ or_else e.1 (ap (λ (u : Bool). cond u (Some (s k)) None) t))

-- a present file has something in the synced half too
pub held_backed : (current synced : Bytes) (n : Name) (a : Bytes) → held current n ≡ Some a → (s : Bytes) × (backed current synced n ≡ Some s)
unfolding held backed
held_backed current synced n a e = by (first_both n (slot current) (λ k. content (slot current k)) (λ k. content (slot synced k)) 16)
  where
    by :
        ((held current n ≡ None) × (backed current synced n ≡ None)) ⊎ ((x : Bytes) × (y : Bytes) × (held current n ≡ Some x) × (backed current synced n ≡ Some y)) →
        (s : Bytes) × (backed current synced n ≡ Some s)
    by (inl none) = absurd (some_none (sym e ∙ none.0))
    by (inr both) = (both.1, both.3)

first_kept : (kept : Kept) (n : Name) (f a s : ℕ → Bytes) (k : ℕ) → first_of n f (λ j. kept_content kept (a j) (s j)) k ≡ kept_of kept (first_of n f a k) (first_of n f s k)
unfolding first_of
first_kept kept n f a s zero = refl
first_kept kept n f a s (suc k) =
    ap₂ or_else (first_kept kept n f a s k) (cond_kept kept (named n (f k)) (a k) (s k)) ∙ or_else_kept kept (first_of n f a k) (first_of n f s k) _ _ (first_both n f a s k)

-- with every slot done, each file is what is kept of it
pub kept_as : (kept : Kept) (current synced current' synced' : Bytes) → KeptBelow kept current synced 16 current' synced' → KeptAs kept current synced current' synced'
unfolding held backed free_slots
kept_as kept current synced current' synced' all = record { holds = holds; backs = backs; frees = free_same (slot current') (slot current) 16 (λ j lt. free_front (slot current j) (slot current' j) (size j lt) (all.name j lt)); long = all.long }
  where
    size : (j : ℕ) → j < 16 → length (slot current' j) ≡ length (slot current j)
    size j lt = length_slot current' j lt ∙ ap (λ (n : ℕ). n / 16) all.long ∙ sym (length_slot current j lt)

    names : (n : Name) (j : ℕ) → j < 16 → named n (slot current' j) ≡ named n (slot current j)
    names n j lt = named_front n (slot current j) (slot current' j) (size j lt) (all.name j lt)

    holds : (n : Name) → held current' n ≡ kept_of kept (held current n) (backed current synced n)
    holds n =
        first_same n (slot current') (slot current) (λ j. content (slot current' j)) (λ j. kept_content kept (content (slot current j)) (content (slot synced j))) 16 (names n) (λ j lt t. all.bytes j lt)
        ∙ first_kept kept n (slot current) (λ j. content (slot current j)) (λ j. content (slot synced j)) 16

    backs : (n : Name) → backed current' synced' n ≡ held current' n
    backs n = first_same n (slot current') (slot current') (λ j. content (slot synced' j)) (λ j. content (slot current' j)) 16 (λ j lt. refl) (λ j lt t. ap content (all.alike j lt))

-- slots without room for a head have no file to keep
pub kept_small : (kept : Kept) (current synced : Bytes) → slot_size current < 37 → KeptAs kept current synced current synced
unfolding held backed
kept_small kept current synced small =
    record {
      holds = λ n. none n (λ k. content (slot current k)) ∙ sym (ap₂ (kept_of kept) (none n (λ k. content (slot current k))) (none n (λ k. content (slot synced k))));
      backs = λ n. none n (λ k. content (slot synced k)) ∙ sym (none n (λ k. content (slot current k)));
      frees = refl;
      long = refl;
    }
  where
    none : (n : Name) (belongs : ℕ → Bytes) → first_of n (slot current) belongs 16 ≡ None
    none n belongs =
        first_none n (slot current) belongs 16 (λ j lt. ⊎_elim (λ t. absurd (omega (arith, (named_parts n (slot current j) t).1, length_slot current j lt))) (λ f. f) (cases_Bool (named n (slot current j))))
