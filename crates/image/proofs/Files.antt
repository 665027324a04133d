-- What an image holds of a file, by the slot that has its name; and what a change of one slot does.
use Rattle.std.proofs.Common.{◌≡◌, ℕ, suc, ◌*◌, ◌<◌, Bool, true, false, eqb, [], length, take, Some, None, Err, Option, Result, MatchOption, IsSomeAnd, sym, refl, ap, ◌∙◌, subst, ap₂, ⊎_elim, arith}
use native.Mathlib.Decide.{ℕ_discrete}
use Rattle.std.specs.Str.{bytes_eq}
use Rattle.std.proofs.lemmas.Slice.Eq.{bytes_eq-Decides}
use Rattle.std.proofs.lemmas.Bool.{cases_Bool, ne_eqb, both_ways}
use Rattle.card.specs.declared.fault.Cause.{Cause}
use Rattle.card.specs.declared.fault.Cause.TheVariants.{Absent, Range}
use Rattle.card.specs.Meaning.{Bytes, Name}
use Rattle.card.specs.Calls.{Op, create, test, tested, worked, after_name, in_range, name_ok, overwrite, length_told}
use Rattle.image.specs.Layout.{named, free, content, slot, slot_size, held, first_of, free_slots, free_below, FirstSlot}
use Rattle.image.specs.Stored.{answer_of, or_device, crowded, Frees, Done, Stored}
use Rattle.image.proofs.Named.{named_parts, not_named, named_front, free_front, free_unnamed}
use Rattle.image.proofs.First.{first_same, first_none, first_at, free_same, free_less, free_some, free_none}
use Rattle.image.proofs.Slices.{slot_put, slot_other}

module _ (image : Bytes) (n : Name) where
  pub held_none : FirstSlot (named n) image None → held image n ≡ None
  unfolding held
  held_none none = first_none n (slot image) (λ k. content (slot image k)) 16 none

  pub held_at : (k : ℕ) → FirstSlot (named n) image (Some k) → held image n ≡ Some (content (slot image k))
  unfolding held
  held_at k found = first_at n (slot image) (λ j. content (slot image j)) 16 k found.0 found.1 found.2

  -- a call on an absent file is refused as the test of the name, and then of the file, says
  pub answer_absent : (op : Op) (x : Cause) → FirstSlot (named n) image None → Some x ≡ after_name (name_ok n) (Some Absent) → test op None ≡ Some Absent → Some x ≡ answer_of op n image
  answer_absent op x none is absent =
      sym (ap (λ (f : Option Bytes). or_device (tested op n f) (crowded op image)) (held_none none)
      ∙ ap (λ (t : Option Cause). or_device (after_name (name_ok n) t) (crowded op image)) absent
      ∙ ap (λ (t : Option Cause). or_device t (crowded op image)) (sym is))

  -- on a present file the name is lawful
  pub answer_at : (op : Op) (k : ℕ) → FirstSlot (named n) image (Some k) → answer_of op n image ≡ or_device (test op (Some (content (slot image k)))) (crowded op image)
  answer_at op k found =
      ap (λ (f : Option Bytes). or_device (tested op n f) (crowded op image)) (held_at k found)
      ∙ ap (λ (b : Bool). or_device (after_name b (test op (Some (content (slot image k))))) (crowded op image)) (named_parts n (slot image k) found.1).0

  -- on a present file a test of a range decides, and then whether the image has room
  pub answer_range : (op : Op) (k : ℕ) (inside : Bool) → FirstSlot (named n) image (Some k) → test op (Some (content (slot image k))) ≡ in_range inside → inside ≡ false → Some Range ≡ answer_of op n image
  answer_range op k inside found is out =
      sym (answer_at op k found ∙ ap (λ (t : Option Cause). or_device t (crowded op image)) (is ∙ ap in_range out))

  pub answer_room :
      (op : Op) (k : ℕ) (inside full : Bool) → FirstSlot (named n) image (Some k) → test op (Some (content (slot image k))) ≡ in_range inside → inside ≡ true → crowded op image ≡ full →
      answer_of op n image ≡ or_device None full
  answer_room op k inside full found is within room =
      answer_at op k found ∙ ap₂ or_device (is ∙ ap in_range within) room

  -- an absent file of a lawful name
  pub answer_named : (op : Op) → FirstSlot (named n) image None → name_ok n ≡ true → answer_of op n image ≡ or_device (test op None) (crowded op image)
  answer_named op none ok =
      ap (λ (f : Option Bytes). or_device (tested op n f) (crowded op image)) (held_none none)
      ∙ ap (λ (b : Bool). or_device (after_name b (test op None)) (crowded op image)) ok

  -- a whole slot is written
  module _ (k : ℕ) (new image' : Bytes) (in_image : k < 16) (whole : length new ≡ slot_size image) (is : image' ≡ overwrite image (k * slot_size image) new) where
    put_here : slot image' k ≡ new
    put_here = ap (λ (i : Bytes). slot i k) is ∙ slot_put image k new in_image whole

    put_there : (j : ℕ) → j < 16 → (j ≡ k → ⊥) → slot image' j ≡ slot image j
    put_there j lt ne = ap (λ (i : Bytes). slot i j) is ∙ slot_other image k new in_image whole j lt ne

    -- a test of slots that the new slot passes as the old one did, all pass as they did
    alike : (P : Bytes → Bool) → P new ≡ P (slot image k) → (j : ℕ) → j < 16 → P (slot image' j) ≡ P (slot image j)
    alike P same j lt = by (ℕ_discrete j k)
      where
        by : Dec (j ≡ k) → P (slot image' j) ≡ P (slot image j)
        by (yes e) = ap (λ (i : ℕ). P (slot image' i)) e ∙ ap P put_here ∙ same ∙ ap (λ (i : ℕ). P (slot image i)) (sym e)
        by (no ne) = ap P (put_there j lt ne)

    pub done_changed :
        (op : Op) → FirstSlot (named n) image (Some k) → length new ≡ length (slot image k) → take 33 new ≡ take 33 (slot image k) →
        ((was is : ℕ) → is ≡ was → Frees op was is) → worked op (Some (content (slot image k))) ≡ Some (content new) → Done op n image image'
    unfolding held free_slots
    done_changed op found long front frees does = record { own = own; others = others; slots = λ m belongs _. first_same m _ _ belongs belongs 16 (names m) (λ j lt t. refl); frees = frees _ _ count }
      where
        names : (m : Name) (j : ℕ) → j < 16 → named m (slot image' j) ≡ named m (slot image j)
        names m = alike (named m) (named_front m (slot image k) new long front)

        count : free_below (slot image') 16 ≡ free_below (slot image) 16
        count = free_same (slot image') (slot image) 16 (alike free (free_front (slot image k) new long front))

        own : held image' n ≡ worked op (held image n)
        own =
            first_at n (slot image') (λ j. content (slot image' j)) 16 k in_image (names n k in_image ∙ found.1) (λ i h. names n i (omega arith) ∙ found.2 i h)
            ∙ ap (λ (s : Bytes). Some (content s)) put_here ∙ sym does ∙ ap (worked op) (sym (held_at k found))

        others : (m : Name) → (m ≡ n → ⊥) → held image' m ≡ held image m
        others m ne = first_same m (slot image') (slot image) (λ j. content (slot image' j)) (λ j. content (slot image j)) 16 (names m) same
          where
            same : (j : ℕ) → j < 16 → named m (slot image' j) ≡ true → content (slot image' j) ≡ content (slot image j)
            same j lt t = by (ℕ_discrete j k)
              where
                by : Dec (j ≡ k) → content (slot image' j) ≡ content (slot image j)
                by (yes e) =
                    let here : named m (slot image k) ≡ true = subst (λ (i : ℕ). named m (slot image i) ≡ true) e (sym (names m j lt) ∙ t) in
                    absurd (both_ways _ (not_named n m (slot image k) ne found.1) here)
                by (no no-k) = ap content (put_there j lt no-k)

    -- a file put into a free slot
    pub done_created :
        FirstSlot (named n) image None → free (slot image k) ≡ true → content new ≡ [] → ((m : Name) → named m new ≡ bytes_eq n m) → free new ≡ false → Done create n image image'
    unfolding held free_slots
    done_created none vacant empty names taken = record { own = own; others = others; slots = λ m belongs ne. same m (ne refl) belongs belongs (λ j lt t. refl); frees = less }
      where
        less : suc (free_below (slot image') 16) ≡ free_below (slot image) 16
        less = free_less (slot image') (slot image) 16 k in_image (ap free put_here ∙ taken) vacant (λ i lt ne. ap free (put_there i lt ne))

        own : held image' n ≡ Some []
        own =
            first_at n (slot image') (λ j. content (slot image' j)) 16 k in_image
            (ap (named n) put_here ∙ names n ∙ (bytes_eq-Decides n n).1 refl)
            (λ i h. ap (named n) (put_there i (omega arith) (λ e. omega arith)) ∙ none i (omega arith))
            ∙ ap (λ (s : Bytes). Some (content s)) put_here ∙ ap Some empty

        same :
            (m : Name) → (m ≡ n → ⊥) → (a b : ℕ → Bytes) → ((j : ℕ) → j < 16 → named m (slot image' j) ≡ true → a j ≡ b j) →
            first_of m (slot image') a 16 ≡ first_of m (slot image) b 16
        same m ne a b belongs = first_same m (slot image') (slot image) a b 16 alike_named belongs
          where
            other : bytes_eq n m ≡ false
            other = ⊎_elim (λ t. absurd (ne (sym ((bytes_eq-Decides n m).0 t)))) (λ f. f) (cases_Bool (bytes_eq n m))

            alike_named : (j : ℕ) → j < 16 → named m (slot image' j) ≡ named m (slot image j)
            alike_named = alike (named m) (names m ∙ other ∙ sym (free_unnamed m (slot image k) vacant))

        others : (m : Name) → (m ≡ n → ⊥) → held image' m ≡ held image m
        others m ne = same m ne (λ j. content (slot image' j)) (λ j. content (slot image j)) content_same
          where
            content_same : (j : ℕ) → j < 16 → named m (slot image' j) ≡ true → content (slot image' j) ≡ content (slot image j)
            content_same j lt t = by (ℕ_discrete j k)
              where
                by : Dec (j ≡ k) → content (slot image' j) ≡ content (slot image j)
                by (yes e) =
                    let here : named m new ≡ true = sym (ap (named m) put_here) ∙ subst (λ (i : ℕ). named m (slot image' i) ≡ true) e t in
                    absurd (ne (sym ((bytes_eq-Decides n m).0 (sym (names m) ∙ here))))
                by (no no-k) = ap content (put_there j lt no-k)

-- a refusal leaves the image
pub refused : {V : Type 0} (op : Op) (n : Name) (image : Bytes) (x : Cause) → Some x ≡ answer_of op n image → Stored {V = V} op n image (Err x) image
refused op n image x is = record { answer = is; left = refl }

-- an absent file's refusal that a call passes up
pub refused_passed :
    {V : Type 0} (op : Op) (n : Name) (image : Bytes) (r : Result V Cause) (x : Cause) → (y : Cause) × (r ≡ Err y) × (y ≡ x) → FirstSlot (named n) image None × (Some x ≡ after_name (name_ok n) (Some Absent)) →
    test op None ≡ Some Absent → Stored {V = V} op n image r image
refused_passed op n image r x passed why absent = rw (passed.1, passed.2) (refused op n image x (answer_absent image n op x why.0 why.1 absent))

-- a call that only looks does so by its answer alone
pub done_looked : (op : Op) (n : Name) (image : Bytes) → held image n ≡ worked op (held image n) → ((k : ℕ) → Frees op k k) → Done op n image image
done_looked op n image same frees = record { own = same; others = λ m ne. refl; slots = λ m belongs ne. refl; frees = frees (free_slots image) }

-- there is a free slot just where the number of them is not 0
pub crowded_none : (image : Bytes) → FirstSlot free image None → eqb (free_slots image) 0 ≡ true
unfolding free_slots
crowded_none image none = ap (λ (k : ℕ). eqb k 0) (free_none (slot image) 16 none)

pub crowded_some : (image : Bytes) (k : ℕ) → FirstSlot free image (Some k) → eqb (free_slots image) 0 ≡ false
unfolding free_slots
crowded_some image k found = ne_eqb (free_below (slot image) 16) 0 (free_some (slot image) 16 k found.0 found.1)

-- what is told of the slot that was found, if any, is the length of the file
pub told_length :
    (image : Bytes) (n : Name) (Told : ℕ → ℕ → Type 0) (found told : Option ℕ) → FirstSlot (named n) image found → MatchOption found (told ≡ None) (λ k. IsSomeAnd told (Told k)) →
    ((k l : ℕ) → k < 16 → Told k l → l ≡ length (content (slot image k))) → told ≡ length_told (held image n)
told_length image n Told None told none is each = is ∙ sym (ap length_told (held_none image n none))
told_length image n Told (Some k) None at is each = absurd is
told_length image n Told (Some k) (Some l) at is each = ap Some (each k l at.0 is) ∙ sym (ap length_told (held_at image n k at))
