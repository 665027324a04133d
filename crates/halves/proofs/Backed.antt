-- What the synced half has of each file, as calls change the halves.
use Rattle.std.proofs.Common.{◌≡◌, ℕ, zero, suc, ◌<◌, Bool, true, false, cond, length, Some, None, Err, Option, Result, sym, refl, ap, ◌∙◌, subst}
use Rattle.card.specs.declared.fault.Cause.{Cause}
use Rattle.card.specs.declared.fault.Cause.TheVariants.{Absent}
use native.Mathlib.Decide.{ℕ_discrete}
use Rattle.std.proofs.lemmas.Bool.{both_ways}
use Rattle.card.specs.Meaning.{Bytes, Name}
use Rattle.card.specs.Calls.{Op, create, sync, delete, test}
use Rattle.card.proofs.Every.{some_none}
use Rattle.image.specs.Layout.{named, content, slot, held, first_of, or_else, FirstSlot}
use Rattle.image.specs.Stored.{Done, Stored, Left, PresentAt, refusal, moves}
use Rattle.halves.specs.Halves.{backed, backing, PairDone, PairLeft, Paired, Settled}
use Rattle.image.proofs.Named.{not_named}
use Rattle.image.proofs.First.{first_same, first_at}
use Rattle.image.proofs.Files.{held_at, held_none, answer_absent, done_looked}

-- whether a slot of the name is found does not hang on what belongs to it
or_none : (a b : Option Bytes) → or_else a b ≡ None → (a ≡ None) × (b ≡ None)
or_none None b e = (refl, e)
or_none (Some x) b e = absurd (some_none e)

cond_none : (t : Bool) (x y : Bytes) → cond t (Some x) None ≡ None → cond t (Some y) None ≡ None
cond_none true x y e = absurd (some_none e)
cond_none false x y e = refl

pub first_absent : (n : Name) (f a b : ℕ → Bytes) (k : ℕ) → first_of n f a k ≡ None → first_of n f b k ≡ None
unfolding first_of
first_absent n f a b zero e = refl
first_absent n f a b (suc k) e =
    let p = or_none (first_of n f a k) (cond (named n (f k)) (Some (a k)) None) e in
    mathlib.Core.Path.ap₂ or_else (first_absent n f a b k p.0) (cond_none (named n (f k)) (a k) (b k) p.1)

pub backed_absent : (current synced : Bytes) (n : Name) → held current n ≡ None → backed current synced n ≡ None
unfolding held backed
backed_absent current synced n e = first_absent n (slot current) (λ k. content (slot current k)) (λ k. content (slot synced k)) 16 e

-- the synced content of a file is the content of the synced slot that the current half has it in
pub backed_at : (current synced : Bytes) (n : Name) (k : ℕ) → FirstSlot (named n) current (Some k) → backed current synced n ≡ Some (content (slot synced k))
unfolding backed
backed_at current synced n k found = first_at n (slot current) (λ j. content (slot synced j)) 16 k found.0 found.1 found.2

-- a settled slot matters to the file that lies in it alone
pub backed_settled :
    (current synced synced' : Bytes) (n m : Name) (k : ℕ) → (m ≡ n → ⊥) → named n (slot current k) ≡ true → ((j : ℕ) → j < 16 → (j ≡ k → ⊥) → slot synced' j ≡ slot synced j) →
    backed current synced' m ≡ backed current synced m
unfolding backed
backed_settled current synced synced' n m k ne is there = first_same m (slot current) (slot current) (λ j. content (slot synced' j)) (λ j. content (slot synced j)) 16 (λ j lt. refl) each
  where
    each : (j : ℕ) → j < 16 → named m (slot current j) ≡ true → content (slot synced' j) ≡ content (slot synced j)
    each j lt t = by (ℕ_discrete j k)
      where
        by : Dec (j ≡ k) → content (slot synced' j) ≡ content (slot synced j)
        by (yes e) = absurd (both_ways _ (not_named n m (slot current k) ne is) (subst (λ (i : ℕ). named m (slot current i) ≡ true) e t))
        by (no away) = ap content (there j lt away)

-- the files stay in their slots
pub backed_moved : (op : Op) (n m : Name) (current synced current' : Bytes) → Done op n current current' → (moves op ≡ true → m ≡ n → ⊥) → backed current' synced m ≡ backed current synced m
unfolding backed
backed_moved op n m current synced current' done ne = done.slots m (λ k. content (slot synced k)) ne

-- a call that moves no file leaves the synced half to what it is
pub pair_stays :
    (op : Op) (n : Name) (current synced current' : Bytes) → Done op n current current' → moves op ≡ false → ((c s : Option Bytes) → backing op c s ≡ s) → PairDone op n current synced current' synced
pair_stays op n current synced current' done still keeps =
    record {
      done = done;
      own = backed_moved op n n current synced current' done (λ t. absurd (both_ways (moves op) still t)) ∙ sym (keeps (held current n) (backed current synced n));
      others = λ m ne. backed_moved op n m current synced current' done (λ t. ne);
    }

-- a call on the current half alone
pub stored_paired :
    {V : Type 0} (op : Op) (n : Name) (current synced : Bytes) {r : Result V Cause} {current' : Bytes} →
    Stored op n current r current' → length current' ≡ length current → moves op ≡ false → ((c s : Option Bytes) → backing op c s ≡ s) → Paired op n current synced r current' synced
stored_paired op n current synced {r} {current'} stored long still keeps = record { answer = stored.answer; left = by (refusal r) stored.left; long = long }
  where
    by : (x : Option Cause) → Left x op n current current' → PairLeft x op n current synced current' synced
    by None done = pair_stays op n current synced current' done still keeps
    by (Some x) e = (e, refl)

-- an absent file's refusal that a call passes up, with both halves as they were
pub passed_paired :
    {V : Type 0} (op : Op) (n : Name) (current synced : Bytes) (r : Result V Cause) (x : Cause) → (y : Cause) × (r ≡ Err y) × (y ≡ x) → PresentAt n current (Err x) →
    test op None ≡ Some Absent → Paired {V = V} op n current synced r current synced
passed_paired op n current synced r x passed why absent =
    rw (passed.1, passed.2) (record { answer = answer_absent current n op x why.0 why.1 absent; left = (refl, refl); long = refl })

pub pair_synced : (n : Name) (current synced synced' : Bytes) (k : ℕ) → FirstSlot (named n) current (Some k) → Settled current synced k synced' → PairDone sync n current synced current synced'
pair_synced n current synced synced' k found settled =
    record {
      done = done_looked sync n current refl (λ j. refl);
      own = backed_at current synced' n k found ∙ ap (λ (s : Bytes). Some (content s)) settled.here ∙ sym (held_at current n k found);
      others = λ m ne. backed_settled current synced synced' n m k ne found.1 settled.there;
    }

pub pair_created :
    (n : Name) (current synced current' synced' : Bytes) (k : ℕ) → Done create n current current' → FirstSlot (named n) current' (Some k) → Settled current' synced k synced' → PairDone create n current synced current' synced'
pair_created n current synced current' synced' k done found settled =
    record {
      done = done;
      own = backed_at current' synced' n k found ∙ ap (λ (s : Bytes). Some (content s)) settled.here ∙ sym (held_at current' n k found) ∙ done.own;
      others = λ m ne. backed_settled current' synced synced' n m k ne found.1 settled.there ∙ backed_moved create n m current synced current' done (λ t. ne);
    }

-- a created file has a slot
pub created_found : (n : Name) (current current' : Bytes) → Done create n current current' → FirstSlot (named n) current' None → ⊥
created_found n current current' done none = some_none (sym done.own ∙ held_none current' n none)

pub pair_deleted :
    (n : Name) (current synced current' synced' : Bytes) (k : ℕ) → Done delete n current current' → FirstSlot (named n) current (Some k) → Settled current' synced k synced' → PairDone delete n current synced current' synced'
pair_deleted n current synced current' synced' k done found settled =
    record {
      done = done;
      own = backed_absent current' synced' n done.own;
      others = λ m ne. backed_moved delete n m current synced' current' done (λ t. ne) ∙ backed_settled current synced synced' n m k ne found.1 settled.there;
    }
