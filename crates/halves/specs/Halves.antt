-- An image in two halves of equal size: what is surely kept, and what the files hold now.
-- A file lies in the same slot of both. Names are looked up in the current half.
use Rattle.std.specs.Prelude.{◌≡◌, ℕ, ◌%◌, ◌<◌, ◌≤◌, max, cond, [], map, length, take, Some, None, Option, Result, ◌==◌, ◌≢◌, slice_index}
use Rattle.std.specs.List.{range_with_len}
use Rattle.card.specs.declared.fault.Cause.{Cause}
use Rattle.card.specs.Meaning.{Bytes, Name}
use Rattle.card.specs.Calls.{Op, length_of, read, create, write, set_length, sync, delete}
use Rattle.halves.specs.declared.kept.Kept.{Kept}
use Rattle.halves.specs.declared.kept.Kept.TheVariants.{Synced, Current, Mixed}
use Rattle.image.specs.Layout.{content, slot, slot_count, held, first_of, free_slots}
use Rattle.image.specs.Stored.{Done, answer_of, refusal}

-- an even place from the current content, an odd one from the synced, zero where there is none
abbrev pub mixed_byte : Bytes → Bytes → ℕ → ℕ
mixed_byte current synced k = cond (k % 2 == 0) (slice_index current k) (slice_index synced k)

-- two contents mixed byte by byte, at the longer length
unfoldable pub mixed : Bytes → Bytes → Bytes
mixed current synced = map (mixed_byte current synced) (range_with_len 0 (max (length current) (length synced)))

-- what the synced half has of the file n
unfoldable pub backed : Bytes → Bytes → Name → Option Bytes
backed current synced n = first_of n (slot current) (λ k. content (slot synced k)) slot_count

-- what a power failure keeps of a file
abbrev pub kept_content : Kept → Bytes → Bytes → Bytes
kept_content Synced current synced = synced
kept_content Current current synced = current
kept_content Mixed current synced = mixed current synced

abbrev pub kept_of : Kept → Option Bytes → Option Bytes → Option Bytes
kept_of kept None synced = None
kept_of kept (Some current) None = None
kept_of kept (Some current) (Some synced) = Some (kept_content kept current synced)

-- each file became what is kept of it, and both halves have that
pub record KeptAs (kept : Kept) (current synced current' synced' : Bytes) : Type 0 where
  pub holds : (n : Name) → held current' n ≡ kept_of kept (held current n) (backed current synced n)
  pub backs : (n : Name) → backed current' synced' n ≡ held current' n
  pub frees : free_slots current' ≡ free_slots current
  pub long : length current' ≡ length current

-- what the synced half has of a call's file after the work
abbrev pub backing : Op → Option Bytes → Option Bytes → Option Bytes
backing length_of current synced = synced
backing (read place count) current synced = synced
backing create current synced = Some []
backing (write place bytes) current synced = synced
backing (set_length n) current synced = synced
backing sync current synced = current
backing delete current synced = None

-- the call did its work on the current half, and on the synced one where that is the call's work
pub record PairDone (op : Op) (n : Name) (current synced current' synced' : Bytes) : Type 0 where
  pub done : Done op n current current'
  pub own : backed current' synced' n ≡ backing op (held current n) (backed current synced n)
  pub others : (m : Name) → (m ≢ n) → backed current' synced' m ≡ backed current synced m

abbrev pub PairLeft : Option Cause → Op → Name → Bytes → Bytes → Bytes → Bytes → Type 0
PairLeft None op n current synced current' synced' = PairDone op n current synced current' synced'
PairLeft (Some x) op n current synced current' synced' = (current' ≡ current) × (synced' ≡ synced)

pub record Paired {V : Type 0} (op : Op) (n : Name) (current synced : Bytes) (r : Result V Cause) (current' synced' : Bytes) : Type 0 where
  pub answer : refusal r ≡ answer_of op n current
  pub left : PairLeft (refusal r) op n current synced current' synced'
  pub long : length current' ≡ length current

-- the slot k of the synced half became the current one's, and no other slot changed
pub record Settled (current synced : Bytes) (k : ℕ) (synced' : Bytes) : Type 0 where
  pub long : length synced' ≡ length synced
  pub here : slot synced' k ≡ slot current k
  pub there : (j : ℕ) → j < slot_count → (j ≢ k) → slot synced' j ≡ slot synced j

-- the slot k has what is kept of its file in both halves, and no other slot changed
pub record SlotKept (kept : Kept) (k : ℕ) (current synced current' synced' : Bytes) : Type 0 where
  pub long : length current' ≡ length current
  pub name : take 33 (slot current' k) ≡ take 33 (slot current k)
  pub bytes : content (slot current' k) ≡ kept_content kept (content (slot current k)) (content (slot synced k))
  pub others : (j : ℕ) → j < slot_count → (j ≢ k) → slot current' j ≡ slot current j
  pub settled : Settled current' synced k synced'

-- of the first k slots, each has what is kept of it in both halves; the others are as they were
pub record KeptBelow (kept : Kept) (current synced : Bytes) (k : ℕ) (current' synced' : Bytes) : Type 0 where
  pub long : length current' ≡ length current
  pub long_synced : length synced' ≡ length synced
  pub name : (j : ℕ) → j < k → take 33 (slot current' j) ≡ take 33 (slot current j)
  pub bytes : (j : ℕ) → j < k → content (slot current' j) ≡ kept_content kept (content (slot current j)) (content (slot synced j))
  pub alike : (j : ℕ) → j < k → slot synced' j ≡ slot current' j
  pub rest : (j : ℕ) → k ≤ j → j < slot_count → slot current' j ≡ slot current j
  pub rest_synced : (j : ℕ) → k ≤ j → j < slot_count → slot synced' j ≡ slot synced j

-- the first k bytes of a file are mixed, and the rest is as it was
pub record MixedBelow (current synced : Bytes) (k : ℕ) (current' : Bytes) : Type 0 where
  pub bytes : (i : ℕ) → i < k → slice_index current' i ≡ mixed_byte current synced i
  pub rest : (i : ℕ) → k ≤ i → slice_index current' i ≡ slice_index current i
