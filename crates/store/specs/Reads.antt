-- What a read of a set is answered: a refusal, a changed page from memory, or a page from the card.
use Rattle.std.specs.Prelude.{◌≡◌, ℕ, ◌-◌, ◌*◌, Bool, cond, ◌&&◌, List, [], ◌∷◌, replicate, Some, None, Ok, Err, Option, Result, ◌==◌, nat_le, nat_lt, slice_index}
use Rattle.card.specs.declared.fault.Cause.{Cause}
use Rattle.card.specs.declared.fault.Cause.TheVariants.{Power, Device, Absent, Present, Range}
use Rattle.card.specs.Meaning.{Meaning, Bytes, Name}
use Rattle.card.specs.Calls.{read, part}
use Rattle.names.specs.Files.{names_of, how_many}
use Rattle.names.specs.Names.{named}
use Rattle.refusal.specs.declared.fault.SetFault.{SetFault}
use Rattle.refusal.specs.declared.refusals.Refusal.{Refusal}
use Rattle.refusal.specs.declared.refusals.Refusal.TheVariants.{NoDatabase, BufferLength, Page}
use Rattle.pager.specs.declared.memory.Memory.{Memory}
use Rattle.pager.specs.View.{view}
use Rattle.journaling.specs.Changes.{contents}
use Rattle.steps.specs.declared.site.Site.{Site}
use Rattle.steps.specs.Tasks.{task, Went, ToldBytes}
use Rattle.store.specs.declared.set.Set.{Set}
use Rattle.store.specs.declared.mode.Mode.{Mode}
use Rattle.store.specs.declared.mode.Mode.TheVariants.{Cold}
use Rattle.store.specs.declared.mode.Call.TheVariants.{Read}
use Rattle.store.specs.Modes.{says}
use Rattle.store.specs.Calls.{or_else, Fresh, told}

-- the page is one of the database's
abbrev pub page_there : Memory → ℕ → ℕ → Bool
page_there m d p = nat_le 1 p && nat_le p (slice_index m.sizes d)

abbrev pub page_refusal : Memory → ℕ → ℕ → ℕ → Option Refusal
page_refusal m d p long = cond (nat_lt d m.count) (cond (long == 512) (cond (page_there m d p) None (Some Page)) (Some BufferLength)) (Some NoDatabase)

-- why a read is refused before the card is asked, if it is
abbrev pub read_refusal : Mode → ℕ → Memory → ℕ → ℕ → ℕ → Option Refusal
read_refusal mode begun m d p long = or_else (says mode begun Read) (page_refusal m d p long)

-- where a page lies in a database
abbrev pub place : ℕ → ℕ
place p = (p - 1) * 512

abbrev pub at_reading : ℕ → Site
at_reading d = record { step = None; file = d; «record» = 0 }

module _ (mode : Mode) (memory : Memory) (rows : List ℕ) (mode' : Mode) (memory' : Memory) where
  -- after a power failure the set is cold and its memory is that of the stored sizes; any other cause leaves both
  abbrev pub Left : Cause → Type 0
  Left Power = (mode' ≡ Cold) × Fresh memory rows memory'
  Left Device = (mode' ≡ mode) × (memory' ≡ memory)
  Left Absent = (mode' ≡ mode) × (memory' ≡ memory)
  Left Present = (mode' ≡ mode) × (memory' ≡ memory)
  Left Range = (mode' ≡ mode) × (memory' ≡ memory)

abbrev pub LeftBy : Result (Unit {0}) SetFault → Mode → Memory → List ℕ → Mode → Memory → Type 0
LeftBy (Ok u) mode memory rows mode' memory' = (mode' ≡ mode) × (memory' ≡ memory)
LeftBy (Err f) mode memory rows mode' memory' = Left mode memory rows mode' memory' f.journal.card.cause

-- the name of a database's file
abbrev pub file_of : {C : Type 0} → Set C → ℕ → Name
file_of s d = named (names_of s.names) d

module _ {C : Type 0} (m : Meaning C) (d p : ℕ) (s : Set C) (old : Bytes) (r : Result (Unit {0}) Refusal) (s' : Set C) (new : Bytes) where
  -- one call of the card reads the page, and its answer is told
  pub record FromCard : Type 0 where
    pub answer : Result (Unit {0}) SetFault
    pub went : Went m (task (at_reading d) (file_of s d) (read (place p) 512) ∷ []) s.card answer s'.card
    pub bytes : ToldBytes (m.holds s.card (file_of s d)) (place p) old answer new
    pub told : r ≡ told answer
    pub left : LeftBy answer s.mode s.memory s.stored.rows s'.mode s'.memory

  -- by the refusal, if any, and what the memory holds of the page
  abbrev pub Reads : Option Refusal → Option Bytes → Type 0
  Reads (Some e) held = (r ≡ Err e) × (s' ≡ s) × (new ≡ old)
  Reads None (Some bytes) = (r ≡ Ok tt) × (s' ≡ s) × (new ≡ bytes)
  Reads None None = FromCard

-- what the files of a set's databases hold; past the last of them zeros of the stored size, so that the files of
-- all numbers can hold what is stored
abbrev pub files_of : {C : Type 0} → Meaning C → Set C → ℕ → Bytes
files_of m s d = cond (nat_lt d (how_many s.names)) (contents (m.holds s.card (file_of s d))) (replicate (slice_index s.stored.rows d * 512) 0)

-- a read that is answered well shows the page that the transaction holds, over what the files hold
abbrev pub Shows : {C : Type 0} → Meaning C → ℕ → ℕ → Set C → Result (Unit {0}) Refusal → Bytes → Type 0
Shows m d p s r new = r ≡ Ok tt → new ≡ part ((view (files_of m s) s.memory).held.current d) (place p) 512
