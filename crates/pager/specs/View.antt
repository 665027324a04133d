-- The machine that a transaction's memory is, over what the files hold.
use Rattle.std.specs.Prelude.{◌≡◌, ℕ, zero, suc, ◌+◌, ◌-◌, ◌*◌, ◌<◌, ◌≤◌, MatchResult, Bool, true, false, cond, not, ◌&&◌, List, [], ◌∷◌, ◌++◌, length, take, drop, replicate, Some, None, Option, Result, ◌==◌, ◌≢◌, nat_le, nat_lt, slice_index}
use Rattle.card.specs.Meaning.{Bytes}
use Rattle.pager.specs.declared.memory.Memory.{Memory}
use Rattle.pager.specs.declared.saved_page.SavedPage.{SavedPage}
use Rattle.pager.specs.declared.saved_page.Was.{Was}
use Rattle.pager.specs.declared.saved_page.Was.TheVariants.{Changed, Unchanged, Absent}
use Rattle.refusal.specs.declared.refusals.Refusal.{Refusal}
use Rattle.refusal.specs.declared.refusals.Refusal.TheVariants.{NoDatabase, BufferLength, Page, ChangedFull, SavedFull}
use Rattle.page_map.specs.Sets.{total}
use Rattle.refusal.specs.Results.{refused}
use Rattle.pager.specs.Changed.{look}
use Rattle.pager.specs.Saved.{has, first}
use Rattle.pager.specs.Sound.{Fields, map_of, sizes_at, changed_at}
use Rattle.pager.specs.Machine.{Held, Savepoint, Machine}

-- a page of a file; bytes past the file's end are zeros
unfoldable pub file_page : Bytes → ℕ → Bytes
file_page file p = take 512 (drop ((p - 1) * 512) file ++ replicate 512 0)

-- the pages 1 to n, one after the other
unfoldable pub joined : ℕ → (ℕ → Bytes) → Bytes
joined zero page = []
joined (suc n) page = joined n page ++ page (suc n)

-- the bytes in the store, or else those of the file
abbrev pub or_file : Option Bytes → Bytes → Bytes
or_file None file = file
or_file (Some bytes) file = bytes

-- what a saved page was: its bytes, from what it holds now and what the file holds. A page that was not
-- there lies past the end of what the savepoint holds, so its bytes do not count
abbrev pub was_page : Option Was → Bytes → Bytes → Bytes
was_page None held file = held
was_page (Some (Changed bytes)) held file = bytes
was_page (Some Unchanged) held file = file
was_page (Some Absent) held file = file

module _ (files : ℕ → Bytes) (f : Fields) where
  -- what a page holds now
  abbrev pub page_now : ℕ → ℕ → Bytes
  page_now d p = or_file (look f.changed d p) (file_page (files d) p)

  abbrev pub held_now : Held
  held_now = record { current = λ d. joined (slice_index f.sizes d) (page_now d); changed = map_of f.maps }

  -- what savepoint k holds
  abbrev pub held_at : ℕ → Held
  held_at k = record {
    current = λ d. joined (slice_index (sizes_at f k) d) (λ p. was_page (first k f.saved d p) (page_now d p) (file_page (files d) p));
    changed = changed_at f k;
  }

  -- the lowest k savepoints, the top one first
  unfoldable pub stack : ℕ → List Savepoint
  stack zero = []
  stack (suc k) = record { held = held_at (suc k); saved = has (suc k) f.saved } ∷ stack k

abbrev pub fields : Memory → Fields
fields m = record {
  sizes = m.sizes;
  maps = m.maps;
  changed = m.changed.rows.items;
  saved = m.saved.rows.items;
  level_sizes = m.levels.items;
}

-- the machine
abbrev pub view : (ℕ → Bytes) → Memory → Machine
view files m = record { held = held_now files (fields m); savepoints = stack files (fields m) (length m.levels.items) }

-- the files hold so many whole pages
abbrev pub Stored : (ℕ → Bytes) → List ℕ → Type 0
Stored files sizes = (d : ℕ) → length (files d) ≡ slice_index sizes d * 512

-- the page may be written: it is one of the database's, or the next one
abbrev pub page_allowed : Memory → ℕ → ℕ → Bool
page_allowed m d p = nat_le 1 p && (nat_le p (slice_index m.sizes d + 1) && nat_le p 4096)

-- the top savepoint has to save the page first
abbrev pub to_save : Memory → ℕ → ℕ → Bool
to_save m d p = nat_le 1 (length m.levels.items) && not (has (length m.levels.items) (fields m).saved d p)

-- there is no such database, and that is what is told
abbrev pub NoSuch : Memory → ℕ → Refusal → Type 0
NoSuch m d e = (m.count ≤ d) × (e ≡ NoDatabase)

-- an answer about a database: there is such a database and the value is as it should be, or there is none
abbrev pub OfKnown : {V : Type 0} → Memory → ℕ → Result V Refusal → (V → Type 0) → Type 0
OfKnown m d r Is = MatchResult r (λ v. (d < m.count) × Is v) (NoSuch m d)

-- why a write is refused
abbrev pub write_refusal : Memory → ℕ → ℕ → ℕ → Option Refusal
write_refusal m d p long =
    cond (nat_lt d m.count)
    (cond (long == 512)
    (cond (page_allowed m d p)
    (cond (total (map_of m.maps) 4 == 32 && not (map_of m.maps d p)) (Some ChangedFull)
    (cond (length m.saved.rows.items == 32 && to_save m d p) (Some SavedFull) None))
    (Some Page))
    (Some BufferLength))
    (Some NoDatabase)

-- what a page is before it is written
abbrev pub was_of : Option Bytes → Bool → Was
was_of (Some bytes) there = Changed bytes
was_of None true = Unchanged
was_of None false = Absent

-- the saved pages once a page is about to be written
abbrev pub saved_first : Memory → ℕ → ℕ → List SavedPage
saved_first m d p =
    cond (to_save m d p)
    ((fields m).saved ++ (record { level = length m.levels.items; database = d; page = p; was = was_of (look (fields m).changed d p) (nat_le p (slice_index m.sizes d)) } ∷ []))
    (fields m).saved

-- a refusal changes nothing
abbrev pub KeptIfRefused : {V : Type 0} → Result V Refusal → Memory → Memory → Type 0
KeptIfRefused r old new = (refused r ≢ None) → new ≡ old

-- a call that is not refused takes the machine a step
abbrev pub Takes : {V : Type 0} → Result V Refusal → Memory → Memory → (Machine → Machine) → Type 0
Takes r old new step = refused r ≡ None → (files : ℕ → Bytes) → view files new ≡ step (view files old)
