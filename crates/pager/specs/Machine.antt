-- The machine of a transaction: what each database holds now and which of its pages are changed, and
-- a stack of savepoints, each with what was held and changed at its making and a set of saved pages.
-- Databases go by number, from 0; pages and savepoints go by number, from 1.
use Rattle.std.specs.Prelude.{ℕ, ◌+◌, ◌-◌, ◌*◌, ◌/◌, false, cond, ◌||◌, List, [], ◌∷◌, length, take, drop, ◌==◌}
use Rattle.card.specs.Meaning.{Bytes}
use Rattle.card.specs.Calls.{overwrite}
use Rattle.page_map.specs.Sets.{PageSet, including, total}

-- the bytes of a page
abbrev pub page_size : ℕ
page_size = 512

-- replace a page of a content, or add the one after its last
abbrev pub put_page : Bytes → ℕ → Bytes → Bytes
put_page content p bytes = overwrite content ((p - 1) * page_size) bytes

-- how many pages a content has
abbrev pub size_of : Bytes → ℕ
size_of content = length content / page_size

-- a value for each database, with another one for the database d
abbrev pub at : {A : Type 0} → (ℕ → A) → ℕ → A → ℕ → A
at each d other k = cond (k == d) other (each k)

-- what the databases hold at one time
pub record Held : Type 0 where
  pub current : ℕ → Bytes
  pub changed : ℕ → PageSet

pub record Savepoint : Type 0 where
  pub held : Held
  pub saved : ℕ → PageSet

pub record Machine : Type 0 where
  pub held : Held
  -- the top one first
  pub savepoints : List Savepoint

abbrev pub no_pages : ℕ → PageSet
no_pages d p = false

-- a page of a database is replaced or added, and is changed from then on
unfoldable pub put : ℕ → ℕ → Bytes → Held → Held
put d p bytes h = record {
  current = at h.current d (put_page (h.current d) p bytes);
  changed = at h.changed d (including (h.changed d) p);
}

-- the top savepoint saves the page, unless it has it already
unfoldable pub saving : ℕ → ℕ → List Savepoint → List Savepoint
saving d p [] = []
saving d p (s ∷ below) = record { held = s.held; saved = at s.saved d (including (s.saved d) p) } ∷ below

abbrev pub written : ℕ → ℕ → Bytes → Machine → Machine
written d p bytes m = record { held = put d p bytes m.held; savepoints = saving d p m.savepoints }

-- a savepoint is made of what is held now; it has saved nothing yet
abbrev pub pushed : Machine → Machine
pushed m = record { held = m.held; savepoints = record { held = m.held; saved = no_pages } ∷ m.savepoints }

-- a page was saved by one of these savepoints
unfoldable pub saved_by : List Savepoint → ℕ → PageSet
saved_by [] d p = false
saved_by (s ∷ ss) d p = s.saved d p || saved_by ss d p

-- how many pages these savepoints have saved, in all four databases; a page that two of them saved counts twice
unfoldable pub saved_in_all : List Savepoint → ℕ
saved_in_all [] = 0
saved_in_all (s ∷ below) = total s.saved 4 + saved_in_all below

-- the pages that these savepoints saved pass to the one below, each once; with none below they are dropped
unfoldable pub pass_down : List Savepoint → List Savepoint → List Savepoint
pass_down removed [] = []
pass_down removed (s ∷ below) = record { held = s.held; saved = λ d p. s.saved d p || saved_by removed d p } ∷ below

-- savepoint s and all above it are removed
abbrev pub released : ℕ → Machine → Machine
released s m =
    let n = length m.savepoints + 1 - s in
    record { held = m.held; savepoints = pass_down (take n m.savepoints) (drop n m.savepoints) }

-- what the first of these savepoints held is restored, and its saved set is emptied
unfoldable pub restored : List Savepoint → Machine → Machine
restored [] m = m
restored (s ∷ below) m = record { held = s.held; savepoints = record { held = s.held; saved = no_pages } ∷ below }

-- the step back to savepoint s: those above it are removed; s is one that stands, 1 to how many there are
abbrev pub back : ℕ → Machine → Machine
back s m = restored (drop (length m.savepoints - s) m.savepoints) m

-- a transaction begins, or starts anew, on what the files hold
abbrev pub cleared : (ℕ → Bytes) → Machine
cleared files = record { held = record { current = files; changed = no_pages }; savepoints = [] }
