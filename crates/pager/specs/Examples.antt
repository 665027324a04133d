-- Small runs of the machine, and a small store of saved pages, for readers of the definitions.
use Rattle.std.specs.Prelude.{◌≡◌, ℕ, zero, suc, Bool, true, false, List, [], ◌∷◌, ◌++◌, map, replicate, Some}
use Rattle.card.specs.Meaning.{Bytes}
use Rattle.pager.specs.declared.saved_page.SavedPage.{SavedPage}
use Rattle.pager.specs.declared.saved_page.Was.{Was}
use Rattle.pager.specs.declared.saved_page.Was.TheVariants.{Changed, Unchanged, Absent}
use Rattle.pager.specs.Machine.{Machine, cleared, pushed, written, saved_in_all, released, back}
use Rattle.pager.specs.Saved.{has, first, gathered}

-- a page of this byte alone
abbrev pub page : ℕ → Bytes
page b = replicate 512 b

-- database 0 has one page, of 7; the others have none
abbrev pub files : ℕ → Bytes
files zero = page 7
files (suc d) = []

-- after savepoint 1 is made, page 1 becomes 8, and page 2 is added, of 9
abbrev pub grown : Machine
grown = written 0 2 (page 9) (written 0 1 (page 8) (pushed (cleared files)))

-- after savepoint 2 is made, page 3 is added, of 5
abbrev pub deeper : Machine
deeper = written 0 3 (page 5) (pushed grown)

-- after each of two savepoints is made, page 1 is written, so both have saved it
abbrev pub twice : Machine
twice = written 0 1 (page 6) (pushed (written 0 1 (page 8) (pushed (cleared files))))

-- which savepoints saved page p of database 0, the top one first
abbrev pub who_saved : ℕ → Machine → List Bool
who_saved p m = map (λ s. s.saved 0 p) m.savepoints

-- savepoint k saved page p of database 0
abbrev pub row : ℕ → ℕ → Was → SavedPage
row k p was = record { level = k; database = 0; page = p; was = was }

-- savepoint 1 saved page 1, savepoint 2 the pages 1 and 2, and savepoint 3 page 2
abbrev pub three : List SavedPage
three = row 1 1 Unchanged ∷ row 2 1 (Changed (page 8)) ∷ row 2 2 Absent ∷ row 3 2 (Changed (page 9)) ∷ []

pub record Examples : Type 0 where
  -- the database has grown by the page after its last, and both pages are changed
  pub now : grown.held.current 0 ≡ page 8 ++ page 9
  pub changed : map (grown.held.changed 0) (1 ∷ 2 ∷ 3 ∷ []) ≡ true ∷ true ∷ false ∷ []
  -- the top savepoint alone saves a page
  pub saved : who_saved 3 deeper ≡ true ∷ false ∷ []
  -- the step back gives what was held before, one page, and the changed pages of before
  pub back_page : (back 1 grown).held.current 0 ≡ page 7
  pub back_changed : map ((back 1 grown).held.changed 0) (1 ∷ 2 ∷ []) ≡ false ∷ false ∷ []
  -- its savepoint stands, and has saved nothing
  pub back_saved : who_saved 3 (back 2 deeper) ≡ false ∷ false ∷ []
  -- over nested savepoints, the step back to each one undoes the growth since it was made
  pub back_upper : (back 2 deeper).held.current 0 ≡ page 8 ++ page 9
  pub back_lower : (back 1 deeper).held.current 0 ≡ page 7
  -- a release keeps what is held now, and what was saved passes to the savepoint below
  pub release_held : (released 1 grown).held.current 0 ≡ page 8 ++ page 9
  pub release_saved : who_saved 3 (released 2 deeper) ≡ true ∷ []
  -- a page that two savepoints saved counts twice; after a release of the upper one it counts once
  pub all_twice : saved_in_all twice.savepoints ≡ 2
  pub all_once : saved_in_all (released 2 twice).savepoints ≡ 1
  -- what page 2 was when savepoint 3 was made; savepoint 1 has not saved it
  pub first_at : first 3 three 0 2 ≡ Some (Changed (page 9))
  pub has_not : has 1 three 0 2 ≡ false
  -- at the release of 2, page 2 passes to 1 once, as it was first saved, and of page 1 stays the copy of 1
  pub passed : gathered 2 [] three ≡ row 1 1 Unchanged ∷ row 1 2 Absent ∷ []
  -- with no savepoint below, all are dropped
  pub dropped : gathered 1 [] three ≡ []
