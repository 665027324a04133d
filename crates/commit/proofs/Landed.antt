-- What the file of each database holds after a commit that is done: what it held, with the changed pages
-- written over it.
use Rattle.std.proofs.Common.{◌≡◌, ℕ, zero, suc, ◌+◌, ◌<◌, ◌≤◌, Bool, true, false, cond, ◌⊎◌, List, [], ◌∷◌, ◌++◌, map, length, Some, None, Ok, Option, sym, refl, ap, ◌∙◌, subst, inl, inr, arith}
use native.Mathlib.Decide.{ℕ_discrete}
use Rattle.std.specs.List.{AllByRecursion, range_with_len}
use Rattle.std.specs.Prelude.{filter}
use Rattle.std.proofs.lemmas.Bool.{false≢true, le-leb, cases_lt}
use Rattle.std.proofs.lemmas.List.{nil_from_length}
use Rattle.card.specs.Meaning.{Meaning, Untouched, Bytes, Name}
use Rattle.card.specs.Calls.{write, sync, delete, worked, tested, overwrite, name_ok}
use Rattle.card.specs.Runs.{through, Runs, end, next}
use Rattle.card.specs.Crash.{Leaves}
use Rattle.card.proofs.Every.{not_lawful_absent}
use Rattle.journal.specs.Format.{PageRecord}
use Rattle.names.specs.Files.{how_many, file_of}
use Rattle.names.specs.declared.names.Names.{Names}
use Rattle.names.proofs.Files.{database_is_file, journal_is_file, super_is_file, files_apart}
use Rattle.page_map.specs.Sets.{PageSet, counted}
use Rattle.page_map.specs.Listed.{above}
use Rattle.page_map.proofs.Listed.{above_length}
use Rattle.pager.specs.Machine.{Machine}
use Rattle.refusal.specs.declared.step.Step.TheVariants.{C4}
use Rattle.steps.specs.Tasks.{Task, acts}
use Rattle.steps.proofs.Went.{ran_split}
use Rattle.steps.specs.Safe.{Safe}
use Rattle.steps.proofs.Held.{Spares, all_append, spared_untouched, untouched_safe, untouched_then}
use Rattle.journaling.specs.Plan.{Change, place, for_each, many, call, write_tasks, super_tasks, journal_tasks, change_tasks, only_tasks, super_of, plan, drops, journal_name}
use Rattle.journaling.specs.Changes.{contents, is_changed, changed_list, change_of, changes, pages_held}
use Rattle.commit.specs.Ended.{Committed}
use Rattle.commit.proofs.Making.{journal_spares}
use Rattle.commit.proofs.Dropping.{dropped_safe, dropped_well, dropped_powered}

-- a content after pages were written to it, one after the other
unfoldable pub landed : Bytes → List PageRecord → Bytes
landed content [] = content
landed content (r ∷ rs) = landed (overwrite content (place r.page) r.bytes) rs

-- a file after pages were written to it: to an absent one there was none to write
abbrev pub Landed : Option Bytes → List PageRecord → Option Bytes → Type 0
Landed None rs f = (rs ≡ []) × (f ≡ None)
Landed (Some b) rs f = f ≡ Some (landed b rs)

pub landed_contents : (f : Option Bytes) (rs : List PageRecord) (f' : Option Bytes) → Landed f rs f' → contents f' ≡ landed (contents f) rs
unfolding landed
landed_contents None rs f' l = ap contents l.1 ∙ sym (ap (landed []) l.0)
landed_contents (Some b) rs f' l = ap contents l

-- a present file is present after, and an absent one absent
pub landed_present : (f : Option Bytes) (rs : List PageRecord) (f' : Option Bytes) (b : Bytes) → Landed f rs f' → f ≡ Some b → f' ≡ Some (landed b rs)
landed_present f rs f' b l e = subst (λ (g : Option Bytes). Landed g rs f') e l

pub landed_absent : (f : Option Bytes) (rs : List PageRecord) (f' : Option Bytes) → Landed f rs f' → f ≡ None → f' ≡ None
landed_absent f rs f' l e = let h : Landed None rs f' = subst (λ (g : Option Bytes). Landed g rs f') e l in h.1

landed_none : (f f' : Option Bytes) → f' ≡ f → Landed f [] f'
unfolding landed
landed_none None f' e = (refl, e)
landed_none (Some b) f' e = e

-- a database with no changed page has none to write
none_held : (mach : Machine) (d : ℕ) → is_changed mach.held.changed d ≡ false → pages_held mach d ≡ []
none_held mach d same = ap (map _) (nil_from_length (above s 0 4096) (by (cases_lt 0 (counted s 4096))))
  where
    s : PageSet
    s = mach.held.changed d

    by : (0 < counted s 4096) ⊎ (counted s 4096 ≤ 0) → length (above s 0 4096) ≡ 0
    by (inl some) = absurd (false≢true (sym same ∙ le-leb 1 (counted s 4096) (omega (arith, some))))
    by (inr none) = omega (arith, above_length s 0 4096, none)

module _ {C : Type 0} (m : Meaning C) where
  -- what is written to a file
  write_lands : (n : Name) (d : ℕ) (rs : List PageRecord) (c c' : C) → Runs m (acts (write_tasks n d rs)) c through c' → Landed (m.holds c n) rs (m.holds c' n)
  unfolding write_tasks landed
  write_lands n d [] c c' end = landed_none (m.holds c n) (m.holds c n) refl
  write_lands n d (r ∷ rs) c c' (next {c₁ = e} w run) = by (m.holds c n) w.lawful w.holds (write_lands n d rs e c' run)
    where
      by : (f : Option Bytes) → tested (write (place r.page) r.bytes) n f ≡ None → m.holds e n ≡ worked (write (place r.page) r.bytes) f → Landed (m.holds e n) rs (m.holds c' n) → Landed f (r ∷ rs) (m.holds c' n)
      by None t h l = absurd (not_lawful_absent (name_ok n) t)
      by (Some b) t h l = subst (λ (f : Option Bytes). Landed f rs (m.holds c' n)) h l

  writes_spare : (k n : Name) (d : ℕ) (rs : List PageRecord) → (k ≡ n → ⊥) → AllByRecursion (Spares m k) (write_tasks n d rs)
  unfolding write_tasks
  writes_spare k n d [] ne = tt
  writes_spare k n d (r ∷ rs) ne = (inr ne, writes_spare k n d rs ne)

  -- after a sync nothing else may remain
  synced : (n : Name) (c c' : C) → Runs m (record { name = n; op = sync } ∷ []) c through c' → (m.holds c' n ≡ m.holds c n) × Safe m c' n
  synced n c c' (next w end) = (w.holds, λ b r. w.holds ∙ sym (w.remains b r))

  module _ (file : ℕ → Name) where
    change_lands :
        (ch : Change) (c c' : C) → Runs m (acts (change_tasks file ch)) c through c' →
        Landed (m.holds c (file ch.database)) ch.pages (m.holds c' (file ch.database)) × Safe m c' (file ch.database)
    change_lands ch c c' run =
        let n = file ch.database in
        let q = ran_split m (write_tasks n ch.database ch.pages) _ c c' run in
        let s = synced n q.0 c' q.2 in
        (subst (λ (f : Option Bytes). Landed (m.holds c n) ch.pages f) (sym s.0) (write_lands n ch.database ch.pages c q.0 q.1), s.1)

    change_spares : (k : Name) (ch : Change) → (k ≡ file ch.database → ⊥) → AllByRecursion (Spares m k) (change_tasks file ch)
    change_spares k ch ne = all_append m (Spares m k) (write_tasks (file ch.database) ch.database ch.pages) _ (writes_spare k (file ch.database) ch.database ch.pages ne) (inr ne, tt)

-- what holds of all numbers of a range holds of those that pass a test
passed_all : (P : ℕ → Type 0) (p : ℕ → Bool) (s n : ℕ) → ((i : ℕ) → s ≤ i → i < s + n → P i) → AllByRecursion P (filter p (range_with_len s n))
passed_all P p s zero h = tt
passed_all P p s (suc n) h = by (p s) (passed_all P p (s + 1) n (λ i low high. h i (omega arith) (omega arith)))
  where
    by : (b : Bool) → AllByRecursion P (filter p (range_with_len (s + 1) n)) → AllByRecursion P (cond b (s ∷ filter p (range_with_len (s + 1) n)) (filter p (range_with_len (s + 1) n)))
    by true all = (h s (omega arith) (omega arith), all)
    by false all = all

module _ {C : Type 0} (m : Meaning C) (names : Names) (stored : ℕ → Bytes) (base : List ℕ) (mach : Machine) (d : ℕ) (low : d < how_many names) where
  abbrev file : ℕ → Name
  file = file_of names

  abbrev change : ℕ → Change
  change = change_of stored base mach

  abbrev changed : ℕ → Bool
  changed = is_changed mach.held.changed

  abbrev k : Name
  k = file d

  -- the name of a database is that of no other file
  not_database : (i : ℕ) → i < how_many names → (d ≡ i → ⊥) → k ≡ file i → ⊥
  not_database i lt ne = files_apart names d i (database_is_file (how_many names) d low) (database_is_file (how_many names) i lt) ne

  not_journal : (i : ℕ) → i < how_many names → k ≡ file (4 + i) → ⊥
  not_journal i lt = files_apart names d (4 + i) (database_is_file (how_many names) d low) (journal_is_file (how_many names) i lt) (λ e. omega (arith, names.list.few))

  not_super : k ≡ file 8 → ⊥
  not_super = files_apart names d 8 (database_is_file (how_many names) d low) (super_is_file (how_many names)) (λ e. omega (arith, names.list.few))

  each_spares : (f : Change → List Task) (xs : List ℕ) → AllByRecursion (λ i. AllByRecursion (Spares m k) (f (change i))) xs → AllByRecursion (Spares m k) (for_each f (map change xs))
  unfolding for_each
  each_spares f [] all = tt
  each_spares f (i ∷ xs) all = all_append m (Spares m k) (f (change i)) (for_each f (map change xs)) all.0 (each_spares f xs all.1)

  -- what is done for some of the databases spares the file, if what is done for each does
  range_spares :
      (f : Change → List Task) (s n : ℕ) → ((i : ℕ) → s ≤ i → i < s + n → AllByRecursion (Spares m k) (f (change i))) →
      AllByRecursion (Spares m k) (for_each f (map change (filter changed (range_with_len s n))))
  range_spares f s n h = each_spares f (filter changed (range_with_len s n)) (passed_all (λ i. AllByRecursion (Spares m k) (f (change i))) changed s n h)

  -- with a changed page the database got them all, and they are safe; with none it was left alone
  abbrev After : Bool → C → C → Type 0
  After true c c' = Landed (m.holds c k) (pages_held mach d) (m.holds c' k) × Safe m c' k
  After false c c' = Untouched m c k c'

  after_later : (b : Bool) (c c₁ c₂ : C) → Untouched m c k c₁ → After b c₁ c₂ → After b c c₂
  after_later true c c₁ c₂ u a = (subst (λ (f : Option Bytes). Landed f (pages_held mach d) (m.holds c₂ k)) u.holds a.0, a.1)
  after_later false c c₁ c₂ u a = untouched_then m k c c₁ c₂ u a

  after_before : (b : Bool) (c c₁ c₂ : C) → After b c c₁ → Untouched m c₁ k c₂ → After b c c₂
  after_before true c c₁ c₂ a u = (subst (λ (f : Option Bytes). Landed (m.holds c k) (pages_held mach d) f) (sym u.holds) a.0, untouched_safe m k c₁ c₂ u a.1)
  after_before false c c₁ c₂ a u = untouched_then m k c c₁ c₂ a u

  -- the changed databases of a range are written
  range_after :
      (s n : ℕ) → s ≤ d → d < s + n → s + n ≤ how_many names → (c c' : C) → Runs m (acts (for_each (change_tasks file) (map change (filter changed (range_with_len s n))))) c through c' →
      After (changed d) c c'
  unfolding for_each
  range_after s zero from to top c c' run = absurd (omega arith)
  range_after s (suc n) from to top c c' run = by (changed s) refl (ℕ_discrete d s) (range_after (s + 1) n) run
    where
      rest : List ℕ
      rest = filter changed (range_with_len (s + 1) n)

      Later : Type 0
      Later = s + 1 ≤ d → d < s + 1 + n → s + 1 + n ≤ how_many names → (c c' : C) → Runs m (acts (for_each (change_tasks file) (map change rest))) c through c' → After (changed d) c c'

      others : s ≡ d → AllByRecursion (Spares m k) (for_each (change_tasks file) (map change rest))
      others e = range_spares (change_tasks file) (s + 1) n (λ i after before. change_spares m file k (change i) (not_database i (omega arith) (λ same. omega arith)))

      by : (b : Bool) → changed s ≡ b → Dec (d ≡ s) → Later → Runs m (acts (for_each (change_tasks file) (map change (cond b (s ∷ rest) rest)))) c through c' → After (changed d) c c'
      by true is (yes e) later run =
          let q = ran_split m (change_tasks file (change s)) (for_each (change_tasks file) (map change rest)) c c' run in
          let own : After true c q.0 = subst (λ (i : ℕ). Landed (m.holds c (file i)) (pages_held mach i) (m.holds q.0 (file i)) × Safe m q.0 (file i)) (sym e) (change_lands m file (change s) c q.0 q.1) in
          subst (λ (b : Bool). After b c c') (sym (ap changed e ∙ is))
          (after_before true c q.0 c' own (spared_untouched m k (for_each (change_tasks file) (map change rest)) q.0 c' (others (sym e)) q.2))
      by true is (no ne) later run =
          let q = ran_split m (change_tasks file (change s)) (for_each (change_tasks file) (map change rest)) c c' run in
          let first = spared_untouched m k (change_tasks file (change s)) c q.0 (change_spares m file k (change s) (not_database s (omega arith) ne)) q.1 in
          after_later (changed d) c q.0 c' first (later (omega arith) (omega arith) (omega arith) q.0 c' q.2)
      by false is (yes e) later run =
          subst (λ (b : Bool). After b c c') (sym (ap changed e ∙ is)) (spared_untouched m k (for_each (change_tasks file) (map change rest)) c c' (others (sym e)) run)
      by false is (no ne) later run = later (omega arith) (omega arith) (omega arith) c c' run

  abbrev chs : List Change
  chs = changes stored base mach (how_many names)

  -- the plan of a commit was gone through
  plan_after : (nonce : ℕ) (c here : C) → Runs m (acts (plan file nonce chs)) c through here → After (changed d) c here
  unfolding changed_list
  plan_after nonce c here run =
      after_later (changed d) c first.0 here (spared_untouched m k opening c first.0 (opening_spares (many chs)) first.1)
      (after_later (changed d) first.0 second.0 here (spared_untouched m k making first.0 second.0 making_spares second.1)
      (after_before (changed d) second.0 third.0 here (range_after 0 (how_many names) (omega arith) (omega (arith, low)) (omega arith) second.0 third.0 third.1)
      (spared_untouched m k closing third.0 here (closing_spares (many chs)) third.2)))
    where
      opening : List Task
      opening = cond (many chs) (super_tasks file chs) []

      making : List Task
      making = for_each (journal_tasks file nonce (super_of file (many chs))) chs

      writing : List Task
      writing = for_each (change_tasks file) chs

      closing : List Task
      closing = cond (many chs) (call file C4 8 delete ∷ []) (for_each (only_tasks file) chs)

      first : (e : C) × Runs m (acts opening) c through e × Runs m (acts (making ++ (writing ++ closing))) e through here
      first = ran_split m opening (making ++ (writing ++ closing)) c here run

      second : (e : C) × Runs m (acts making) first.0 through e × Runs m (acts (writing ++ closing)) e through here
      second = ran_split m making (writing ++ closing) first.0 here first.2

      third : (e : C) × Runs m (acts writing) second.0 through e × Runs m (acts closing) e through here
      third = ran_split m writing closing second.0 here second.2

      opening_spares : (b : Bool) → AllByRecursion (Spares m k) (cond b (super_tasks file chs) [])
      opening_spares true = (inr not_super, (inr not_super, (inr not_super, tt)))
      opening_spares false = tt

      making_spares : AllByRecursion (Spares m k) making
      making_spares =
          range_spares (journal_tasks file nonce (super_of file (many chs))) 0 (how_many names)
          (λ i from to. journal_spares m file nonce (super_of file (many chs)) k (change i) (not_journal i (omega (arith, to))))

      closing_spares : (b : Bool) → AllByRecursion (Spares m k) (cond b (call file C4 8 delete ∷ []) (for_each (only_tasks file) chs))
      closing_spares true = (inr not_super, tt)
      closing_spares false = range_spares (only_tasks file) 0 (how_many names) (λ i from to. (inr (not_journal i (omega (arith, to))), tt))

  after_lands : (b : Bool) (c c₁ : C) → changed d ≡ b → After b c c₁ → Landed (m.holds c k) (pages_held mach d) (m.holds c₁ k)
  after_lands true c c₁ same a = a.0
  after_lands false c c₁ same a = subst (λ (rs : List PageRecord). Landed (m.holds c k) rs (m.holds c₁ k)) (sym (none_held mach d same)) (landed_none (m.holds c k) (m.holds c₁ k) a.holds)

  after_safe : (b : Bool) (c c₁ : C) → (b ≡ true) ⊎ Safe m c k → After b c c₁ → Safe m c₁ k
  after_safe true c c₁ h a = a.1
  after_safe false c c₁ (inl e) a = absurd (false≢true e)
  after_safe false c c₁ (inr s) a = untouched_safe m k c c₁ a s

  -- no journal that is dropped is the database
  drops_leave : Leaves k (drops file chs)
  unfolding changed_list
  drops_leave = by (many chs)
    where
      each : (xs : List ℕ) → AllByRecursion (λ i. k ≡ file (4 + i) → ⊥) xs → Leaves k (map (λ ch. record { name = journal_name file ch; op = delete }) (map change xs))
      each [] all = tt
      each (i ∷ xs) all = (all.0, each xs all.1)

      by : (b : Bool) → Leaves k (cond b (map (λ ch. record { name = journal_name file ch; op = delete }) chs) [])
      by true = each (filter changed (range_with_len 0 (how_many names))) (passed_all (λ i. k ≡ file (4 + i) → ⊥) changed 0 (how_many names) (λ i from to. not_journal i (omega (arith, to))))
      by false = tt

  -- why a power failure in the deletions of the journals does not change what the database holds: power is on
  -- after them; or all were answered well; or the commit made the database safe; or it was safe before
  pub data Lasts (c : C) (left : ℕ) (c' : C) : Type 0 where
    powered : m.on c' ≡ true → Lasts c left c'
    all_deleted : left ≡ 0 → Lasts c left c'
    made_safe : changed d ≡ true → Lasts c left c'
    was_safe : Safe m c k → Lasts c left c'

  module _ (nonce : ℕ) (c c' : C) (left : ℕ) (done : Committed m file nonce chs c (Ok left) c') where
    after_plan : After (changed d) c done.here
    after_plan = plan_after nonce c done.here done.went.ended

    lasting : (changed d ≡ true) ⊎ Safe m c k → (m.holds c' k ≡ m.holds done.here k) × Safe m c' k
    lasting h = dropped_safe m k (drops file chs) done.here c' done.left.answers drops_leave (after_safe (changed d) c done.here h after_plan) done.left.tries

    lasted : Lasts c left c' → m.holds c' k ≡ m.holds done.here k
    lasted (powered on) = (dropped_powered m k (drops file chs) done.here c' done.left.answers drops_leave on done.left.tries).1
    lasted (all_deleted e) = dropped_well m k (drops file chs) done.here c' done.left.answers drops_leave (sym done.left.left ∙ e) done.left.tries
    lasted (made_safe e) = (lasting (inl e)).0
    lasted (was_safe s) = (lasting (inr s)).0

    -- the database holds what it held, with its changed pages written over it
    pub committed_lands : Lasts c left c' → Landed (m.holds c k) (pages_held mach d) (m.holds c' k)
    committed_lands l = subst (λ (f : Option Bytes). Landed (m.holds c k) (pages_held mach d) f) (sym (lasted l)) (after_lands (changed d) c done.here refl after_plan)

    pub committed_holds : Lasts c left c' → contents (m.holds c' k) ≡ landed (contents (m.holds c k)) (pages_held mach d)
    committed_holds l = landed_contents (m.holds c k) (pages_held mach d) (m.holds c' k) (committed_lands l)

    -- a database that is changed, or was safe before, is safe after
    pub committed_safe : (changed d ≡ true) ⊎ Safe m c k → Safe m c' k
    committed_safe h = (lasting h).1
