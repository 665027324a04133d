-- The journals of all databases are made: each leaves what the databases hold.
use Rattle.std.proofs.Common.{◌≡◌, ℕ, suc, ◌+◌, ◌<◌, List, [], ◌∷◌, get_or, length, Ok, Err, Option, refl, ap, ◌∙◌, subst, inl, inr}
use Rattle.std.specs.List.{AllByRecursion}
use Rattle.card.specs.Meaning.{Meaning, Bytes, Name}
use Rattle.pager.specs.declared.memory.Memory.{Memory}
use Rattle.pager.specs.Sound.{map_of}
use Rattle.pager.specs.View.{view}
use Rattle.refusal.specs.declared.fault.SetFault.{SetFault}
use Rattle.steps.specs.Tasks.{Task, Went}
use Rattle.steps.proofs.Held.{Spares, spared_holds, all_append}
use Rattle.journaling.specs.Plan.{Change, for_each, journal_tasks, read_tasks}
use Rattle.journaling.specs.Changes.{contents, recorded, change_of}
use Rattle.commit.proofs.Turns.{Round, round_none, round_more, round_stop}

module _ {C : Type 0} (m : Meaning C) (file : ℕ → Name) (nonce : ℕ) (super : Option Name) where
  reads_spare : (k n : Name) (d i : ℕ) (ps : List ℕ) → AllByRecursion (Spares m k) (read_tasks n d i ps)
  unfolding read_tasks
  reads_spare k n d i [] = tt
  reads_spare k n d i (p ∷ ps) = (inl tt, reads_spare k n d (suc i) ps)

  -- another file than the journal holds what it held
  pub journal_spares : (k : Name) (ch : Change) → (k ≡ file (4 + ch.database) → ⊥) → AllByRecursion (Spares m k) (journal_tasks file nonce super ch)
  journal_spares k ch ne =
      (inr ne, all_append m (Spares m k) (read_tasks (file ch.database) ch.database 1 ch.recorded) _ (reads_spare k (file ch.database) ch.database 1 ch.recorded) (inr ne, (inr ne, (inr ne, (inr ne, tt)))))

  module _ (mem : Memory) (base : List ℕ) (n : ℕ) (list : List ℕ) (c₀ : C) where
    abbrev task_list : (ℕ → Bytes) → ℕ → List Task
    task_list stored d = journal_tasks file nonce super (change_of stored base (view stored mem) d)

    -- the databases hold what was stored
    abbrev pub StoredIn : C → (ℕ → Bytes) → Type 0
    StoredIn c stored = (k : ℕ) → k < n → contents (m.holds c (file k)) ≡ stored k

    -- the journals of the databases before place i are made
    pub record Making (i : ℕ) (c : C) : Type 0 where
      pub held : (k : ℕ) → k < n → m.holds c (file k) ≡ m.holds c₀ (file k)
      pub round : (stored : ℕ → Bytes) → StoredIn c₀ stored → Round m (task_list stored) list c₀ i c

    pub making_none : Making 0 c₀
    making_none = record { held = λ k lt. refl; round = λ stored s. round_none m (task_list stored) list c₀ }

    module _ (i : ℕ) (c c₁ : C) (lt : i < length list) (low : get_or list i 0 < n) (apart : (k : ℕ) → k < n → file k ≡ file (4 + get_or list i 0) → ⊥) (g : Making i c) where
      abbrev d : ℕ
      d = get_or list i 0

      abbrev size : ℕ
      size = get_or base d 0

      abbrev own : Change
      own = record { database = d; stored = contents (m.holds c (file d)); size = size; recorded = recorded (map_of mem.maps d) size; pages = [] }

      tasks_same : (stored : ℕ → Bytes) → StoredIn c₀ stored → journal_tasks file nonce super own ≡ task_list stored d
      tasks_same stored s =
          ap (λ (b : Bytes). journal_tasks file nonce super (record { database = d; stored = b; size = size; recorded = recorded (map_of mem.maps d) size; pages = [] }))
          (ap contents (g.held d low) ∙ s d low)

      pub making_more : Went m {V = Unit {0}} (journal_tasks file nonce super own) c (Ok tt) c₁ → Making (i + 1) c₁
      making_more w =
          record {
            held = λ k below. spared_holds m (file k) (journal_tasks file nonce super own) c c₁ (journal_spares (file k) own (apart k below)) w.ended ∙ g.held k below;
            round = λ stored s. round_more m (task_list stored) list c₀ i c c₁ lt (g.round stored s) (subst (λ (ts : List Task). Went m {V = Unit {0}} ts c (Ok tt) c₁) (tasks_same stored s) w);
          }

      pub making_stop :
          (all : List ℕ) → list ≡ all → (f : SetFault) → Went m {V = Unit {0}} (journal_tasks file nonce super own) c (Err f) c₁ → (stored : ℕ → Bytes) → StoredIn c₀ stored →
          Went m {V = Unit {0}} (for_each (task_list stored) all) c₀ (Err f) c₁
      making_stop all same f w stored s =
          round_stop m (task_list stored) list c₀ i c c₁ lt (g.round stored s) all same f (subst (λ (ts : List Task). Went m {V = Unit {0}} ts c (Err f) c₁) (tasks_same stored s) w)
