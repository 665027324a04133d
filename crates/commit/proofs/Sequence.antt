-- The parts of a commit, one after the other, are its plan.
use Rattle.std.proofs.Common.{◌≡◌, ℕ, ◌+◌, ◌<◌, Bool, true, false, cond, List, [], ◌∷◌, ◌++◌, map, leb, Ok, Err, Result, sym, refl, ap, ◌∙◌, subst, ap₂, inr, arith}
use Rattle.std.proofs.lemmas.List.{length-map}
use Rattle.std.proofs.lemmas.Simd.{map-map}
use Rattle.std.specs.List.{AllByRecursion}
use Rattle.card.specs.Meaning.{Meaning, Bytes, Name}
use Rattle.card.specs.Calls.{delete}
use Rattle.card.specs.Runs.{Act}
use Rattle.names.specs.Files.{how_many, file_of}
use Rattle.names.specs.declared.names.Names.{Names}
use Rattle.names.proofs.Files.{database_is_file, super_is_file, files_apart}
use Rattle.pager.specs.declared.memory.Memory.{Memory}
use Rattle.pager.specs.View.{view}
use Rattle.refusal.specs.declared.fault.SetFault.{SetFault}
use Rattle.refusal.specs.declared.step.Step.TheVariants.{C4}
use Rattle.sizes.specs.declared.Sizes.{Sizes}
use Rattle.steps.specs.Tasks.{Task, Went}
use Rattle.steps.proofs.Went.{went_then, went_stop, went_value}
use Rattle.steps.proofs.Held.{Spares, spared_holds}
use Rattle.journaling.specs.Plan.{Change, for_each, many, call, naming_tasks, super_tasks, journal_tasks, change_tasks, only_tasks, super_of, plan, drops, journal_name}
use Rattle.journaling.specs.Changes.{contents, change_of, changes}
use Rattle.commit.specs.declared.work.Work.{Work}
use Rattle.commit.specs.Ended.{Committed, Dropped}
use Rattle.commit.specs.Works.{files, listed, journals, several}
use Rattle.commit.proofs.Turns.{each_map}

module _ {C : Type 0} (m : Meaning C) (w : Work) (c : C) where
  abbrev file : ℕ → Name
  file = files w

  abbrev stored : ℕ → Bytes
  stored d = contents (m.holds c (file d))

  abbrev change : ℕ → Change
  change = change_of stored w.sizes.now.rows (view stored w.memory.now)

  abbrev chs : List Change
  chs = changes stored w.sizes.now.rows (view stored w.memory.now) (how_many w.names.now)

  abbrev opening : List Task
  opening = cond (several w) (naming_tasks file (journals w)) []

  abbrev making : List Task
  making = for_each (λ d. journal_tasks file w.nonce (super_of file (several w)) (change d)) (listed w)

  abbrev writing : List Task
  writing = for_each (λ d. change_tasks file (change d)) (listed w)

  abbrev closing : List Task
  closing = cond (several w) (call file C4 8 delete ∷ []) (for_each (λ d. call file C4 (4 + d) delete ∷ []) (listed w))

  abbrev dropping : List Act
  dropping = cond (several w) (map (λ d. record { name = file (4 + d); op = delete }) (listed w)) []

  several_is : several w ≡ many chs
  several_is = ap (leb 2) (sym (length-map (listed w) change))

  the_plan : plan file w.nonce chs ≡ opening ++ (making ++ (writing ++ closing))
  the_plan =
      ap (λ (b : Bool). cond b (super_tasks file chs) [] ++ (for_each (journal_tasks file w.nonce (super_of file b)) chs ++ (for_each (change_tasks file) chs ++ cond b (call file C4 8 delete ∷ []) (for_each (only_tasks file) chs)))) (sym several_is)
      ∙ ap₂ (λ (a b : List Task). a ++ b) (ap (λ (ns : List Name). cond (several w) (naming_tasks file ns) []) (map-map (journal_name file) change (listed w)))
      (ap₂ (λ (a b : List Task). a ++ b) (each_map (journal_tasks file w.nonce (super_of file (several w))) change (listed w))
      (ap₂ (λ (a b : List Task). a ++ b) (each_map (change_tasks file) change (listed w))
      (ap (λ (ts : List Task). cond (several w) (call file C4 8 delete ∷ []) ts) (each_map (only_tasks file) change (listed w)))))

  the_drops : drops file chs ≡ dropping
  the_drops =
      ap (λ (b : Bool). cond b (map (λ ch. record { name = journal_name file ch; op = delete }) chs) []) (sym several_is)
      ∙ ap (λ (acts : List Act). cond (several w) acts []) (map-map (λ ch. record { name = journal_name file ch; op = delete }) change (listed w))

  -- the commit ended so
  abbrev pub Ends : Result ℕ SetFault → C → Type 0
  Ends r c' = Committed m file w.nonce chs c r c'

  ended : (V : Type 0) (r : Result V SetFault) (c' : C) → Went m (opening ++ (making ++ (writing ++ closing))) c r c' → Went m (plan file w.nonce chs) c r c'
  ended V r c' went = subst (λ (ts : List Task). Went m ts c r c') (sym the_plan) went

  stop : (f : SetFault) (c' : C) → Went m {V = Unit {0}} (opening ++ (making ++ (writing ++ closing))) c (Err f) c' → Ends (Err f) c'
  stop f c' went = let e = ended (Unit {0}) (Err f) c' went in record { here = c'; went = record { ended = e.ended; origins = e.origins }; left = refl }

  -- the super-journal is refused
  pub not_opened : (f : SetFault) (c₁ : C) → Went m {V = Unit {0}} opening c (Err f) c₁ → Ends (Err f) c₁
  not_opened f c₁ went = stop f c₁ (went_stop m opening (making ++ (writing ++ closing)) c c₁ f went)

  -- the journals were made, of databases that hold so
  abbrev pub Making : Result (Unit {0}) SetFault → C → C → Type 0
  Making r c₁ c₂ =
      (s : ℕ → Bytes) → ((k : ℕ) → k < how_many w.names.now → contents (m.holds c₁ (file k)) ≡ s k) →
      Went m (for_each (λ d. journal_tasks file w.nonce (super_of file (several w)) (change_of s w.sizes.now.rows (view s w.memory.now) d)) (listed w)) c₁ r c₂

  -- the pages were written
  abbrev pub Writing : Result (Unit {0}) SetFault → C → C → Type 0
  Writing r c₂ c₃ = (s : ℕ → Bytes) (b : List ℕ) → Went m (for_each (λ d. change_tasks file (change_of s b (view s w.memory.now) d)) (listed w)) c₂ r c₃

  -- a database's name is not that of the super-journal
  not_super : (k : ℕ) → k < how_many w.names.now → file k ≡ file 8 → ⊥
  not_super k lt =
      let names : Names = w.names.now in
      files_apart names k 8 (database_is_file (how_many names) k lt) (super_is_file (how_many names)) (λ e. omega (arith, names.list.few))

  module _ (c₁ : C) (opened : Went m {V = Unit {0}} opening c (Ok tt) c₁) where
    -- the databases hold what they held
    kept : (k : ℕ) → k < how_many w.names.now → contents (m.holds c₁ (file k)) ≡ stored k
    kept k lt = ap contents (spared_holds m (file k) opening c c₁ (spared (several w)) opened.ended)
      where
        spared : (b : Bool) → AllByRecursion (Spares m (file k)) (cond b (naming_tasks file (journals w)) [])
        spared true = (inr (not_super k lt), (inr (not_super k lt), (inr (not_super k lt), tt)))
        spared false = tt

    -- a journal is refused
    pub not_made : (f : SetFault) (c₂ : C) → Making (Err f) c₁ c₂ → Ends (Err f) c₂
    not_made f c₂ made = stop f c₂ (went_then m opening (making ++ (writing ++ closing)) c c₁ c₂ tt (Err f) opened (went_stop m making (writing ++ closing) c₁ c₂ f (made stored kept)))

    module _ (c₂ : C) (made : Making (Ok tt) c₁ c₂) where
      -- what comes after the journals
      after : (V : Type 0) (r : Result V SetFault) (c' : C) → Went m (writing ++ closing) c₂ r c' → Went m (opening ++ (making ++ (writing ++ closing))) c r c'
      after V r c' went = went_then m opening (making ++ (writing ++ closing)) c c₁ c' tt r opened (went_then m making (writing ++ closing) c₁ c₂ c' tt r (made stored kept) went)

      -- a database is refused
      pub not_written : (f : SetFault) (c₃ : C) → Writing (Err f) c₂ c₃ → Ends (Err f) c₃
      not_written f c₃ written = stop f c₃ (after (Unit {0}) (Err f) c₃ (went_stop m writing closing c₂ c₃ f (written stored w.sizes.now.rows)))

      module _ (c₃ : C) (written : Writing (Ok tt) c₂ c₃) (c₄ : C) where
        whole : (r : Result (Unit {0}) SetFault) → Went m closing c₃ r c₄ → Went m (opening ++ (making ++ (writing ++ closing))) c r c₄
        whole r went = after (Unit {0}) r c₄ (went_then m writing closing c₂ c₃ c₄ tt r (written stored w.sizes.now.rows) went)

        -- the deletion that makes it count is refused
        pub not_closed : (f : SetFault) → Went m {V = Unit {0}} closing c₃ (Err f) c₄ → Ends (Err f) c₄
        not_closed f went = stop f c₄ (whole (Err f) went)

        -- it counts
        pub counted : (c₅ : C) (k : ℕ) → Went m {V = Unit {0}} closing c₃ (Ok tt) c₄ → Dropped m dropping c₄ k c₅ → Ends (Ok k) c₅
        counted c₅ k went dropped =
            record {
              here = c₄;
              went = went_value m (plan file w.nonce chs) c c₄ tt k (ended (Unit {0}) (Ok tt) c₄ (whole (Ok tt) went));
              left = subst (λ (acts : List Act). Dropped m acts c₄ k c₅) (sym the_drops) dropped;
            }

  -- the same, by what the work was made of
  pub as_given :
      (names : Names) (mem : Memory) (sizes : Sizes) (nonce : ℕ) (r : Result ℕ SetFault) (c' : C) →
      w.names.now ≡ names → w.memory.now ≡ mem → w.sizes.now ≡ sizes → w.nonce ≡ nonce → Ends r c' →
      Committed m (file_of names) nonce (changes (λ d. contents (m.holds c (file_of names d))) sizes.rows (view (λ d. contents (m.holds c (file_of names d))) mem) (how_many names)) c r c'
  as_given names mem sizes nonce r c' en em es e e' = rw (← en, ← em, ← es, ← e) e'
