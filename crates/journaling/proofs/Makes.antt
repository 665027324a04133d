-- A journal is made: created, read, filled and stored, one after the other.
use Rattle.std.proofs.Common.{◌≡◌, ℕ, ◌+◌, ◌-◌, ◌<◌, List, [], ◌∷◌, ◌++◌, map, length, take, Ok, Err, Result, refl, ap, ◌∙◌, subst, arith}
use Rattle.std.proofs.lemmas.List.{take_at}
use Rattle.card.specs.Meaning.{Meaning, Bytes, Name}
use Rattle.card.specs.Calls.{create}
use Rattle.journal.specs.Format.{PageRecord, encode}
use Rattle.names.specs.Files.{how_many}
use Rattle.journal_writer.specs.OnCard.{store_acts}
use Rattle.journal_writer.specs.Written.{Filled, journal_in}
use Rattle.names.specs.declared.names.Names.{Names}
use Rattle.names.proofs.Files.{database_is_file, journal_is_file, files_apart}
use Rattle.refusal.specs.declared.fault.SetFault.{SetFault}
use Rattle.refusal.specs.declared.step.Step.TheVariants.{C2}
use Rattle.steps.specs.declared.site.Site.{Site}
use Rattle.steps.specs.Tasks.{Task, task, tasks, Went, at}
use Rattle.steps.proofs.Went.{went_then, went_stop, went_as}
use Rattle.journaling.specs.declared.journals.Journals.{Journals}
use Rattle.journaling.specs.Plan.{Change, original, journal_of, read_tasks, call, journal_tasks}
use Rattle.journaling.specs.Changes.{contents}
use Rattle.journaling.specs.Buffers.{RecordedIn}
use Rattle.journaling.specs.Made.{files, super_named, size_of, recorded_by}
use Rattle.journaling.proofs.Copies.{one_worked}

module _ {C : Type 0} (m : Meaning C) (j : Journals) (d : ℕ) (c c₁ : C) where
  abbrev file : ℕ → Name
  file = files j

  abbrev ch : Change
  ch = recorded_by j (contents (m.holds c (file d))) d

  abbrev made : List Task
  made = call file C2 (4 + d) create ∷ []

  abbrev reads : List Task
  reads = read_tasks (file d) d 1 ch.recorded

  abbrev stores : List Task
  stores = tasks (at C2 (4 + d)) (store_acts (file (4 + d)) (encode 0 (journal_of j.nonce (super_named j) ch)) (length ch.recorded))

  -- all of it
  abbrev pub Made : Result (Unit {0}) SetFault → C → Type 0
  Made r c' = Went m (journal_tasks file j.nonce (super_named j) ch) c r c'

  -- it is created from the site and by the name of its number
  pub created_as : {V : Type 0} (r : Result V SetFault) (k : ℕ) (s : Site) (n : Name) → k ≡ 4 + d → s ≡ at C2 k → n ≡ file k → Went m (task s n create ∷ []) c r c₁ → Went m made c r c₁
  created_as r k s n ek es en w = went_as m c c₁ r s (at C2 (4 + d)) n (file (4 + d)) create create (es ∙ ap (at C2) ek) (en ∙ ap file ek) refl w

  -- the journal is not created
  pub not_created : (f : SetFault) → Went m {V = Unit {0}} made c (Err f) c₁ → Made (Err f) c₁
  not_created f w = went_stop m made (reads ++ stores) c c₁ f w

  module _ (created : Went m {V = Unit {0}} made c (Ok tt) c₁) where
    -- an original is not read
    pub not_read : (c₂ : C) (f : SetFault) → Went m {V = Unit {0}} reads c₁ (Err f) c₂ → Made (Err f) c₂
    not_read c₂ f w = went_then m made (reads ++ stores) c c₁ c₂ tt (Err f) created (went_stop m reads stores c₁ c₂ f w)

    module _ (c₂ : C) (old new : Bytes) (n : ℕ) (listed : d < how_many j.names.now) (read : Went m {V = Unit {0}} reads c₁ (Ok tt) c₂)
        (lies : RecordedIn (contents (m.holds c₁ (file d))) ch.recorded (Ok tt) old)
        (filled : Filled old j.nonce (size_of j d) ch.recorded (super_named j) (Ok n) new) where
      -- the database holds what it held
      held : m.holds c₁ (file d) ≡ m.holds c (file d)
      held =
          let names : Names = j.names.now in
          let apart = files_apart names d (4 + d) (database_is_file (how_many names) d listed) (journal_is_file (how_many names) d listed) (λ e. omega arith) in
          ((one_worked m c c₁ (record { name = file (4 + d); op = create }) created.ended).others (file d) apart).holds

      same_journal : journal_in old j.nonce (size_of j d) ch.recorded (super_named j) ≡ journal_of j.nonce (super_named j) ch
      same_journal =
          ap (λ (rs : List PageRecord). record { nonce = j.nonce; size = size_of j d; records = rs; super = super_named j })
          (lies ∙ ap (λ (b : Bytes). map (original b) ch.recorded) (ap contents held))

      pub bytes : take (n - 0) new ≡ encode 0 (journal_of j.nonce (super_named j) ch)
      bytes =
          let journal = journal_in old j.nonce (size_of j d) ch.recorded (super_named j) in
          let long : length (encode 0 journal) ≡ n - 0 = omega (arith, filled.1) in
          ap (take (n - 0)) filled.3 ∙ take_at (encode 0 journal) _ (n - 0) long ∙ ap (encode 0) same_journal

      pub stored_whole : (c₃ : C) (r : Result (Unit {0}) SetFault) → Went m (tasks (at C2 (4 + d)) (store_acts (file (4 + d)) (take (n - 0) new) (length ch.recorded))) c₂ r c₃ → Made r c₃
      stored_whole c₃ r w =
          went_then m made (reads ++ stores) c c₁ c₃ tt r created
          (went_then m reads stores c₁ c₂ c₃ tt r read
          (subst (λ (b : Bytes). Went m (tasks (at C2 (4 + d)) (store_acts (file (4 + d)) b (length ch.recorded))) c₂ r c₃) bytes w))
