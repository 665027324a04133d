-- What restoring the databases leaves: the journals that are still to come, and the super-journal.
use Rattle.std.proofs.Common.{◌≡◌, ℕ, ◌+◌, ◌<◌, ◌≤◌, List, [], ◌∷◌, length, Some, None, Ok, Err, Option, sym, ◌∙◌, subst, arith}
use Rattle.card.specs.Meaning.{Meaning, Bytes, Name}
use Rattle.card.specs.Calls.{length_of}
use Rattle.card.specs.Runs.{Act}
use Rattle.card.specs.Crash.{Leaves}
use Rattle.journal.specs.Format.{Journal, LawfulJournal, full}
use Rattle.names.specs.declared.names.Names.{Names}
use Rattle.refusal.specs.declared.fault.SetFault.{SetFault}
use Rattle.refusal.specs.declared.step.Step.TheVariants.{R3}
use Rattle.steps.specs.Tasks.{task, acts, Went, at}
use Rattle.steps.proofs.Went.{acts_append, went_stop, went_end}
use Rattle.steps.proofs.Held.{leaves_append, left_holds}
use Rattle.survey.specs.declared.report.Found.{Found}
use Rattle.survey.specs.declared.report.Found.TheVariants.{None as FoundNone, Hot as FoundHot}
use Rattle.names.specs.Files.{how_many, file_of}
use Rattle.set_files.specs.Files.{Holds}
use Rattle.survey.specs.Seen.{Seen, none, spent, hot, SeenAs, FoundOf, Stands}
use Rattle.settling.specs.Settled.{record_task, write_tasks, finish_tasks, restore_tasks, all_tasks, super_tasks}
use Rattle.names.proofs.Files.{database_is_file, journal_is_file, super_is_file, files_apart}
use Rattle.steps.proofs.UpTo.{up_leaves}

-- a journal reported hot stands
pub hot_stands : (files : Holds) (file : ℕ → Name) (d : ℕ) (s : Seen) (k : ℕ) → Stands files file d s → FoundOf s (FoundHot k) → (j : Journal) × LawfulJournal j × (files (file (4 + d)) ≡ Some (full j))
hot_stands files file d none k st f = absurd f
hot_stands files file d spent k st f = absurd f
hot_stands files file d (hot j) k st f = (j, st.0, st.1)

module _ {C : Type 0} (m : Meaning C) (file : ℕ → Name) where
  -- a file that is neither the database nor its journal
  pub restore_leaves : (w : Name) (d : ℕ) (s : Seen) → (w ≡ file d → ⊥) → (w ≡ file (4 + d) → ⊥) → Leaves w (acts (restore_tasks file d s))
  restore_leaves w d none a b = tt
  restore_leaves w d spent a b = (b, tt)
  restore_leaves w d (hot j) a b = (
    b,
    (
      b,
      subst (λ (list : List Act). Leaves w list) (sym (acts_append m (write_tasks file d j) (finish_tasks file d j.size)))
          (leaves_append m w (acts (write_tasks file d j)) (acts (finish_tasks file d j.size)) (up_leaves m (λ k. record_task file d j k ∷ []) w (length j.records) (λ k lt. (a, tt))) (a, (a, (b, tt)))),
    ),
  )

  -- nothing is done where there is no journal
  pub restore_none : (c : C) (d : ℕ) (s : Seen) (f : Found) → f ≡ FoundNone → FoundOf s f → Went m {V = Unit {0}} (restore_tasks file d s) c (Ok tt) c
  restore_none c d s f e is = by s (subst (λ (x : Found). FoundOf s x) e is)
    where
      by : (s : Seen) → FoundOf s FoundNone → Went m {V = Unit {0}} (restore_tasks file d s) c (Ok tt) c
      by none h = went_end m c tt
      by spent h = absurd h
      by (hot j) h = absurd h

  -- a refused look at the super-journal
  pub super_stop : (c c₁ : C) (f : Option Bytes) (e : SetFault) → Went m {V = Option ℕ} (task (at R3 8) (file 8) length_of ∷ []) c (Err e) c₁ → Went m {V = Unit {0}} (super_tasks file f) c (Err e) c₁
  super_stop c c₁ None e w = record { ended = w.ended; origins = w.origins }
  super_stop c c₁ (Some b) e w = went_stop m {V = Option ℕ} {W = Unit {0}} (task (at R3 8) (file 8) length_of ∷ []) _ c c₁ e w

module _ {C : Type 0} (m : Meaning C) (s : Names) (seen : ℕ → Seen) where
  -- no database or journal before the d-th is its journal
  pub before_leaves : (d : ℕ) → d < how_many s → how_many s ≤ 4 → Leaves (file_of s (4 + d)) (acts (all_tasks (file_of s) d seen))
  before_leaves d lt few =
      up_leaves m (λ i. restore_tasks (file_of s) i (seen i)) (file_of s (4 + d)) d
      (λ i less.
      restore_leaves m (file_of s) (file_of s (4 + d)) i (seen i) (files_apart s (4 + d) i (journal_is_file (how_many s) d lt) (database_is_file (how_many s) i (omega arith)) (λ e. omega arith))
      (files_apart s (4 + d) (4 + i) (journal_is_file (how_many s) d lt) (journal_is_file (how_many s) i (omega arith)) (λ e. omega arith)))

  pub all_leave_super : how_many s ≤ 4 → Leaves (file_of s 8) (acts (all_tasks (file_of s) (how_many s) seen))
  all_leave_super few =
      up_leaves m (λ i. restore_tasks (file_of s) i (seen i)) (file_of s 8) (how_many s)
      (λ i less.
      restore_leaves m (file_of s) (file_of s 8) i (seen i) (files_apart s 8 i (super_is_file (how_many s)) (database_is_file (how_many s) i less) (λ e. omega arith))
      (files_apart s 8 (4 + i) (super_is_file (how_many s)) (journal_is_file (how_many s) i less) (λ e. omega arith)))

  -- a journal that was seen still stands when its turn comes
  pub still_stands :
      (c c₁ : C) (d : ℕ) → d < how_many s → how_many s ≤ 4 → SeenAs (m.holds c) (file_of s) d (seen d) → Went m {V = Unit {0}} (all_tasks (file_of s) d seen) c (Ok tt) c₁ →
      Stands (m.holds c₁) (file_of s) d (seen d)
  still_stands c c₁ d lt few was w = by (seen d) was
    where
      same : m.holds c₁ (file_of s (4 + d)) ≡ m.holds c (file_of s (4 + d))
      same = left_holds m (file_of s (4 + d)) (acts (all_tasks (file_of s) d seen)) c c₁ (before_leaves d lt few) w.ended

      by : (x : Seen) → SeenAs (m.holds c) (file_of s) d x → Stands (m.holds c₁) (file_of s) d x
      by none h = tt
      by spent h = tt
      by (hot j) h = (h.lawful, same ∙ h.held)

  pub super_kept : (c c₁ : C) → how_many s ≤ 4 → Went m {V = Unit {0}} (all_tasks (file_of s) (how_many s) seen) c (Ok tt) c₁ → m.holds c₁ (file_of s 8) ≡ m.holds c (file_of s 8)
  super_kept c c₁ few w = left_holds m (file_of s 8) (acts (all_tasks (file_of s) (how_many s) seen)) c c₁ (all_leave_super few) w.ended
