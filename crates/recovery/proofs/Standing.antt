-- After a good recovery each database has as many pages as are told: the lengths are asked for last, and to ask
-- for a length leaves what the files hold.
use Rattle.std.proofs.Common.{ℕ, zero, suc, ◌<◌, List, get_or, Ok, Err, IfOk, Result, sym, subst}
use Rattle.std.specs.List.{AllByRecursion}
use Rattle.card.specs.Meaning.{Meaning, Name}
use Rattle.card.specs.Runs.{Act}
use Rattle.refusal.specs.declared.fault.SetFault.{SetFault}
use Rattle.refusal.specs.declared.refusals.Refusal.{Refusal}
use Rattle.steps.specs.Tasks.{acts, Looks, Went, up_to}
use Rattle.steps.proofs.Went.{acts_append}
use Rattle.steps.proofs.Held.{looked_holds, all_append}
use Rattle.survey.specs.declared.report.Found.{Found}
use Rattle.set_files.specs.Looked.{dropped}
use Rattle.recovery.specs.declared.report.Recovery.{Recovery}
use Rattle.recovery.specs.Measured.{HasPages, Measured, length_tasks, measure_tasks}
use Rattle.recovery.specs.Recovered.{report, AfterSettled, AfterSurvey, Recovered}

module _ {C : Type 0} (m : Meaning C) (file : ℕ → Name) (n : ℕ) where
  -- the databases have the pages that are told
  abbrev pub Standing : C → Result Recovery Refusal → Type 0
  Standing c r = IfOk r (λ found. (d : ℕ) → d < n → HasPages (m.holds c (file d)) (get_or found.sizes d 0))

  lengths_look : (k : ℕ) → AllByRecursion (λ a. Looks a.op) (acts (up_to (length_tasks file) k))
  unfolding up_to
  lengths_look zero = tt
  lengths_look (suc k) =
      subst (λ (list : List Act). AllByRecursion (λ a. Looks a.op) list) (sym (acts_append m (up_to (length_tasks file) k) (length_tasks file k)))
      (all_append m (λ a. Looks a.op) (acts (up_to (length_tasks file) k)) (acts (length_tasks file k)) (lengths_look k) (tt, tt))

  measured :
      (c c' : C) (found : List Found) (sizes : Result (List ℕ) Refusal) → Went m (measure_tasks file n sizes) c (dropped sizes) c' → Measured (m.holds c) file n sizes → Standing c' (report found sizes)
  measured c c' found (Ok sizes) went told =
      λ d lt. subst (λ f. HasPages f (get_or sizes d 0)) (sym (looked_holds m (acts (measure_tasks file n (Ok sizes))) c c' (lengths_look n) went.ended (file d))) (told.each d lt)
  measured c c' found (Err e) went told = tt

  settled : (c c' : C) (found : List Found) (done : Result (Unit {0}) SetFault) (r : Result Recovery Refusal) → AfterSettled m file n c found done r c' → Standing c' r
  settled c c' found (Ok u) r a = subst (Standing c') (sym a.answer) (measured c c' found a.sizes a.went a.measured)
  settled c c' found (Err f) r a = subst (Standing c') (sym a.0) tt

  surveyed : (c c' : C) (found : Result (List Found) Refusal) (r : Result Recovery Refusal) → AfterSurvey m file n c found r c' → Standing c' r
  surveyed c c' (Ok found) r a = settled a.then c' found a.done r a.after
  surveyed c c' (Err e) r a = subst (Standing c') (sym a.0) tt

  pub standing : (c c' : C) (r : Result Recovery Refusal) → Recovered m file n c r c' → Standing c' r
  standing c c' r a = surveyed a.then c' a.found r a.after
