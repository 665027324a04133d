-- A good recovery measured sizes within their limits.
use Rattle.std.proofs.Common.{◌≡◌, ℕ, ◌<◌, ◌≤◌, ◌⊎◌, List, get_or, Ok, Err, Result, sym, subst, inl, inr, arith}
use Rattle.std.proofs.lemmas.Bool.{cases_lt}
use Rattle.card.specs.Meaning.{Meaning, Name}
use Rattle.refusal.specs.declared.fault.SetFault.{SetFault}
use Rattle.refusal.specs.declared.refusals.Refusal.{Refusal}
use Rattle.sizes.specs.Fitting.{Fitting}
use Rattle.survey.specs.declared.report.Found.{Found}
use Rattle.recovery.specs.declared.report.Recovery.{Recovery}
use Rattle.set_files.specs.Files.{Holds}
use Rattle.recovery.specs.Measured.{Measured, Sizes}
use Rattle.recovery.specs.Recovered.{report, AfterSettled, AfterSurvey, Recovered}
use Rattle.store.specs.Recovers.{Sized}

fitting : (files : Holds) (file : ℕ → Name) (n : ℕ) (rows : List ℕ) → Sizes files file n rows → Fitting rows
fitting files file n rows s = λ i lt. by i lt (cases_lt i n)
  where
    by : (i : ℕ) → i < 4 → (i < n) ⊎ (n ≤ i) → (1 ≤ get_or rows i 0) × (get_or rows i 0 ≤ 4096)
    by i lt (inl low) = let p = s.each i low in (p.2.some, p.2.few)
    by i lt (inr high) = let e = s.rest i high lt in (omega (arith, e), omega (arith, e))

module _ {C : Type 0} (m : Meaning C) (file : ℕ → Name) (n : ℕ) where
  reported : (files : Holds) (found : List Found) (sizes : Result (List ℕ) Refusal) (r : Result Recovery Refusal) → Measured files file n sizes → r ≡ report found sizes → Sized r
  reported files found (Ok rows) r s e = subst Sized (sym e) (fitting files file n rows s)
  reported files found (Err x) r s e = subst Sized (sym e) tt

  settled : (c c' : C) (found : List Found) (done : Result (Unit {0}) SetFault) (r : Result Recovery Refusal) → AfterSettled m file n c found done r c' → Sized r
  settled c c' found (Ok u) r a = reported (m.holds c) found a.sizes r a.measured a.answer
  settled c c' found (Err f) r a = subst Sized (sym a.0) tt

  surveyed : (c c' : C) (found : Result (List Found) Refusal) (r : Result Recovery Refusal) → AfterSurvey m file n c found r c' → Sized r
  surveyed c c' (Ok found) r a = settled a.then c' found a.done r a.after
  surveyed c c' (Err e) r a = subst Sized (sym a.0) tt

  pub sized : (c c' : C) (r : Result Recovery Refusal) → Recovered m file n c r c' → Sized r
  sized c c' r a = surveyed a.then c' a.found r a.after
