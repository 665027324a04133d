-- A whole recovery. Power is switched on; the files are looked at; if all is in order, the journals are
-- settled; and if the card refused nothing, the databases are measured. The answer tells how that ended.
use Rattle.std.specs.Prelude.{◌≡◌, ℕ, List, Ok, Err, Result}
use Rattle.card.specs.Meaning.{Meaning, Name, Switched}
use Rattle.refusal.specs.declared.step.Step.TheVariants.{R1}
use Rattle.refusal.specs.declared.fault.SetFault.{SetFault}
use Rattle.refusal.specs.declared.refusals.Refusal.{Refusal}
use Rattle.refusal.specs.declared.refusals.Refusal.TheVariants.{Card}
use Rattle.steps.specs.Tasks.{Went}
use Rattle.survey.specs.declared.report.Found.{Found}
use Rattle.recovery.specs.declared.report.Recovery.{Recovery}
use Rattle.survey.specs.Asks.{AskedFor, Asks}
use Rattle.survey.specs.Finds.{Finds}
use Rattle.set_files.specs.Looked.{Looked, dropped}
use Rattle.recovery.specs.Measured.{Measured, measure_tasks}
use Rattle.survey.specs.Seen.{Seen, AllSeen}
use Rattle.settling.specs.Settled.{settle_tasks}

-- what was found and measured, or why the measure was refused
abbrev pub report : List Found → Result (List ℕ) Refusal → Result Recovery Refusal
report found (Ok sizes) = Ok (record { found = found; sizes = sizes })
report found (Err e) = Err e

module _ {C : Type 0} (m : Meaning C) (file : ℕ → Name) (n : ℕ) where
  -- the lengths are asked for last
  pub record Finished (c : C) (found : List Found) (r : Result Recovery Refusal) (c' : C) : Type 0 where
    pub sizes : Result (List ℕ) Refusal
    pub went : Went m (measure_tasks file n sizes) c (dropped sizes) c'
    pub measured : Measured (m.holds c) file n sizes
    pub answer : r ≡ report found sizes

  abbrev pub AfterSettled : C → List Found → Result (Unit {0}) SetFault → Result Recovery Refusal → C → Type 0
  AfterSettled c found (Ok u) r c' = Finished c found r c'
  AfterSettled c found (Err f) r c' = (r ≡ Err (Card f)) × (c' ≡ c)

  -- the journals are settled by what they were seen as
  pub record Settled (c : C) (found : List Found) (r : Result Recovery Refusal) (c' : C) : Type 0 where
    pub then : C
    pub done : Result (Unit {0}) SetFault
    pub went : (seen : ℕ → Seen) → AllSeen (m.holds c) file n found seen → Went m (settle_tasks file n seen (m.holds c (file 8))) c done then
    pub after : AfterSettled then found done r c'

  abbrev pub AfterSurvey : C → Result (List Found) Refusal → Result Recovery Refusal → C → Type 0
  AfterSurvey c (Ok found) r c' = Settled c found r c'
  AfterSurvey c (Err e) r c' = (r ≡ Err e) × (c' ≡ c)

  pub record Recovered (c : C) (r : Result Recovery Refusal) (c' : C) : Type 0 where
    pub start : C
    pub then : C
    pub found : Result (List Found) Refusal
    pub switched : Switched m c start
    pub looked : Looked m R1 file n start (dropped found) then
    pub asked : AskedFor m (Asks (m.holds start) file n) start found then
    pub finds : Finds (m.holds start) file n found
    pub after : AfterSurvey then found r c'
