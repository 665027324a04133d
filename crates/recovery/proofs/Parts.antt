-- A recovery by its parts: what follows a survey that was good, and what follows a settling that the card let through.
use Rattle.std.proofs.Common.{ℕ, List, Ok, Result}
use Rattle.card.specs.Meaning.{Meaning, Name, Switched}
use Rattle.refusal.specs.declared.refusals.Refusal.{Refusal}
use Rattle.refusal.specs.declared.step.Step.TheVariants.{R1}
use Rattle.set_files.specs.Looked.{Looked}
use Rattle.steps.specs.Tasks.{Went}
use Rattle.survey.specs.Asks.{AskedFor, Asks}
use Rattle.survey.specs.Finds.{Finds}
use Rattle.survey.specs.Seen.{Seen, AllSeen}
use Rattle.survey.specs.declared.report.Found.{Found}
use Rattle.settling.specs.Settled.{settle_tasks}
use Rattle.recovery.specs.declared.report.Recovery.{Recovery}
use Rattle.recovery.specs.Recovered.{Finished, Settled, Recovered}

module _ {C : Type 0} (m : Meaning C) (file : ℕ → Name) (n : ℕ) where
  pub surveyed :
      (c start then c' : C) (found : List Found) (r : Result Recovery Refusal) → Switched m c start → Looked m R1 file n start (Ok tt) then → AskedFor m (Asks (m.holds start) file n) start (Ok found) then → Finds (m.holds start) file n (Ok found) →
      Settled m file n then found r c' → Recovered m file n c r c'
  surveyed c start then c' found r switched looked asked finds after =
      record { start = start; then = then; found = Ok found; switched = switched; looked = looked; asked = asked; finds = finds; after = after }

  pub settled :
      (c then c' : C) (found : List Found) (r : Result Recovery Refusal) → ((seen : ℕ → Seen) → AllSeen (m.holds c) file n found seen → Went m {V = Unit {0}} (settle_tasks file n seen (m.holds c (file 8))) c (Ok tt) then) →
      Finished m file n then found r c' → Settled m file n c found r c'
  settled c then c' found r went after = record { then = then; done = Ok tt; went = went; after = after }
