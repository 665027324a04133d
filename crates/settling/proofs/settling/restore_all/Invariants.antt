use Rattle.std.proofs.Common.{ℕ, Ok}
use Rattle.steps.specs.Tasks.{Went}
use Rattle.names.specs.Files.{how_many, file_of}
use Rattle.survey.specs.Seen.{Seen, AllSeen}
use Rattle.settling.specs.Settled.{all_tasks}
use Rattle.settling.proofs.settling.restore_all.Given as goal

abbrev pub invariant-loop-d : goal.invariant-loop-d
invariant-loop-d g l =
    (seen : ℕ → Seen) → AllSeen (g.C.Card.meaning.holds l.initial.card) (file_of l.names) (how_many l.names) l.found seen →
    Went g.C.Card.meaning {V = Unit {0}} (all_tasks (file_of l.names) l.d seen) l.initial.card (Ok tt) l.card
