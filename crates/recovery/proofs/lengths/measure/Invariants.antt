use Rattle.std.proofs.Common.{◌≡◌, ℕ, ◌<◌, Ok, get_or}
use Rattle.steps.specs.Tasks.{Went, up_to}
use Rattle.names.specs.Files.{file_of}
use Rattle.recovery.specs.Measured.{HasPages, length_tasks}
use Rattle.recovery.proofs.lengths.measure.Given as goal

abbrev pub invariant-loop-d : goal.invariant-loop-d
invariant-loop-d g l =
    Went g.C.Card.meaning {V = Unit {0}} (up_to (length_tasks (file_of l.names)) l.d) l.initial.card (Ok tt) l.card
    × (g.C.Card.meaning.holds l.card ≡ g.C.Card.meaning.holds l.initial.card)
    × ((k : ℕ) → k < l.d → HasPages (g.C.Card.meaning.holds l.initial.card (file_of l.names k)) (get_or l.kept k 0))
