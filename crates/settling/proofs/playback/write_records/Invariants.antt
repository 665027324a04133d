use Rattle.std.proofs.Common.{[], ◌∷◌, Ok}
use Rattle.journal.specs.Format.{Journal}
use Rattle.journal.specs.Read.{Of}
use Rattle.steps.specs.Tasks.{Went, up_to}
use Rattle.names.specs.Files.{file_of}
use Rattle.settling.specs.Settled.{record_task}
use Rattle.settling.proofs.playback.write_records.Given as goal

abbrev pub invariant-loop-index : goal.invariant-loop-index
invariant-loop-index g l =
    (j : Journal) → Of l.bytes l.sound j →
    Went g.C.Card.meaning {V = Unit {0}} (up_to (λ k. record_task (file_of l.names) l.d j k ∷ []) l.index) l.initial.card (Ok tt) l.card
