use Rattle.std.proofs.Common.{ℕ, ◌<◌, Ok}
use Rattle.refusal.specs.declared.step.Step.TheVariants.{R1}
use Rattle.names.specs.Files.{how_many, file_of}
use Rattle.set_files.specs.Looked.{Looked}
use Rattle.survey.specs.Asks.{AsksJournal}
use Rattle.survey.specs.Linked.{LookedAs, look_at}
use Rattle.survey.proofs.Asked.{Gone}
use Rattle.survey.proofs.journals.judge_journals.Given as goal

abbrev pub invariant-loop-d : goal.invariant-loop-d
invariant-loop-d g l =
    Looked g.C.Card.meaning R1 (file_of l.names) (how_many l.names) l.initial.card (Ok tt) l.card
    × Gone g.C.Card.meaning (AsksJournal (g.C.Card.meaning.holds l.initial.card) (file_of l.names) (how_many l.names)) l.d l.initial.card l.card
    × ((k : ℕ) → k < l.d → LookedAs (g.C.Card.meaning.holds l.initial.card) (file_of l.names) k (look_at l.kept k))
