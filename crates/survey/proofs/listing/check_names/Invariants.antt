use Rattle.std.proofs.Common.{◌≡◌, ℕ, ◌<◌, ◌⊎◌, [], get_or, None, Ok}
use Rattle.super_journal.specs.Written.{texts}
use Rattle.refusal.specs.declared.step.Step.TheVariants.{R1}
use Rattle.names.specs.Files.{how_many, file_of}
use Rattle.survey.specs.Asks.{AsksListed}
use Rattle.survey.specs.Finds.{JournalName}
use Rattle.set_files.specs.Looked.{Looked}
use Rattle.survey.proofs.Asked.{Gone}
use Rattle.survey.proofs.listing.check_names.Given as goal

abbrev pub invariant-loop-name : goal.invariant-loop-name
invariant-loop-name g l =
    Looked g.C.Card.meaning R1 (file_of l.names) (how_many l.names) l.initial.card (Ok tt) l.card
    × Gone g.C.Card.meaning (λ i. AsksListed (g.C.Card.meaning.holds l.initial.card) (file_of l.names) (how_many l.names) (get_or (texts l.list) i [])) l.name-index l.initial.card l.card
    × ((k : ℕ) → k < l.name-index → JournalName (file_of l.names) (how_many l.names) (get_or (texts l.list) k []) ⊎ (g.C.Card.meaning.holds l.initial.card (get_or (texts l.list) k []) ≡ None))
