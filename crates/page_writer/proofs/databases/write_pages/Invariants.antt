use Rattle.names.specs.Files.{file_of}
use Rattle.page_writer.proofs.Writings.{Writing}
use Rattle.page_writer.proofs.databases.write_pages.Given as goal

abbrev pub invariant-loop-page : goal.invariant-loop-page
invariant-loop-page g l =
    (goal.iterator-loop-page g).can_next l.page-iterator
    × ((goal.iterator-loop-page g).is_finite l.page-iterator
    × Writing g.C.Card.meaning (file_of l.names l.database) l.memory l.database l.initial.card l.yielded l.card)
