use Rattle.std.proofs.Common.{Err, ap, ◌∙◌}
use Rattle.std.proofs.lemmas.Result.{err_from_is_err_and}
use Rattle.journal.specs.declared.fault.JournalFault.{JournalFault}
use Rattle.journal.proofs.Ran.{acted_end, acted_next, acted_stop, written_as}
use Rattle.journal_writer.proofs.stored.store_journal.Goals as goal

pub returns-in_err-write : goal.returns-in_err-write
returns-in_err-write g c =
    let p = err_from_is_err_and c.from_residual.result c.from_residual.ensures.1 in
    acted_stop _ _ _ _ _ _ _ _ c.in_err-write.ensures (p.1 ∙ ap (λ (f : JournalFault). Err f) p.2)

pub returns-in_err-sync : goal.returns-in_err-sync
returns-in_err-sync g c =
    let p = err_from_is_err_and c.from_residual-in_err-sync.result c.from_residual-in_err-sync.ensures.1 in
    acted_next _ _ _ _ _ _ _ _ _ c.in_ok-write.ensures
    (acted_stop _ _ _ _ _ _ _ _ c.in_err-sync.ensures (p.1 ∙ ap (λ (f : JournalFault). Err f) p.2))

pub returns-in_err-write-2 : goal.returns-in_err-write-2
returns-in_err-write-2 g c =
    let p = err_from_is_err_and c.from_residual-in_err-write-2.result c.from_residual-in_err-write-2.ensures.1 in
    acted_next _ _ _ _ _ _ _ _ _ c.in_ok-write.ensures
    (acted_next _ _ _ _ _ _ _ _ _ c.in_ok-sync.ensures
    (acted_stop _ _ _ _ _ _ _ _ (written_as c.to_be_bytes.ensures c.in_err-write-2.ensures) (p.1 ∙ ap (λ (f : JournalFault). Err f) p.2)))

pub returns-in_err-sync-2 : goal.returns-in_err-sync-2
returns-in_err-sync-2 g c =
    let p = err_from_is_err_and c.from_residual-in_err-sync-2.result c.from_residual-in_err-sync-2.ensures.1 in
    acted_next _ _ _ _ _ _ _ _ _ c.in_ok-write.ensures
    (acted_next _ _ _ _ _ _ _ _ _ c.in_ok-sync.ensures
    (acted_next _ _ _ _ _ _ _ _ _ (written_as c.to_be_bytes.ensures c.in_ok-write-2.ensures)
    (acted_stop _ _ _ _ _ _ _ _ c.in_err-sync-2.ensures (p.1 ∙ ap (λ (f : JournalFault). Err f) p.2))))

pub returns : goal.returns
returns g c =
    acted_next _ _ _ _ _ _ _ _ _ c.in_ok-write.ensures
    (acted_next _ _ _ _ _ _ _ _ _ c.in_ok-sync.ensures
    (acted_next _ _ _ _ _ _ _ _ _ (written_as c.to_be_bytes.ensures c.in_ok-write-2.ensures)
    (acted_next _ _ _ _ _ _ _ _ _ c.in_ok-sync-2.ensures (acted_end _ _ _))))
