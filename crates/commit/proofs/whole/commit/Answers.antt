use Rattle.std.proofs.lemmas.Result.{err_from_is_err_and}
use Rattle.commit.proofs.Sequence.{not_opened, not_made, not_written, not_closed, counted, as_given}
use Rattle.commit.proofs.whole.commit.Goals as goal

pub returns-in_err-open_super : goal.returns-in_err-open_super
returns-in_err-open_super g c =
    let p = err_from_is_err_and c.from_residual.result c.from_residual.ensures.1 in
    rw (p.1, p.2) (as_given _ c.new-work.result _ _ _ _ _ _ _ c.new-work.ensures.names c.new-work.ensures.memory c.new-work.ensures.sizes c.new-work.ensures.nonce (not_opened _ c.new-work.result _ _ _ c.in_err-open_super.ensures))

pub returns-in_err-make_journals : goal.returns-in_err-make_journals
returns-in_err-make_journals g c =
    let p = err_from_is_err_and c.from_residual-in_err-make_journals.result c.from_residual-in_err-make_journals.ensures.1 in
    rw (p.1, p.2)
    (as_given _ c.new-work.result _ _ _ _ _ _ _ c.new-work.ensures.names c.new-work.ensures.memory c.new-work.ensures.sizes c.new-work.ensures.nonce (not_made _ c.new-work.result _ _ c.in_ok-open_super.ensures _ _ c.in_err-make_journals.ensures))

pub returns-in_err-write_databases : goal.returns-in_err-write_databases
returns-in_err-write_databases g c =
    let p = err_from_is_err_and c.from_residual-in_err-write_databases.result c.from_residual-in_err-write_databases.ensures.1 in
    rw (p.1, p.2)
    (as_given _ c.new-work.result _ _ _ _ _ _ _ c.new-work.ensures.names c.new-work.ensures.memory c.new-work.ensures.sizes c.new-work.ensures.nonce
    (not_written _ c.new-work.result _ _ c.in_ok-open_super.ensures _ c.in_ok-make_journals.ensures _ _ c.in_err-write_databases.ensures))

pub returns-in_err-close : goal.returns-in_err-close
returns-in_err-close g c =
    let p = err_from_is_err_and c.from_residual-in_err-close.result c.from_residual-in_err-close.ensures.1 in
    rw (p.1, p.2)
    (as_given _ c.new-work.result _ _ _ _ _ _ _ c.new-work.ensures.names c.new-work.ensures.memory c.new-work.ensures.sizes c.new-work.ensures.nonce
    (not_closed _ c.new-work.result _ _ c.in_ok-open_super.ensures _ c.in_ok-make_journals.ensures _ c.in_ok-write_databases.ensures _ _ c.in_err-close.ensures))

pub returns : goal.returns
returns g c =
    as_given _ c.new-work.result _ _ _ _ _ _ _ c.new-work.ensures.names c.new-work.ensures.memory c.new-work.ensures.sizes c.new-work.ensures.nonce
    (counted _ c.new-work.result _ _ c.in_ok-open_super.ensures _ c.in_ok-make_journals.ensures _ c.in_ok-write_databases.ensures _ _ _ c.in_ok-close.ensures c.delete_spent_journals.ensures)
