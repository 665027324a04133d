use Rattle.std.proofs.Common.{◌≤◌, length, rules}
use Rattle.std.proofs.lemmas.Iterator.{cases_from_all, YieldsList-from_slice}
use Rattle.super_journal.specs.Super.{Plain}
use Rattle.super_journal.proofs.Listed.{hold_is}
use Rattle.super_journal.proofs.writer.names_hold.Goals as goal

pub returns-then-contains : goal.returns-then-contains
returns-then-contains c =
    let names = c.args.names.now in
    let few : (1 ≤ length names) × (length names ≤ 4) = search rules in
    hold_is names c.all.result few
    (cases_from_all _ _ c.all.result (λ n. Plain n.now) (λ n. Plain n.now → ⊥) c.all.ensures.ran (YieldsList-from_slice names cc) (λ x q k. search rules) (λ x q k. search rules))
