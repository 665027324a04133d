use Rattle.std.proofs.Common.{◌≡◌, true, false, rules}
use Rattle.std.proofs.lemmas.Iterator.{IsFirst-from_position, YieldsList-from_slice}
use Rattle.names.specs.Names.{bytes_ok}
use Rattle.names.proofs.Texts.{first_bad}
use Rattle.names.proofs.names.checks.first_odd.Goals as goal
use borrow.Author.Tests.{tests}

pub returns : goal.returns
returns c =
    let list = c.args.list.now in
    first_bad bytes_ok list c.position.result
    (IsFirst-from_position _ _ c.position.result (λ t. bytes_ok t.now ≡ false) (λ t. bytes_ok t.now ≡ true) c.position.ensures.ran (YieldsList-from_slice list (cc)) (λ x q k. search (rules, tests)) (λ x q k. search (rules, tests)))
