use Rattle.std.proofs.Common.{◌≡◌, ◌+◌, MatchOption, arith, rules}
use Rattle.journal.proofs.InPlace.{length_named}
use Rattle.journal.proofs.verdict.Sound.length.Goals as goal

pub returns : goal.returns
returns c =
    let named : MatchOption c.args.self.now.name (c.map_or-named.result ≡ 0) (λ x. c.map_or-named.result ≡ x.length + 20) = search rules in
    λ j ok p. omega (arith, length_named _ j _ ok p named)
