use Rattle.std.proofs.Common.{ℕ, rules}
use Rattle.std.proofs.lemmas.Iterator.{first_from_Range}
use Rattle.names.specs.Files.{names_of}
use Rattle.names.proofs.Files.{Has, found_named}
use Rattle.names.proofs.names.Names.number_of.Goals as goal
use borrow.Author.Tests.{tests}

pub returns : goal.returns
returns c =
    let s = c.args.self.now in
    let has : ℕ → Type 0 = Has (names_of s) c.args.name.now in
    found_named s c.args.name.now c.find.result
    (first_from_Range _ _ _ _ has (λ k. has k → ⊥) c.find.ensures.ran (λ x q k. search (rules, tests)) (λ x q k. search (rules, tests)))
