use Rattle.std.proofs.Common.{ℕ, rules, arith}
use Rattle.std.proofs.lemmas.Iterator.{cases_from_any, YieldsList-from_range}
use Rattle.names.specs.Names.{Alike}
use Rattle.names.specs.Files.{names_in}
use Rattle.names.proofs.Files.{file_last}
use Rattle.names.proofs.Ranges.{below_decides}
use Rattle.names.proofs.names.NameList.has_twins.Goals as goal
use borrow.Author.Tests.{tests}

pub returns : goal.returns
returns c =
    let taken : ℕ → Type 0 = λ (k : ℕ). (j : ℕ) × Alike (names_in c.args.self.now) j k in
    let told = below_decides c.any.result 9 taken
    (cases_from_any _ _ _ taken (λ k. taken k → ⊥) c.any.ensures.ran (YieldsList-from_range 0 9 9 (cc) (omega arith)) (λ x q k. search (rules, tests)) (λ x q k. search (rules, tests))) in
    (λ t. let w = told.0 t in (w.2.0, (w.0, w.2.1)), λ w. told.1 (w.1.0, file_last _ w.1.0 c.args.self.now.few w.1.1.1, (w.0, w.1.1)))
