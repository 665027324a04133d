use Rattle.std.proofs.Common.{◌≡◌, ℕ, true, List, length, Option, Some, None, refl, rules, arith}
use Rattle.std.specs.Option.{MatchOption}
use Rattle.std.proofs.lemmas.Bool.{false≢true, both_ways}
use Rattle.std.proofs.lemmas.Iterator.{cases_from_any, YieldsList-from_range}
use Rattle.names.specs.Names.{Bytes, is_file, file_name, listed}
use Rattle.names.specs.Files.{names_in}
use Rattle.names.proofs.Ranges.{below_decides}
use Rattle.names.proofs.names.NameList.is_taken.Goals as goal
use borrow.Author.Tests.{tests}

-- the file is there, and has the name
abbrev Has : List Bytes → Bytes → ℕ → Type 0
Has names name j = (is_file (length names) j ≡ true) × (file_name (listed names) j ≡ name)

-- what is told of a name that is not there
none : {F A : Type 0} (B : F → Type 0) (r : Option F) → ((f : F) → r ≡ Some f → ⊥) → MatchOption r A B → A
none B None not told = told
none B (Some f) not told = absurd (not f refl)

pub returns-in_default : goal.returns-in_default
returns-in_default c = (λ e. absurd (false≢true e), λ w. absurd (both_ways _ (none _ c.name_of.result c.in_default.not-Some c.name_of.ensures) w.1.1))

pub returns : goal.returns
returns c =
    let there = c.in-Some.ensures in
    let has : ℕ → Type 0 = Has (names_in c.args.self.now) (file_name (listed (names_in c.args.self.now)) c.args.file) in
    let told = below_decides c.any.result c.args.file has
    (cases_from_any _ _ _ has (λ j. has j → ⊥) c.any.ensures.ran (YieldsList-from_range 0 c.args.file c.args.file (cc) (omega arith)) (λ x q k. search (rules, tests)) (λ x q k. search (rules, tests))) in
    (λ t. let w = told.0 t in (w.0, (w.2.0, there.0, w.1, w.2.1)), λ w. told.1 (w.0, w.1.2, (w.1.0, w.1.3)))
