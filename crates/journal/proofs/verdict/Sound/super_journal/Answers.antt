use Rattle.std.proofs.Common.{◌≡◌, true, false, Some, None, Option, ap, ◌∙◌, Bor}
use Rattle.std.specs.Option.{MatchOption}
use Rattle.std.proofs.lemmas.Bool.{both_ways}
use Rattle.card.specs.Meaning.{Bytes}
use Rattle.card.specs.Calls.{part}
use Rattle.journal.specs.Read.{NameTold, within}
use Rattle.journal.specs.declared.verdict.Sound.{Sound}
use Rattle.journal.specs.declared.verdict.Span.{Span}
use Rattle.journal.proofs.InPlace.{name_told}
use Rattle.journal.proofs.verdict.Sound.super_journal.Goals as goal

told :
    (b : Bytes) (s : Sound) (span : Span) → s.name ≡ Some span → (r : Option (Bor Bytes)) →
    MatchOption r (within b span ≡ false) (λ p. (within b span ≡ true) × (p.now ≡ part b span.place span.length)) → MatchOption r (NameTold b s None) (λ n. NameTold b s (Some n.now))
told b s span is None out = λ j of. absurd (both_ways _ out (name_told b s j of span is).0)
told b s span is (Some p) there = λ j of. ap (λ (n : Bytes). Some n) there.1 ∙ (name_told b s j of span is).1

pub returns-clause-told : goal.returns-clause-told
returns-clause-told c = told c.args.bytes.now c.args.self.now c.in_ok-self.field-0 c.in_ok-self.was c.of.result c.of.ensures
