use Rattle.std.proofs.Common.{◌≡◌, ℕ, ◌+◌, length, Some, None, Option, ◌∙◌, arith, rules, Bor}
use Rattle.std.specs.Option.{MatchOption}
use Rattle.card.specs.Meaning.{Bytes}
use Rattle.journal.specs.Format.{super_bytes}
use Rattle.journal_writer.specs.Written.{told}
use Rattle.journal.proofs.Encoded.{length_super}
use Rattle.journal_writer.proofs.filler.super_length.Goals as goal

long : (o : Option (Bor Bytes)) (r : ℕ) (Is : Bor Bytes → Type 0) → ((n : Bor Bytes) → Is n → r ≡ 20 + length n.now) → MatchOption o (r ≡ 0) Is → r ≡ length (super_bytes (told o))
unfolding super_bytes
long None r Is each is = is
long (Some n) r Is each is = each n is ∙ omega (arith, length_super n.now)

pub returns : goal.returns
returns c = long c.args.name c.map_or.result _ (λ n is. search rules) c.map_or.ensures
