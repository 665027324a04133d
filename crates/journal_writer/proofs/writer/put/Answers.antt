use Rattle.std.proofs.Common.{ℕ, Option, ap, arith, rules}
use Rattle.std.specs.Option.{is_some, unwrap_or}
use Rattle.journal_writer.proofs.writer.put.Goals as goal

pub work-requires : goal.work-requires
work-requires g c = search (rules, c.requires c.in_ok-room.field-0 c.in_ok-room.ensures.0 c.in_ok-room.ensures.1)

pub returns : goal.returns
returns g c =
    let is = c.in_ok-room.ensures.0 in
    (ap is_some is, omega (arith, ap (λ (o : Option ℕ). unwrap_or o 0) is, c.in_ok-room.ensures.1), search rules)
