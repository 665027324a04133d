use Rattle.std.proofs.Common.{sym, ◌∙◌, arith}
use Rattle.journal_writer.specs.Written.{told}
use Rattle.journal_writer.proofs.Whole.{made_is, super_short}
use Rattle.journal_writer.proofs.filler.journal_length.Goals as goal

pub overflow_add-result : goal.overflow_add-result
overflow_add-result c =
    let is = made_is c.args.size c.args.pages.now (told c.args.name) (sym c.is_made.ensures ∙ c.if-not-is_made.false) in
    record { fits = omega (arith, is.few, super_short (told c.args.name) is.named, c.super_length.ensures, c.record_place.ensures) }
