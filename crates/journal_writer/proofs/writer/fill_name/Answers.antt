use Rattle.std.proofs.Common.{ℕ, ◌+◌, length, ap, ◌∙◌}
use Rattle.card.specs.Meaning.{Bytes}
use Rattle.card.specs.Calls.{overwrite}
use Rattle.card.specs.Numbers.{number_bytes}
use Rattle.journal.specs.Format.{magic}
use Rattle.journal_writer.proofs.Filled.{super_filled}
use Rattle.journal_writer.proofs.writer.fill_name.Goals as goal

pub returns-clause-put : goal.returns-clause-put
returns-clause-put c =
    let s = c.args.buffer.now in
    let name = c.args.name.now in
    let n = length name in
    let at = c.args.place in
    let put : ℕ → ℕ → Bytes → Bytes = λ place k t. overwrite t place (number_bytes k) in
    c.put_bytes-2.ensures
    ∙ ap (λ (t : Bytes). overwrite t (at + 12 + n) magic)
    (c.put_number-3.ensures
    ∙ ap (λ (k : ℕ). put (at + 8 + n) k c.put_number-2.new.buffer) c.byte_sum.ensures
    ∙ ap (put (at + 8 + n) _)
    (c.put_number-2.ensures ∙ ap (put (at + 4 + n) n) (c.put_bytes.ensures ∙ ap (λ (t : Bytes). overwrite t (at + 4) name) c.put_number.ensures)))
    ∙ super_filled s at name c.requires.room
