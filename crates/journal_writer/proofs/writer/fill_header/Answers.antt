use Rattle.std.proofs.Common.{ℕ, ap, ◌∙◌}
use Rattle.card.specs.Meaning.{Bytes}
use Rattle.card.specs.Calls.{overwrite}
use Rattle.card.specs.Numbers.{number_bytes}
use Rattle.journal.specs.Format.{magic}
use Rattle.journal_writer.proofs.Filled.{header_filled}
use Rattle.journal_writer.proofs.writer.fill_header.Goals as goal

pub returns : goal.returns
returns c =
    let put : ℕ → ℕ → Bytes → Bytes = λ place n s. overwrite s place (number_bytes n) in
    c.put_number-4.ensures
    ∙ ap (put 24 512)
    (c.put_number-3.ensures
    ∙ ap (put 20 512)
    (c.put_number-2.ensures
    ∙ ap (put 16 c.args.size)
    (c.put_number.ensures ∙ ap (put 12 c.args.nonce) (c.put_bytes-2.ensures ∙ ap (λ (s : Bytes). overwrite s 0 magic) c.put_bytes.ensures))))
    ∙ header_filled c.args.buffer.now c.args.nonce c.args.size
