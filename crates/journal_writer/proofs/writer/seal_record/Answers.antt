use Rattle.std.proofs.Common.{◌≡◌, ℕ, ◌+◌, ◌-◌, take, drop, ap, ◌∙◌, ap₂, arith}
use Rattle.card.specs.Meaning.{Bytes}
use Rattle.card.specs.Calls.{overwrite}
use Rattle.card.specs.Numbers.{number_bytes}
use Rattle.journal.specs.Format.{checksum}
use Rattle.journal.specs.Judged.{page_bytes, record_place}
use Rattle.journal_writer.proofs.Sealed.{record_sealed}
use Rattle.journal_writer.proofs.writer.seal_record.Goals as goal

pub returns : goal.returns
returns c =
    let s = c.args.buffer.now in
    let k = c.args.index in
    let at = c.record_place-place.result in
    let is : at ≡ record_place k = c.record_place-place.ensures in
    let from : at + 4 ≡ record_place k + 4 = omega arith in
    let long : at + 4 + 512 - (at + 4) ≡ 512 = omega arith in
    let last : at + 4 + 512 ≡ record_place k + 516 = omega (arith, is) in
    let page : take (at + 4 + 512 - (at + 4)) (drop (at + 4) s) ≡ page_bytes s k = ap₂ (λ (n p : ℕ). take n (drop p s)) long from in
    let sum : c.checksum-sum.result ≡ checksum c.args.nonce (page_bytes s k) = c.checksum-sum.ensures ∙ ap (checksum c.args.nonce) page in
    c.put_number-2.ensures
    ∙ ap₂ (λ (t : Bytes) (n : ℕ). overwrite t (at + 4 + 512) (number_bytes n)) c.put_number.ensures sum
    ∙ ap₂ (λ (p q : ℕ). overwrite (overwrite s p (number_bytes c.args.page)) q (number_bytes (checksum c.args.nonce (page_bytes s k)))) is last
    ∙ record_sealed s k c.args.nonce c.args.page (omega arith)
