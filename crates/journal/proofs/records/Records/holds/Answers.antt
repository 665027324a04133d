use Rattle.std.proofs.Common.{◌≡◌, ℕ, ◌+◌, ◌-◌, take, drop, ap, ◌∙◌, ap₂, arith}
use Rattle.std.proofs.lemmas.Bool.Decides.{nat_tests}
use Rattle.card.specs.Numbers.{number_at}
use Rattle.journal.specs.Format.{checksum}
use Rattle.journal.specs.Judged.{record_right, nonce_of, page_bytes, record_place}
use Rattle.journal.proofs.records.Records.holds.Goals as goal

pub returns-then-number-self : goal.returns-then-number-self
unfolding record_right
returns-then-number-self c =
    let b = c.args.self.now.bytes.now in
    let k = c.args.index in
    let at = c.record_place-place.result in
    let is : at ≡ record_place k = c.record_place-place.ensures in
    let long : at + 4 + 512 - (at + 4) ≡ 512 = omega arith in
    let from : at + 4 ≡ record_place k + 4 = omega arith in
    let page : take (at + 4 + 512 - (at + 4)) (drop (at + 4) b) ≡ page_bytes b k = ap₂ (λ (n m : ℕ). take n (drop m b)) long from in
    let sum : c.checksum-sum.result ≡ checksum (nonce_of b) (page_bytes b k) = c.checksum-sum.ensures ∙ ap₂ checksum c.args.self.now.read.nonce page in
    let page-number : number_at b at ≡ number_at b (record_place k) = ap (number_at b) is in
    let stored : number_at b (at + 4 + 512) ≡ number_at b (record_place k + 516) = ap (number_at b) (omega (arith, is)) in
    grind (arith, nat_tests, sum, page-number, stored)
