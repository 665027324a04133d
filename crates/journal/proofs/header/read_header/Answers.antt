use Rattle.std.proofs.Common.{◌≡◌, ℕ, Bool, true, false, take, drop, sym, ◌∙◌, arith}
use Rattle.std.proofs.lemmas.List.{drop-take}
use Rattle.std.specs.Bool.{then_some}
use Rattle.std.specs.Option.{MatchOption}
use Rattle.card.specs.Meaning.{Bytes}
use Rattle.journal.specs.Judged.{header_right}
use Rattle.journal.specs.Fronts.{front_right, Apart, Reads}
use Rattle.journal.specs.declared.header.Header.{Header}
use Rattle.journal.proofs.Numbers.{number_take}
use Rattle.journal.proofs.header.read_header.Goals as goal

-- a header as its sector is taken apart
module _ (b padding : Bytes) (h : Header) (t p : ℕ) (are : Apart (take 512 b) h t p) where
  right : padding ≡ drop 28 (take 512 b) → header_right b ≡ front_right h.count h.size t p padding
  unfolding header_right
  right pad =
      λ i.
      front_right ((sym (number_take b 512 8 (omega arith)) ∙ sym are.numbers.count) i) ((sym (number_take b 512 16 (omega arith)) ∙ sym are.numbers.size) i)
      ((sym (number_take b 512 20 (omega arith)) ∙ sym are.sector) i) ((sym (number_take b 512 24 (omega arith)) ∙ sym are.page) i)
      ((sym (drop-take 28 484 b) ∙ sym pad) i)

  reads : Reads b h
  reads =
      record {
        count = are.numbers.count ∙ number_take b 512 8 (omega arith);
        nonce = are.numbers.nonce ∙ number_take b 512 12 (omega arith);
        size = are.numbers.size ∙ number_take b 512 16 (omega arith);
      }

  told : (holds : Bool) → header_right b ≡ holds → MatchOption (then_some holds h) (header_right b ≡ false) (λ g. (header_right b ≡ true) × Reads b g)
  told false is = is
  told true is = (is, reads)

pub returns : goal.returns
returns c =
    let b = c.args.bytes.now in
    let are = c.take_apart-front.ensures in
    let padding = c.take_apart-front.result.padding.now in
    rw c.then_some.ensures (told b padding _ _ _ are.numbers c.holds.result (right b padding _ _ _ are.numbers are.padding ∙ sym c.holds.ensures))
