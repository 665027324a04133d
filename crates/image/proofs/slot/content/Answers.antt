use Rattle.std.proofs.Common.{◌≡◌, ℕ, ◌-◌, ◌<◌, length, take, drop, Option, MatchOption, Bor, ap, ◌∙◌, subst, ap₂}
use Rattle.std.specs.Array.{IsFirstChunk}
use Rattle.std.proofs.lemmas.List.{take_rest, take_min}
use Rattle.card.specs.Meaning.{Bytes}
use Rattle.card.specs.Numbers.{number_at}
use Rattle.image.specs.Layout.{content}
use Rattle.image.proofs.Bytes.{number_first}
use Rattle.image.proofs.slot.content.Goals as goal

pub returns-clause-is : goal.returns-clause-is
unfolding content
returns-clause-is c =
    let s = c.args.slot.now in
    let from = take (length s - 33) (drop 33 s) in
    let first : IsFirstChunk from c.unwrap-length.result.now 4 =
    subst (λ (o : Option (Bor Bytes)). MatchOption o (length from < 4) (λ y. IsFirstChunk from y.now 4)) c.unwrap-length.ensures c.first_chunk.ensures.cases in
    let number : c.from_be_bytes-stored.result ≡ number_at s 33 = c.from_be_bytes-stored.ensures ∙ number_first s c.unwrap-length.result.now (first.same ∙ ap (take 4) (take_rest s 33)) in
    ap (λ (n : ℕ). take n (take (length s - 37) (drop 37 s))) c.min.ensures ∙ take_min c.from_be_bytes-stored.result (take (length s - 37) (drop 37 s)) ∙ ap₂ (λ (n : ℕ) (l : Bytes). take n l) number (take_rest s 37)
