use Rattle.std.proofs.Common.{◌≡◌, ℕ, ◌+◌, ◌≤◌, [], ◌∷◌, ◌++◌, get_or, length, take, sym, ap, ◌∙◌, subst, arith}
use native.Mathlib.Nat.{sub-zero}
use Rattle.card.specs.Meaning.{Bytes, Name}
use Rattle.commit.specs.Works.{files}
use Rattle.commit.proofs.Listing.{Listing, listing_none, listing_more, listing_all}
use Rattle.commit.proofs.work.Work.fill_super.Goals as goal

pub loop-database-init : goal.loop-database-init
loop-database-init c = listing_none _ _ _

pub put_ended-end-requires : goal.put_ended-end-requires
put_ended-end-requires c =
    omega (arith, c.loop-database.invariant.few, c.changed-database-items.ensures.few, ap length c.bytes.ensures, c.file-journal.result.short)

pub loop-database-preserved : goal.loop-database-preserved
loop-database-preserved c =
    let list = c.changed-database-items.result.now in
    let i = c.loop-database.database-index in
    let end = c.loop-database.end in
    let new = c.put_ended-end.new.buffer in
    let name : Name = files c.args.self.now (4 + get_or list i 0) in
    let is : c.bytes.result.now ≡ name = rw c.journal_of.ensures at (c.bytes.ensures ∙ c.file-journal.ensures) in
    let at : c.put_ended-end.result ≡ end + length name + 1 = c.put_ended-end.ensures.end ∙ ap (λ (x : Bytes). end + length x + 1) is in
    let put : take (end + length name + 1) new ≡ take end c.loop-database.buffer ++ (name ++ (0 ∷ [])) =
    ap (λ (k : ℕ). take k new) (sym at) ∙ c.put_ended-end.ensures.front ∙ ap (λ (x : Bytes). take end c.loop-database.buffer ++ (x ++ (0 ∷ []))) is in
    let short : length name ≤ 32 = omega (arith, ap length is, ap length c.bytes.ensures, c.file-journal.result.short) in
    subst (λ (k : ℕ). Listing (λ d. files c.args.self.now (4 + d)) list (i + 1) new k) (sym at)
    (listing_more (λ d. files c.args.self.now (4 + d)) list i c.loop-database.buffer new end c.loop-database-test.true short c.loop-database.invariant put)

pub returns : goal.returns
returns c =
    ap (λ (k : ℕ). take k c.loop-database.buffer) (sub-zero c.loop-database.end)
    ∙ listing_all _ _ _ c.changed-database-items.ensures.is c.loop-database.database-index _ _ c.loop-database-test.false c.loop-database.invariant
