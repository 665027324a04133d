use Rattle.std.proofs.Common.{◌≡◌, ℕ, length, Some, None, Option, sym, ap, ◌∙◌, subst, arith, Ok}
use Rattle.card.specs.Meaning.{Name}
use Rattle.card.specs.Calls.{overwrite}
use Rattle.journal.specs.Format.{super_bytes}
use Rattle.journal_writer.specs.Written.{Filled, told}
use Rattle.journal.proofs.Encoded.{length_super}
use Rattle.journal_writer.proofs.Whole.{Made, made_long, filled_alone, filled_named}
use Rattle.journal_writer.proofs.filler.fill_journal.Goals as goal

pub fill_name-requires-clause-room : goal.fill_name-requires-clause-room
fill_name-requires-clause-room c =
    let is = made_long c.args.size c.args.pages.now (told c.args.name) c.journal_length.result c.journal_length.ensures c.in_ok-length.length c.in_ok-length.ensures.0 in
    let n = c.in-Some.name.now in
    let named : told c.args.name ≡ Some n = ap told c.in-Some.is in
    let long = ap (λ (o : Option Name). length (super_bytes o)) named in
    omega (arith, is.1, long, length_super n, c.in_ok-length.ensures.1, c.record_place.ensures)

pub returns-in-Some : goal.returns-in-Some
returns-in-Some c =
    let s = c.args.buffer.now in
    let pages = c.args.pages.now in
    let is = made_long c.args.size pages (told c.args.name) c.journal_length.result c.journal_length.ensures c.in_ok-length.length c.in_ok-length.ensures.0 in
    let n = c.in-Some.name.now in
    let named : told c.args.name ≡ Some n = ap told c.in-Some.is in
    let long = ap (λ (o : Option Name). length (super_bytes o)) named in
    subst (λ (o : Option Name). Filled s c.args.nonce c.args.size pages o (Ok c.in_ok-length.length) c.fill_name.new.buffer) (sym named)
    (filled_named s c.args.nonce c.args.size pages n (subst (λ (o : Option Name). Made c.args.size pages o) named is.0) c.ranges.nonce.fits c.fill_name.ensures.octets
    c.in_ok-length.length (omega (arith, is.1, long)) c.in_ok-length.ensures.1 c.fill_header.new.buffer c.seal_records.new.buffer c.fill_name.new.buffer c.fill_header.ensures c.seal_records.ensures
    (c.fill_name.ensures.put ∙ ap (λ (p : ℕ). overwrite c.seal_records.new.buffer p (super_bytes (Some n))) c.record_place.ensures))

pub returns-in_default : goal.returns-in_default
returns-in_default c =
    let s = c.args.buffer.now in
    let pages = c.args.pages.now in
    let is = made_long c.args.size pages (told c.args.name) c.journal_length.result c.journal_length.ensures c.in_ok-length.length c.in_ok-length.ensures.0 in
    let named : told c.args.name ≡ None = ap told c.in_default.is in
    let long = ap (λ (o : Option Name). length (super_bytes o)) named in
    subst (λ (o : Option Name). Filled s c.args.nonce c.args.size pages o (Ok c.in_ok-length.length) c.seal_records.new.buffer) (sym named)
    (filled_alone s c.args.nonce c.args.size pages (subst (λ (o : Option Name). Made c.args.size pages o) named is.0) c.ranges.nonce.fits
    c.in_ok-length.length (omega (arith, is.1, long)) c.in_ok-length.ensures.1 c.fill_header.new.buffer c.seal_records.new.buffer c.fill_header.ensures c.seal_records.ensures)
