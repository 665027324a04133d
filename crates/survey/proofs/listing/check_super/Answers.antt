use Rattle.std.proofs.Common.{length, Some, Ok, sym, refl, ap, ◌∙◌, arith}
use Rattle.std.proofs.lemmas.Option.{MatchOption-at_none, MatchOption-at_some}
use Rattle.card.specs.Meaning.{Bytes}
use Rattle.names.specs.Files.{how_many, file_of}
use Rattle.set_files.specs.Files.{Holds}
use Rattle.set_files.proofs.Looks.{looked_then, looked_same, passed_up, absent_refused}
use Rattle.survey.specs.Asks.{AsksList, AsksSuper}
use Rattle.survey.proofs.Asked.{asked_up, asked_at}
use Rattle.survey.proofs.Listings.{names_short, super_told, list_none, asked_stop, asked_super}
use Rattle.survey.proofs.listing.check_super.Goals as goal

pub returns-in_err-bytes-clause-told : goal.returns-in_err-bytes-clause-told
returns-in_err-bytes-clause-told g c =
    let t = c.in_ok-read_super.ensures.told in
    let p = absent_refused _ _ _ _ c.in_err-bytes.ensures.value c.from_residual-in_err-bytes.ensures.1 in
    let long = MatchOption-at_none _ _ p.0 t.2 in
    rw (passed_up _ _ p.1) (refl, refl, (t.0, t.1, λ ns ok e. omega (arith, long, ap length e, names_short ns ok)))

pub returns-clause-looked : goal.returns-clause-looked
returns-clause-looked g c = looked_then _ _ _ _ _ _ _ _ c.in_ok-read_super.ensures.looked c.check_list.ensures.looked

pub returns-clause-told : goal.returns-clause-told
returns-clause-told g c =
    let t = c.in_ok-read_super.ensures.told in
    let bytes = MatchOption-at_some _ _ _ c.in_ok-bytes.ensures.ok_part t.2 in
    super_told g.C.Card.meaning c.args.names.now c.args.card.now c.read_super.new.card c.in_ok-bytes.bytes.now c.check_list.result
    (looked_same _ _ _ _ _ _ c.in_ok-read_super.ensures.looked) (t.1 ∙ ap (λ (x : Bytes). Some x) (sym bytes)) c.check_list.ensures.told

pub returns-in_err-read_super-clause-asked : goal.returns-in_err-read_super-clause-asked
returns-in_err-read_super-clause-asked g c =
    let file = file_of c.args.names.now in
    let n = how_many c.args.names.now in
    let files = g.C.Card.meaning.holds c.args.card.now in
    let there = c.requires in
    asked_up _ (AsksSuper files file n) _ _ _ _ c.from_residual.ensures.1 (asked_stop _ files file n there.0 there.1 _ _ _ (c.in_err-read_super.ensures.asked there.0 there.1))

pub returns-in_err-bytes-clause-asked : goal.returns-in_err-bytes-clause-asked
returns-in_err-bytes-clause-asked g c =
    let file = file_of c.args.names.now in
    let n = how_many c.args.names.now in
    let files = g.C.Card.meaning.holds c.args.card.now in
    let t = c.in_ok-read_super.ensures.told in
    let p = absent_refused _ _ _ _ c.in_err-bytes.ensures.value c.from_residual-in_err-bytes.ensures.1 in
    let long = MatchOption-at_none _ _ p.0 t.2 in
    asked_up _ (AsksSuper files file n) _ _ _ _ p.1
    (asked_super _ files file n t.0 t.1 _ _ _ _ (Ok tt) (c.in_ok-read_super.ensures.asked t.0 t.1) (list_none _ files file n t.0 _ (λ ns ok e. omega (arith, long, ap length e, names_short ns ok))))

pub returns-clause-asked : goal.returns-clause-asked
returns-clause-asked g c =
    let file = file_of c.args.names.now in
    let n = how_many c.args.names.now in
    let files = g.C.Card.meaning.holds c.args.card.now in
    let t = c.in_ok-read_super.ensures.told in
    let bytes = MatchOption-at_some _ _ _ c.in_ok-bytes.ensures.ok_part t.2 in
    asked_super _ files file n t.0 t.1 _ _ _ _ _ (c.in_ok-read_super.ensures.asked t.0 t.1)
    (asked_at _ (AsksList files file n) _ _ _ _ _ bytes
    (asked_at _ (λ (h : Holds). AsksList h file n c.in_ok-bytes.bytes.now) _ _ _ _ _ (looked_same _ _ _ _ _ _ c.in_ok-read_super.ensures.looked) c.check_list.ensures.asked))
