use Rattle.std.proofs.Common.{refl}
use Rattle.std.proofs.lemmas.Bool.Decides.{not_from_Decides}
use Rattle.set_files.proofs.Looks.{looked_end, looked_one, looked_refused}
use Rattle.names.specs.Files.{how_many, file_of}
use Rattle.survey.specs.Asks.{AsksListed}
use Rattle.survey.proofs.Asked.{asked_up, went_named}
use Rattle.survey.proofs.Listings.{listed_ours, listed_other}
use Rattle.survey.proofs.listing.check_listed.Goals as goal

pub returns-then-is_journal-clause-looked : goal.returns-then-is_journal-clause-looked
returns-then-is_journal-clause-looked g c = looked_end _ _ _ _ _

pub returns-in_err-length_named-clause-looked : goal.returns-in_err-length_named-clause-looked
returns-in_err-length_named-clause-looked g c =
    looked_refused _ _ _ _ _ _ _ _ c.from_residual.ensures.1 (looked_one _ _ _ _ _ _ _ c.in_err-length_named.ensures.went.0 _ _ _ refl tt c.in_err-length_named.ensures.went.1 c.in_err-length_named.ensures.went.2)

pub returns-in-None-clause-looked : goal.returns-in-None-clause-looked
returns-in-None-clause-looked g c = looked_one _ _ _ _ _ _ _ c.in_ok-length_named.ensures.went.0 _ _ _ refl tt c.in_ok-length_named.ensures.went.1 c.in_ok-length_named.ensures.went.2

pub returns-in-Some-clause-looked : goal.returns-in-Some-clause-looked
returns-in-Some-clause-looked g c = looked_one _ _ _ _ _ _ _ c.in_ok-length_named.ensures.went.0 _ _ _ refl tt c.in_ok-length_named.ensures.went.1 c.in_ok-length_named.ensures.went.2

pub returns-then-is_journal-clause-asked : goal.returns-then-is_journal-clause-asked
returns-then-is_journal-clause-asked g c =
    let file = file_of c.args.names.now in
    let n = how_many c.args.names.now in
    let files = g.C.Card.meaning.holds c.args.card.now in
    listed_ours g.C.Card.meaning files file n c.args.name.now _ (c.is_journal.ensures.0 c.if-is_journal.true)

pub returns-in_err-length_named-clause-asked : goal.returns-in_err-length_named-clause-asked
returns-in_err-length_named-clause-asked g c =
    let file = file_of c.args.names.now in
    let n = how_many c.args.names.now in
    let files = g.C.Card.meaning.holds c.args.card.now in
    asked_up _ (AsksListed files file n c.args.name.now) _ _ _ _ c.from_residual.ensures.1 (listed_other _ files file n c.args.name.now _ _ _ (not_from_Decides _ c.is_journal.ensures c.if-is_journal.false) (went_named _ c.args.names.now c.args.name.now _ _ _ c.in_err-length_named.ensures.went))

pub returns-in-None-clause-asked : goal.returns-in-None-clause-asked
returns-in-None-clause-asked g c =
    let file = file_of c.args.names.now in
    let n = how_many c.args.names.now in
    let files = g.C.Card.meaning.holds c.args.card.now in
    listed_other _ files file n c.args.name.now _ _ _ (not_from_Decides _ c.is_journal.ensures c.if-is_journal.false) (went_named _ c.args.names.now c.args.name.now _ _ _ c.in_ok-length_named.ensures.went)

pub returns-in-Some-clause-asked : goal.returns-in-Some-clause-asked
returns-in-Some-clause-asked g c =
    let file = file_of c.args.names.now in
    let n = how_many c.args.names.now in
    let files = g.C.Card.meaning.holds c.args.card.now in
    listed_other _ files file n c.args.name.now _ _ _ (not_from_Decides _ c.is_journal.ensures c.if-is_journal.false) (went_named _ c.args.names.now c.args.name.now _ _ _ c.in_ok-length_named.ensures.went)
