use Rattle.std.proofs.Common.{refl}
use Rattle.set_files.proofs.Looks.{looked_one, looked_refused}
use Rattle.names.specs.Files.{how_many, file_of}
use Rattle.survey.specs.Asks.{AsksNamed}
use Rattle.survey.proofs.Asked.{asked_up, went_named}
use Rattle.survey.proofs.journals.look_at_super.Goals as goal

pub returns-in_err-length_named-clause-looked : goal.returns-in_err-length_named-clause-looked
returns-in_err-length_named-clause-looked g c =
    let look = c.in_err-length_named.ensures.went in
    looked_refused _ _ _ _ _ _ _ _ c.from_residual.ensures.1 (looked_one _ _ _ _ _ _ _ look.0 _ _ _ refl tt look.1 look.2)

pub returns-in-None-clause-looked : goal.returns-in-None-clause-looked
returns-in-None-clause-looked g c =
    let look = c.in_ok-length_named.ensures.went in
    looked_one _ _ _ _ _ _ _ look.0 _ _ _ refl tt look.1 look.2

pub returns-in-Some-clause-looked : goal.returns-in-Some-clause-looked
returns-in-Some-clause-looked g c =
    let look = c.in_ok-length_named.ensures.went in
    looked_one _ _ _ _ _ _ _ look.0 _ _ _ refl tt look.1 look.2

pub returns-in_err-length_named-clause-asked : goal.returns-in_err-length_named-clause-asked
returns-in_err-length_named-clause-asked g c =
    asked_up _ (AsksNamed (file_of c.args.names.now) (how_many c.args.names.now) c.args.name.now) _ _ _ _ c.from_residual.ensures.1
    (went_named _ c.args.names.now c.args.name.now _ _ _ c.in_err-length_named.ensures.went)

pub returns-in-None-clause-asked : goal.returns-in-None-clause-asked
returns-in-None-clause-asked g c = went_named _ c.args.names.now c.args.name.now _ _ _ c.in_ok-length_named.ensures.went

pub returns-in-Some-clause-asked : goal.returns-in-Some-clause-asked
returns-in-Some-clause-asked g c = went_named _ c.args.names.now c.args.name.now _ _ _ c.in_ok-length_named.ensures.went
