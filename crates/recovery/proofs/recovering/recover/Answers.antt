use Rattle.std.proofs.Common.{Ok, Err, sym, refl, subst}
use Rattle.names.specs.Files.{how_many, file_of}
use Rattle.set_files.specs.Files.{Holds}
use Rattle.survey.specs.Seen.{AllSeen}
use Rattle.set_files.proofs.Looks.{looked_same, passed_up}
use Rattle.recovery.proofs.Parts.{surveyed, settled}
use Rattle.recovery.proofs.recovering.recover.Goals as goal

pub returns-in_err-found : goal.returns-in_err-found
returns-in_err-found g c =
    record {
      start = c.power.new.self;
      then = c.survey.new.card;
      found = Err c.in_err-found.field-0.0;
      switched = c.power.ensures;
      looked = c.in_err-found.ensures.looked;
      asked = c.in_err-found.ensures.asked;
      finds = c.in_err-found.ensures.told;
      after = (passed_up _ _ c.from_residual.ensures.1, refl);
    }

pub settle-requires : goal.settle-requires
settle-requires g c =
    let seen = c.in_ok-found.ensures.told.journals.reported in
    let same = looked_same _ _ _ _ _ _ c.in_ok-found.ensures.looked in
    (seen.0, subst (λ (x : Holds). AllSeen x (file_of c.args.names.now) (how_many c.args.names.now) c.in_ok-found.found seen.0) (sym same) seen.1)

pub returns-in_err-settle : goal.returns-in_err-settle
returns-in_err-settle g c =
    surveyed _ _ _ _ _ _ _ _ _ c.power.ensures c.in_ok-found.ensures.looked c.in_ok-found.ensures.asked c.in_ok-found.ensures.told
    (record {
      then = c.settle.new.card;
      done = Err c.in_err-settle.field-0.0;
      went = c.in_err-settle.ensures;
      after = (passed_up _ _ c.from_residual-in_err-settle.ensures.1, refl);
    })

pub returns-in_err-sizes : goal.returns-in_err-sizes
returns-in_err-sizes g c =
    surveyed _ _ _ _ _ _ _ _ _ c.power.ensures c.in_ok-found.ensures.looked c.in_ok-found.ensures.asked c.in_ok-found.ensures.told
    (settled _ _ _ _ _ _ _ _ c.in_ok-settle.ensures
    (record {
      sizes = Err c.in_err-sizes.field-0.0;
      went = c.in_err-sizes.ensures.went;
      measured = c.in_err-sizes.ensures.told;
      answer = passed_up _ _ c.from_residual-in_err-sizes.ensures.1;
    }))

pub returns : goal.returns
returns g c =
    surveyed _ _ _ _ _ _ _ _ _ c.power.ensures c.in_ok-found.ensures.looked c.in_ok-found.ensures.asked c.in_ok-found.ensures.told
    (settled _ _ _ _ _ _ _ _ c.in_ok-settle.ensures
    (record { sizes = Ok c.in_ok-sizes.sizes; went = c.in_ok-sizes.ensures.went; measured = c.in_ok-sizes.ensures.told; answer = refl }))
