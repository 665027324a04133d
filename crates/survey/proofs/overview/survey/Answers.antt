use Rattle.std.proofs.Common.{◌≡◌, ◌≤◌, List, Some, sym, ◌∙◌, subst, inl, inr, arith}
use Rattle.card.specs.Meaning.{Bytes, Name}
use Rattle.names.specs.Files.{how_many, file_of}
use Rattle.set_files.specs.Files.{Holds, Present}
use Rattle.set_files.specs.Looked.{never, never₂}
use Rattle.set_files.proofs.Looks.{looked_then, looked_same, looked_up, told_up}
use Rattle.survey.specs.Finds.{DamagedAt, FirstAbsent, Damage, Stranger, NoNames, Listed, Strays}
use Rattle.survey.specs.Asks.{Absent, Damaged, Any, AsksDatabases, AfterDatabases, AsksJournals, AsksOurs, AsksSuper, Asks}
use Rattle.survey.specs.Seen.{Seen, SeenAs}
use Rattle.survey.proofs.Asked.{asked_up, asked_at, said, then_ends}
use Rattle.survey.proofs.Stages.{present_more, sound_more, ours_not, ours_named, foreign_not_ours, all_undamaged}
use Rattle.survey.proofs.Surveyed.{all_seen, reported, names_ours, asked_by, foreign_by, none_asked, asked_present, all_before}
use Rattle.survey.proofs.Searched.{some_linked, none_linked}
use Rattle.survey.proofs.overview.survey.Goals as goal
use Rattle.survey.proofs.overview.survey.Goals.{then-is_some+in_ok-check_super, else-is_some}

pub returns-in_err-looks-clause-looked : goal.returns-in_err-looks-clause-looked
returns-in_err-looks-clause-looked g c =
    looked_up _ _ _ _ _ _ _ _ _ c.from_residual-in_err-looks.ensures.1 c.in_ok-all_present.ensures.looked c.in_err-looks.ensures.looked

pub returns-in_err-looks-clause-told : goal.returns-in_err-looks-clause-told
returns-in_err-looks-clause-told g c =
    let file = file_of c.args.names.now in
    let n = how_many c.args.names.now in
    let files = g.C.Card.meaning.holds c.args.card.now in
    let first = c.in_ok-all_present.ensures in
    let same = looked_same _ _ _ _ _ _ first.looked in
    told_up _ _ _ _ (Damage files file n) _ (Stranger files file n) _ (FirstAbsent files file n) c.from_residual-in_err-looks.ensures.1
    (λ f k h.
    inl (
      h.0,
      h.1,
      record {
        within = h.2;
        present = first.told;
        before = λ i lt. subst (λ (x : Holds). (s : Seen) × SeenAs x file i s) same (h.3 i lt);
        damaged = subst (λ (x : Holds). DamagedAt x file h.0 k) same h.4;
      },
    ))
    (λ f h. absurd h) (λ f h. absurd h) c.in_err-looks.ensures.told

pub returns-in-Some-clause-looked : goal.returns-in-Some-clause-looked
returns-in-Some-clause-looked g c = looked_then _ _ _ _ _ _ _ _ c.in_ok-all_present.ensures.looked c.in_ok-looks.ensures.looked

pub returns-in-Some-clause-told : goal.returns-in-Some-clause-told
returns-in-Some-clause-told g c =
    let file = file_of c.args.names.now in
    let n = how_many c.args.names.now in
    let few : n ≤ 4 = omega arith in
    let files = g.C.Card.meaning.holds c.args.card.now in
    let first = c.in_ok-all_present.ensures in
    let looks = c.in_ok-looks.looks in
    let all = all_before _ _ file n _ _ looks first.looked c.in_ok-looks.ensures.told in
    let here = c.in-Some.ensures in
    inl (c.in-Some.d, c.journal_of.ensures, foreign_by files file n looks all c.in-Some.d first.told here.0 here.1 here.2 few)

pub check_super-requires : goal.check_super-requires
check_super-requires g c =
    let file = file_of c.args.names.now in
    let n = how_many c.args.names.now in
    let few : n ≤ 4 = omega arith in
    let files = g.C.Card.meaning.holds c.args.card.now in
    let first = c.in_ok-all_present.ensures in
    let looks = c.in_ok-looks.looks in
    let all = all_before _ _ file n _ _ looks first.looked c.in_ok-looks.ensures.told in
    let here = some_linked _ _ _ (sym c.is_some.ensures ∙ c.if-is_some.true) c.first_linked-2.ensures in
    let same = looked_same _ _ _ _ _ _ (looked_then _ _ _ _ _ _ _ _ first.looked c.in_ok-looks.ensures.looked) in
    subst (λ (x : Holds). Present (x (file 8))) (sym same) (asked_present files file n (asked_by files file n looks all here.0 here.1.0 here.1.1))

pub returns-in_err-check_super-clause-looked : goal.returns-in_err-check_super-clause-looked
returns-in_err-check_super-clause-looked g c =
    looked_up _ _ _ _ _ _ _ _ _ c.from_residual-in_err-check_super.ensures.1 (looked_then _ _ _ _ _ _ _ _ c.in_ok-all_present.ensures.looked c.in_ok-looks.ensures.looked)
    c.in_err-check_super.ensures.looked

pub returns-in_err-check_super-clause-told : goal.returns-in_err-check_super-clause-told
returns-in_err-check_super-clause-told g c =
    let file = file_of c.args.names.now in
    let n = how_many c.args.names.now in
    let few : n ≤ 4 = omega arith in
    let files = g.C.Card.meaning.holds c.args.card.now in
    let first = c.in_ok-all_present.ensures in
    let looks = c.in_ok-looks.looks in
    let all = all_before _ _ file n _ _ looks first.looked c.in_ok-looks.ensures.told in
    let here = some_linked _ _ _ (sym c.is_some.ensures ∙ c.if-is_some.true) c.first_linked-2.ensures in
    let same = looked_same _ _ _ _ _ _ (looked_then _ _ _ _ _ _ _ _ first.looked c.in_ok-looks.ensures.looked) in
    let seen = all_seen files file n looks all in
    let ours = names_ours files file n looks all n (omega arith) few (λ d lt e. c.in_default.ensures d (omega arith) e) in
    let asked = asked_by files file n looks all here.0 here.1.0 here.1.1 in
    told_up _ _ _ _ (Damage files file n) _ (Stranger files file n) _ (FirstAbsent files file n) c.from_residual-in_err-check_super.ensures.1
    (λ f k h.
    inr (
      h.0,
      h.1,
      record {
        present = first.told;
        seen = seen;
        ours = ours;
        asked = asked;
        damaged = subst (λ (x : Holds). (b : Bytes) × (x (file 8) ≡ Some b) × NoNames b) same h.2;
      },
    ))
    (λ f h.
    inr (
      h.0,
      record {
        present = first.told;
        seen = seen;
        ours = ours;
        asked = asked;
        foreign = subst (λ (x : Holds). (b : Bytes) × (x (file 8) ≡ Some b) × ((ns : List Name) × Strays x file n b ns)) same h.1;
      },
    ))
    (λ f h. absurd h) c.in_err-check_super.ensures.told

pub returns-clause-looked : goal.returns-clause-looked
returns-clause-looked g c =
    let both = looked_then _ _ _ _ _ _ _ _ c.in_ok-all_present.ensures.looked c.in_ok-looks.ensures.looked in
    elim c.if-is_some.branch [
      | then-is_some+in_ok-check_super w ↦ rw w.card-is (looked_then _ _ _ _ _ _ _ _ both w.in_ok-check_super.ensures.looked)
      | else-is_some w ↦ rw w.card-is both
    ]

pub returns-clause-told : goal.returns-clause-told
returns-clause-told g c =
    let file = file_of c.args.names.now in
    let n = how_many c.args.names.now in
    let few : n ≤ 4 = omega arith in
    let files = g.C.Card.meaning.holds c.args.card.now in
    let first = c.in_ok-all_present.ensures in
    let looks = c.in_ok-looks.looks in
    let all = all_before _ _ file n _ _ looks first.looked c.in_ok-looks.ensures.told in
    let same = looked_same _ _ _ _ _ _ (looked_then _ _ _ _ _ _ _ _ first.looked c.in_ok-looks.ensures.looked) in
    record {
      present = first.told;
      journals = reported files file n looks all c.found_in.result few c.found_in.ensures;
      ours = names_ours files file n looks all n (omega arith) few (λ d lt e. c.in_default.ensures d (omega arith) e);
      listed = λ a.
          elim c.if-is_some.branch [
            | then-is_some+in_ok-check_super w ↦ subst (λ (x : Holds). (b : Bytes) × (x (file 8) ≡ Some b) × ((ns : List Name) × Listed x file n b ns)) same w.in_ok-check_super.ensures.told
            | else-is_some w ↦ absurd (none_asked files file n looks all few (none_linked _ _ _ (sym c.is_some.ensures ∙ w.if-is_some.false) c.first_linked-2.ensures) a)
          ];
    }

pub returns-in_err-all_present-clause-asked : goal.returns-in_err-all_present-clause-asked
returns-in_err-all_present-clause-asked g c =
    let file = file_of c.args.names.now in
    let n = how_many c.args.names.now in
    let files = g.C.Card.meaning.holds c.args.card.now in
    asked_up _ (Asks files file n) _ _ _ _ c.from_residual.ensures.1
    (then_ends _ (AsksDatabases files file n) (Any files file n (Absent files file)) (AfterDatabases files file n) _ _ _
    (said _ never₂ never _ (Any files file n (Absent files file)) (λ f k h. absurd h) (λ f h. absurd h) (λ d h. (d, h.within, h.absent)) c.in_err-all_present.ensures.told) c.in_err-all_present.ensures.asked)

pub returns-in_err-looks-clause-asked : goal.returns-in_err-looks-clause-asked
returns-in_err-looks-clause-asked g c =
    let file = file_of c.args.names.now in
    let n = how_many c.args.names.now in
    let files = g.C.Card.meaning.holds c.args.card.now in
    let first = c.in_ok-all_present.ensures in
    let same = looked_same _ _ _ _ _ _ first.looked in
    asked_up _ (Asks files file n) _ _ _ _ c.from_residual-in_err-looks.ensures.1
    (present_more _ files file n _ _ _ _ first.told first.asked
    (then_ends _ (AsksJournals files file n) (Any files file n (Damaged files file)) (AsksOurs files file n) _ _ _
    (said _ _ never never (Any files file n (Damaged files file)) (λ f k h. (h.0, h.2, (k, subst (λ (x : Holds). DamagedAt x file h.0 k) same h.4))) (λ f h. absurd h) (λ f h. absurd h) c.in_err-looks.ensures.told)
    (asked_at _ (λ (h : Holds). AsksJournals h file n) _ _ _ _ _ same c.in_err-looks.ensures.asked)))

pub returns-in-Some-clause-asked : goal.returns-in-Some-clause-asked
returns-in-Some-clause-asked g c =
    let file = file_of c.args.names.now in
    let n = how_many c.args.names.now in
    let files = g.C.Card.meaning.holds c.args.card.now in
    let few : n ≤ 4 = omega arith in
    let first = c.in_ok-all_present.ensures in
    let same = looked_same _ _ _ _ _ _ first.looked in
    let looks = c.in_ok-looks.looks in
    let all = all_before _ _ file n _ _ looks first.looked c.in_ok-looks.ensures.told in
    let judged = asked_at _ (λ (h : Holds). AsksJournals h file n) _ _ _ _ _ same c.in_ok-looks.ensures.asked in
    let sound = all_undamaged files file n looks all in
    let here = c.in-Some.ensures in
    let foreign = foreign_by files file n looks all c.in-Some.d first.told here.0 here.1 here.2 few in
    present_more _ files file n _ _ _ _ first.told first.asked
    (sound_more _ files file n _ _ _ _ sound judged (ours_not _ files file n _ (foreign_not_ours files file n c.in-Some.d foreign)))

pub returns-in_err-check_super-clause-asked : goal.returns-in_err-check_super-clause-asked
returns-in_err-check_super-clause-asked g c =
    let file = file_of c.args.names.now in
    let n = how_many c.args.names.now in
    let files = g.C.Card.meaning.holds c.args.card.now in
    let few : n ≤ 4 = omega arith in
    let first = c.in_ok-all_present.ensures in
    let same = looked_same _ _ _ _ _ _ first.looked in
    let looks = c.in_ok-looks.looks in
    let all = all_before _ _ file n _ _ looks first.looked c.in_ok-looks.ensures.told in
    let judged = asked_at _ (λ (h : Holds). AsksJournals h file n) _ _ _ _ _ same c.in_ok-looks.ensures.asked in
    let sound = all_undamaged files file n looks all in
    let here = some_linked _ _ _ (sym c.is_some.ensures ∙ c.if-is_some.true) c.first_linked-2.ensures in
    let both = looked_same _ _ _ _ _ _ (looked_then _ _ _ _ _ _ _ _ first.looked c.in_ok-looks.ensures.looked) in
    let ours = names_ours files file n looks all n (omega arith) few (λ d lt e. c.in_default.ensures d (omega arith) e) in
    let asked = asked_by files file n looks all here.0 here.1.0 here.1.1 in
    asked_up _ (Asks files file n) _ _ _ _ c.from_residual-in_err-check_super.ensures.1
    (present_more _ files file n _ _ _ _ first.told first.asked
    (sound_more _ files file n _ _ _ _ sound judged
    (ours_named _ files file n _ _ _ (ours, asked) (asked_at _ (λ (h : Holds). AsksSuper h file n) _ _ _ _ _ both c.in_err-check_super.ensures.asked))))

pub returns-clause-asked : goal.returns-clause-asked
returns-clause-asked g c =
    let file = file_of c.args.names.now in
    let n = how_many c.args.names.now in
    let files = g.C.Card.meaning.holds c.args.card.now in
    let few : n ≤ 4 = omega arith in
    let first = c.in_ok-all_present.ensures in
    let same = looked_same _ _ _ _ _ _ first.looked in
    let looks = c.in_ok-looks.looks in
    let all = all_before _ _ file n _ _ looks first.looked c.in_ok-looks.ensures.told in
    let judged = asked_at _ (λ (h : Holds). AsksJournals h file n) _ _ _ _ _ same c.in_ok-looks.ensures.asked in
    let sound = all_undamaged files file n looks all in
    let both = looked_same _ _ _ _ _ _ (looked_then _ _ _ _ _ _ _ _ first.looked c.in_ok-looks.ensures.looked) in
    let ours = names_ours files file n looks all n (omega arith) few (λ d lt e. c.in_default.ensures d (omega arith) e) in
    present_more _ files file n _ _ _ _ first.told first.asked
    (sound_more _ files file n _ _ _ _ sound judged
    (elim c.if-is_some.branch [
      | then-is_some+in_ok-check_super w ↦
          let here = some_linked _ _ _ (sym c.is_some.ensures ∙ w.if-is_some.true) c.first_linked-2.ensures in
          let asked = asked_by files file n looks all here.0 here.1.0 here.1.1 in
          rw w.card-is (ours_named _ files file n _ _ _ (ours, asked) (asked_at _ (λ (h : Holds). AsksSuper h file n) _ _ _ _ _ both w.in_ok-check_super.ensures.asked))
      | else-is_some w ↦
          let none = none_asked files file n looks all few (none_linked _ _ _ (sym c.is_some.ensures ∙ w.if-is_some.false) c.first_linked-2.ensures) in
          rw w.card-is (ours_not _ files file n _ (λ o. none o.1))
    ]))
