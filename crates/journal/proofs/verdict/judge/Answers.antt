use Rattle.std.proofs.Common.{Some, sym, ◌∙◌, subst, add-one}
use Rattle.std.proofs.lemmas.List.{take_rest}
use Rattle.std.proofs.lemmas.Bool.{and_from, and_left, and_right}
use Rattle.journal.specs.Judged.{Judged}
use Rattle.journal.specs.Fronts.{FirstWrong}
use Rattle.journal.proofs.Verdicts.{unspent_long, length_by, unreadable, wrong_record, bad_name, sound_alone, sound_named}
use Rattle.journal.proofs.verdict.judge.Goals as goal

pub returns-then-is_spent-clause-judged : goal.returns-then-is_spent-clause-judged
unfolding Judged
returns-then-is_spent-clause-judged c = sym c.if-is_spent.ensures

pub read_header-requires : goal.read_header-requires
read_header-requires c = unspent_long c.args.bytes.now (sym c.if-is_spent.ensures)

pub returns-in_default-clause-judged : goal.returns-in_default-clause-judged
returns-in_default-clause-judged c = unreadable c.args.bytes.now (sym c.if-is_spent.ensures) (and_left _ _ c.in_default.ensures)

pub returns-then-not-length_holds-clause-judged : goal.returns-then-not-length_holds-clause-judged
returns-then-not-length_holds-clause-judged c =
    let b = c.args.bytes.now in
    unreadable b (sym c.if-is_spent.ensures) (and_right _ _ (sym (length_by b _ c.in-Some.ensures.1.count) ∙ sym c.if-not-length_holds.ensures))

pub returns-in-Some-first_wrong-clause-judged : goal.returns-in-Some-first_wrong-clause-judged
returns-in-Some-first_wrong-clause-judged c =
    let b = c.args.bytes.now in
    let is = c.in-Some.ensures in
    rw add-one
    (wrong_record b (sym c.if-is_spent.ensures) c.in-Some-first_wrong.index (and_from _ _ is.0 (sym (length_by b _ is.1.count) ∙ sym c.if-not-length_holds.ensures))
    (subst (λ n. FirstWrong b n (Some c.in-Some-first_wrong.index)) is.1.count c.in-Some-first_wrong.ensures))

pub returns-in_default-2-clause-judged : goal.returns-in_default-2-clause-judged
returns-in_default-2-clause-judged c =
    let b = c.args.bytes.now in
    bad_name b c.in-Some.header (λ k. (c.type_inv.bytes k).fits) c.if-is_spent.ensures c.in-Some.ensures c.if-not-length_holds.ensures c.in_default-first_wrong.ensures _ c.record_place-end.ensures _
    (take_rest b c.record_place-end.result) c.in_default-past.len_at_least c.if-super_holds.ensures

pub returns-in-empty-clause-judged : goal.returns-in-empty-clause-judged
returns-in-empty-clause-judged c =
    let b = c.args.bytes.now in
    sound_alone b c.in-Some.header (λ k. (c.type_inv.bytes k).fits) c.if-is_spent.ensures c.in-Some.ensures c.if-not-length_holds.ensures c.in_default-first_wrong.ensures _ c.record_place-end.ensures _
    (take_rest b c.record_place-end.result) c.in-empty.len_below

pub returns-in_default-past-clause-judged : goal.returns-in_default-past-clause-judged
returns-in_default-past-clause-judged c =
    let b = c.args.bytes.now in
    sound_named b c.in-Some.header (λ k. (c.type_inv.bytes k).fits) c.if-is_spent.ensures c.in-Some.ensures c.if-not-length_holds.ensures c.in_default-first_wrong.ensures _ c.record_place-end.ensures _
    (take_rest b c.record_place-end.result) c.in_default-past.len_at_least c.if-super_holds.ensures
