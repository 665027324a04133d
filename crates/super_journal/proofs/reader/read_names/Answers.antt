use Rattle.std.proofs.Common.{leb, [], ◌∷◌, length, sym, ap, ◌∙◌, arith, rules}
use Rattle.std.proofs.lemmas.Bool.{and_from, both_ways, le-leb, eqb-true}
use Rattle.std.proofs.lemmas.Bool.Decides.{Decides-eqb}
use Rattle.std.proofs.lemmas.Iterator.Consumers.{YieldsList-turn, YieldsList-end}
use Rattle.std.proofs.lemmas.Slice.Eq.{strip_suffix_is}
use Rattle.super_journal.proofs.Names.{super_ends, splits, all_taken, part_fits}
use Rattle.super_journal.proofs.reader.read_names.Goals as goal
use Rattle.super_journal.proofs.reader.read_names.Goals.{then-is_full-via-then-is_full, then-is_full-via-else-is_full+then-not-is_length}

pub returns-in_err-front : goal.returns-in_err-front
returns-in_err-front c =
    let cut = strip_suffix_is Decides-eqb c.args.bytes.now (0 ∷ []) c.strip_suffix.result c.strip_suffix.ensures.cases in
    let none = rw c.in_err-front.was at cut in
    rw c.from_residual.ensures (λ ns ok e. let ends = super_ends ns ok.some in none ends.0 (e ∙ ends.1))

pub returns-then-is_full : goal.returns-then-is_full
returns-then-is_full c =
    let cut = strip_suffix_is Decides-eqb c.args.bytes.now (0 ∷ []) c.strip_suffix.result c.strip_suffix.ensures.cases in
    let ends = rw c.in_ok-front.was at cut in
    let road = splits c.loop-name.yielded _ c.loop-name.yielded_by c.into_iter-name-iterator.ensures.into_iter_gives c.split-name-items.ensures.rest c.split-name-items.ensures.done c.split-name-items.ensures.closure (λ x b q k. search rules) in
    let turn = YieldsList-turn road c.loop-name.yielded _ c.loop-name.yielded_by _ _ c.in-Some.name c.in-Some.is c.next.ensures.steps in
    let n = length c.in-Some.name.now in
    λ ns ok e.
    let fit = part_fits c.in_ok-front.front.now (length c.loop-name.yielded) c.in-Some.name.now turn ns ok (sym ends ∙ e) in
    elim c.then-is_full.branch [
      | then-is_full-via-then-is_full w ↦ omega (arith, fit, ap length c.loop-name.invariant.all, eqb-true _ 4 (sym c.is_full.ensures ∙ w.if-is_full.true))
      | then-is_full-via-else-is_full+then-not-is_length w ↦ both_ways _ w.if-not-is_length.true (w.is_length.ensures ∙ and_from (leb 1 n) (leb n 32) (le-leb 1 n fit.1.0) (le-leb n 32 fit.1.1))
    ]

pub returns : goal.returns
returns c =
    let cut = strip_suffix_is Decides-eqb c.args.bytes.now (0 ∷ []) c.strip_suffix.result c.strip_suffix.ensures.cases in
    let ends = rw c.in_ok-front.was at cut in
    let road = splits c.loop-name.yielded _ c.loop-name.yielded_by c.into_iter-name-iterator.ensures.into_iter_gives c.split-name-items.ensures.rest c.split-name-items.ensures.done c.split-name-items.ensures.closure (λ x b q k. search rules) in
    let end = YieldsList-end road c.loop-name.yielded _ c.loop-name.yielded_by _ _ c.in-None.is c.next.ensures.steps in
    all_taken c.args.bytes.now c.in_ok-front.front.now c.loop-name.yielded c.loop-name.names.items c.loop-name.invariant end.0 ends
