use Rattle.std.proofs.Common.{ℕ, sym, refl, ap, ◌∙◌}
use Rattle.std.specs.Borrow.{Bor}
use Rattle.std.specs.Option.{option_map}
use Rattle.std.proofs.lemmas.Result.{err_from_is_err_and}
use Rattle.card.specs.Meaning.{Bytes}
use Rattle.card.specs.Calls.{write}
use Rattle.page_map.specs.Walks.{left}
use Rattle.page_map.proofs.Walks.{Turn, walked_turn, walked_all}
use Rattle.pager.specs.Sound.{map_of}
use Rattle.steps.proofs.Went.{went_as}
use Rattle.page_writer.proofs.Writings.{writing_none, writing_more, writing_stopped, writing_all}
use Rattle.page_writer.proofs.databases.write_pages.Goals as goal
use Rattle.page_writer.proofs.databases.write_pages.Goals.{In-Some}
use Rattle.page_writer.proofs.databases.write_pages.Given.{Over}

pub loop-page-init : goal.loop-page-init
loop-page-init g c = (tt, (tt, writing_none _ _ c.args.memory.now _ _))

-- the page that is at hand
turn : (g : Over) (c : In-Some g) → Turn (map_of c.args.memory.now.maps c.args.database) c.loop-page.yielded c.in-Some.page
turn g c =
    walked_turn _ c.into_iter-page-iterator.result _ c.loop-page.yielded
    (ap left c.into_iter-page-iterator.ensures.into_iter_gives ∙ c.changed_pages-page-items.ensures.is) c.loop-page.yielded_by _ _ c.next.ensures.steps c.in-Some.page c.in-Some.is

pub page_place-requires-clause-some : goal.page_place-requires-clause-some
page_place-requires-clause-some g c = (turn g ((goal.at.page_place-requires-clause-some g c).In-Some)).low

pub page_place-requires-clause-small : goal.page_place-requires-clause-small
page_place-requires-clause-small g c = (turn g ((goal.at.page_place-requires-clause-small g c).In-Some)).high

pub loop-page-preserved : goal.loop-page-preserved
loop-page-preserved g c =
    let is = sym c.get.ensures.is ∙ ap (option_map (λ (b : Bor Bytes). b.now)) c.unwrap-bytes.ensures in
    let at = turn g ((goal.at.loop-page-preserved g c).In-Some) in (
      tt,
      (
        tt,
        writing_more _ _ c.args.memory.now _ _ c.loop-page.yielded _ c.loop-page.invariant.1.1 _ c.in-Some.page _ at.member is
            (went_as _ _ _ _ _ _ _ _ _ _ c.new-site.ensures (c.bytes.ensures ∙ c.file-file.ensures) (ap (λ (k : ℕ). write k c.unwrap-bytes.result.now) c.page_place.ensures) c.in_ok-write.ensures),
      ),
    )

pub returns-in_err-write : goal.returns-in_err-write
returns-in_err-write g c =
    let p = err_from_is_err_and c.from_residual.result c.from_residual.ensures.1 in
    let is = sym c.get.ensures.is ∙ ap (option_map (λ (b : Bor Bytes). b.now)) c.unwrap-bytes.ensures in
    let at = turn g ((goal.at.returns-in_err-write g c).In-Some) in
    λ stored.
    rw (p.1, p.2)
    (writing_stopped _ _ c.args.memory.now _ _ c.loop-page.yielded _ c.loop-page.invariant.1.1 _ c.in-Some.page _ at.member is _ _ at.rest stored at.parts
    (went_as _ _ _ _ _ _ _ _ _ _ c.new-site.ensures (c.bytes.ensures ∙ c.file-file.ensures) (ap (λ (k : ℕ). write k c.unwrap-bytes.result.now) c.page_place.ensures) c.in_err-write.ensures))

pub returns : goal.returns
returns g c =
    let all =
    walked_all _ c.into_iter-page-iterator.result _ c.loop-page.yielded
    (ap left c.into_iter-page-iterator.ensures.into_iter_gives ∙ c.changed_pages-page-items.ensures.is) c.loop-page.yielded_by _ _ c.next.ensures.steps c.in-None.is in
    λ stored.
    writing_all _ _ c.args.memory.now _ _ c.loop-page.yielded _ c.loop-page.invariant.1.1 _ _ _ stored all
    (went_as _ _ _ _ _ _ _ _ _ _ c.new-site.ensures (c.bytes-2.ensures ∙ c.file-file.ensures) refl c.sync.ensures)
