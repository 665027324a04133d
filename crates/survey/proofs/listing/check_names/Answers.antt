use Rattle.std.proofs.Common.{◌≡◌, ℕ, ◌<◌, ◌⊎◌, [], length, get_or, None, sym, subst, arith, below_more}
use Rattle.card.specs.Meaning.{Name}
use Rattle.super_journal.specs.Written.{texts}
use Rattle.super_journal.proofs.Listed.{text_at, length_texts}
use Rattle.names.specs.Files.{how_many, file_of}
use Rattle.set_files.specs.Files.{Holds, Present}
use Rattle.set_files.specs.Looked.{never, never₂}
use Rattle.set_files.proofs.Looks.{looked_end, looked_then, looked_same, looked_up, told_up}
use Rattle.survey.specs.Finds.{JournalName, Stray}
use Rattle.survey.specs.Asks.{AsksListed, StrayName}
use Rattle.survey.proofs.Asked.{gone_none, gone_more, gone_ends, gone_all, asked_up, asked_at, said}
use Rattle.survey.proofs.Listings.{fine_not_stray}
use Rattle.survey.proofs.listing.check_names.Goals as goal

pub loop-name-init : goal.loop-name-init
loop-name-init g c = (looked_end _ _ _ _ _, gone_none _ (λ (i : ℕ). AsksListed (g.C.Card.meaning.holds c.args.card.now) (file_of c.args.names.now) (how_many c.args.names.now) (get_or (texts c.args.list.now) i [])) _, λ k lt. absurd (omega arith))

pub returns-in_err-check_listed-clause-looked : goal.returns-in_err-check_listed-clause-looked
returns-in_err-check_listed-clause-looked g c =
    looked_up _ _ _ _ _ _ _ _ _ c.from_residual.ensures.1 c.loop-name.invariant.0 c.in_err-check_listed.ensures.looked

pub returns-in_err-check_listed-clause-told : goal.returns-in_err-check_listed-clause-told
returns-in_err-check_listed-clause-told g c =
    let list = c.args.list.now in
    let i = c.loop-name.name-index in
    let file = file_of c.args.names.now in
    let n = how_many c.args.names.now in
    let files = g.C.Card.meaning.holds c.args.card.now in
    let here : Name = (get_or list i (record { ref_ptr = (0, 0); now = [] })).now in
    let name : here ≡ get_or (texts list) i [] = sym (text_at list i) in
    let same = looked_same _ _ _ _ _ _ c.loop-name.invariant.0 in
    let less : i < length (texts list) = omega (arith, length_texts list) in
    told_up c.from_residual.result _ _ never₂ _ _ (λ f. (f ≡ 9) × Stray files file n (texts list)) never _ c.from_residual.ensures.1 (λ f k h. h)
    (λ f h. (
      h.0,
      (
        i,
        less,
        subst (λ (w : Name). JournalName file n w → ⊥) name h.1,
        subst (λ (w : Name). Present (files w)) name (subst (λ (x : Holds). Present (x here)) same h.2),
      ),
    ))
    (λ d h. h) c.in_err-check_listed.ensures.told

pub returns-in_err-check_listed-clause-asked : goal.returns-in_err-check_listed-clause-asked
returns-in_err-check_listed-clause-asked g c =
    let list = c.args.list.now in
    let i = c.loop-name.name-index in
    let file = file_of c.args.names.now in
    let n = how_many c.args.names.now in
    let files = g.C.Card.meaning.holds c.args.card.now in
    let old = c.loop-name.invariant in
    let here : Name = (get_or list i (record { ref_ptr = (0, 0); now = [] })).now in
    let name : here ≡ get_or (texts list) i [] = sym (text_at list i) in
    let same = looked_same _ _ _ _ _ _ old.0 in
    let less : i < length (texts list) = omega (arith, length_texts list) in
    asked_up _ _ _ _ _ _ c.from_residual.ensures.1
    (gone_ends _ (λ (k : ℕ). AsksListed files file n (get_or (texts list) k [])) (λ (k : ℕ). StrayName files file n (get_or (texts list) k [])) (length (texts list)) i _ _ _ _ less
    (λ k lt. fine_not_stray files file n (get_or (texts list) k []) (old.2 k lt))
    (said _ never₂ _ never (StrayName files file n (get_or (texts list) i [])) (λ f k h. absurd h)
    (λ f h. subst (λ (w : Name). StrayName files file n w) name (h.1, subst (λ (x : Holds). Present (x here)) same h.2)) (λ f h. absurd h) c.in_err-check_listed.ensures.told)
    old.1 (asked_at _ (AsksListed files file n) _ _ _ _ _ name (asked_at _ (λ (h : Holds). AsksListed h file n here) _ _ _ _ _ same c.in_err-check_listed.ensures.asked)))

pub returns-clause-asked : goal.returns-clause-asked
returns-clause-asked g c =
    let list = c.args.list.now in
    let i = c.loop-name.name-index in
    let file = file_of c.args.names.now in
    let n = how_many c.args.names.now in
    let files = g.C.Card.meaning.holds c.args.card.now in
    let old = c.loop-name.invariant in
    let all : i ≡ length (texts list) = omega (arith, length_texts list) in
    gone_all _ (λ (k : ℕ). AsksListed files file n (get_or (texts list) k [])) (λ (k : ℕ). StrayName files file n (get_or (texts list) k [])) (length (texts list)) i _ _ all
    (λ k lt. fine_not_stray files file n (get_or (texts list) k []) (old.2 k (omega arith))) old.1

pub loop-name-preserved : goal.loop-name-preserved
loop-name-preserved g c =
    let list = c.args.list.now in
    let i = c.loop-name.name-index in
    let file = file_of c.args.names.now in
    let n = how_many c.args.names.now in
    let files = g.C.Card.meaning.holds c.args.card.now in
    let here : Name = (get_or list i (record { ref_ptr = (0, 0); now = [] })).now in
    let name : here ≡ get_or (texts list) i [] = sym (text_at list i) in
    let old = c.loop-name.invariant in
    let same = looked_same _ _ _ _ _ _ old.0 in (
      looked_then _ _ _ _ _ _ _ _ old.0 c.in_ok-check_listed.ensures.looked,
      gone_more _ (λ (k : ℕ). AsksListed files file n (get_or (texts list) k [])) i _ _ _ old.1
          (asked_at _ (AsksListed files file n) _ _ _ _ _ name (asked_at _ (λ (h : Holds). AsksListed h file n here) _ _ _ _ _ same c.in_ok-check_listed.ensures.asked)),
      below_more (λ (k : ℕ). JournalName file n (get_or (texts list) k []) ⊎ (files (get_or (texts list) k []) ≡ None)) _ old.2
          (subst (λ (w : Name). JournalName file n w ⊎ (files w ≡ None)) name
          (subst (λ (x : Holds). JournalName file n here ⊎ (x here ≡ None)) same c.in_ok-check_listed.ensures.told)),
    )
