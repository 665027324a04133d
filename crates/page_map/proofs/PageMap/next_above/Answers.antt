use Rattle.std.proofs.Common.{◌≡◌, ℕ, ◌+◌, ◌-◌, ◌*◌, ◌/◌, not, eqb, sym, refl, ◌∙◌, subst, add-one, rules, arith}
use borrow.Author.Tests.{tests}
use Rattle.std.specs.List.{position}
use Rattle.std.proofs.lemmas.Iterator.{YieldsList-from_slice}
use Rattle.std.proofs.lemmas.Iterator.Search.{position_from_yields_List}
use Rattle.page_map.specs.Sets.{NextAbove}
use Rattle.page_map.specs.Words.{pages_of}
use Rattle.page_map.proofs.Nexts.{Clear, next_page, no_page, first_here, first_word, clear_here, clear_to, rest_none, rest_some}
use Rattle.page_map.proofs.Visits.{visit_law}
use Rattle.page_map.proofs.PageMap.next_above.Goals as goal

pub returns-then-page-ge-PAGE_LIMIT : goal.returns-then-page-ge-PAGE_LIMIT
returns-then-page-ge-PAGE_LIMIT c =
    let ws = c.args.self.now.words in
    record { next = no_page ws c.args.page (omega arith) (λ k a b. absurd (omega arith)); within = tt; visit = visit_law (pages_of ws) }

pub returns-then-first-ne0 : goal.returns-then-first-ne0
returns-then-first-ne0 c =
    let ws = c.args.self.now.words in
    let p = c.args.page in
    let here = first_here ws p (omega arith) (λ z. omega arith) in
    let found = next_page ws p _ here.0 in
    record { next = subst (λ (n : ℕ). NextAbove (pages_of ws) p n) (sym (add-one _)) found; within = omega (arith, here.1); visit = visit_law (pages_of ws) }

pub returns-in_err-j : goal.returns-in_err-j
returns-in_err-j c =
    let ws = c.args.self.now.words in
    let p = c.args.page in
    let n = p / 64 + 1 in
    let at : c.position.result ≡ position (λ w. not (eqb w 0)) c.iter.result.rest.now = position_from_yields_List (λ w. not (eqb w 0)) _ _ c.position.result c.position.ensures.ran (YieldsList-from_slice _ refl) (λ x b q k. search (rules, tests)) in
    let clear = clear_to ws p n (clear_here ws p (omega arith)) (64 - n) (λ j lt. rest_none ws p n (omega arith) c.iter.result.rest.now c.iter.ensures.rest (sym at ∙ c.in_err-j.was) j (omega arith)) in
    let e : (n + (64 - n)) * 64 ≡ 4096 = omega arith in
    record { next = rw c.from_residual.ensures (no_page ws p (omega arith) (subst (λ (k : ℕ). Clear ws p k) e clear)); within = rw c.from_residual.ensures tt; visit = visit_law (pages_of ws) }

pub returns : goal.returns
returns c =
    let ws = c.args.self.now.words in
    let p = c.args.page in
    let n = p / 64 + 1 in
    let m = c.in_ok-j.field-0 in
    let at : c.position.result ≡ position (λ w. not (eqb w 0)) c.iter.result.rest.now = position_from_yields_List (λ w. not (eqb w 0)) _ _ c.position.result c.position.ensures.ran (YieldsList-from_slice _ refl) (λ x b q k. search (rules, tests)) in
    let some = rest_some ws p n (omega arith) c.iter.result.rest.now c.iter.ensures.rest m (sym at ∙ c.in_ok-j.was) in
    let clear = clear_to ws p n (clear_here ws p (omega arith)) m some.2 in
    let word = first_word ws p (n + m) (omega arith) clear (omega arith) some.1 in
    let found = next_page ws p _ word.0 in
    record { next = subst (λ (k : ℕ). NextAbove (pages_of ws) p k) (sym (add-one _)) found; within = omega (arith, some.0, word.1); visit = visit_law (pages_of ws) }
