use Rattle.std.proofs.Common.{◌≡◌, ℕ, List, sym, subst, Bor}
use Rattle.std.proofs.lemmas.Option.{MatchOption-at_none, MatchOption-at_some}
use Rattle.card.specs.Meaning.{Name}
use Rattle.super_journal.specs.Super.{LawfulNames, super_journal_bytes}
use Rattle.super_journal.specs.Written.{texts}
use Rattle.names.specs.Files.{how_many, file_of}
use Rattle.survey.specs.Finds.{NoNames, Listed, Strays}
use Rattle.set_files.specs.Looked.{never}
use Rattle.set_files.proofs.Looks.{looked_end, looked_refused, absent_refused, told_more}
use Rattle.survey.specs.Asks.{AsksList}
use Rattle.survey.proofs.Asked.{asked_up}
use Rattle.survey.proofs.Listings.{list_none, list_some}
use Rattle.survey.proofs.listing.check_list.Goals as goal

ap_at : (P : List Name → Type 0) {x y : List (Bor (List ℕ))} → x ≡ y → P (texts x) → P (texts y)
ap_at P e h = subst (λ (s : List (Bor (List ℕ))). P (texts s)) e h

pub returns-in_err-list-clause-looked : goal.returns-in_err-list-clause-looked
returns-in_err-list-clause-looked g c = looked_refused _ _ _ _ _ _ _ _ (absent_refused _ _ _ _ c.in_err-list.ensures.value c.from_residual.ensures.1).1 (looked_end _ _ _ _ _)

pub returns-clause-told : goal.returns-clause-told
returns-clause-told g c =
    let list = c.in_ok-list.list in
    let held = MatchOption-at_some _ _ list c.in_ok-list.ensures.ok_part c.read_names.ensures in
    let b = c.args.bytes.now in
    let file = file_of c.args.names.now in
    let n = how_many c.args.names.now in
    let files = g.C.Card.meaning.holds c.args.card.now in
    let ns = texts c.as_slice.result.now in
    let same = sym c.as_slice.ensures.is in
    let lawful : LawfulNames ns = ap_at LawfulNames same held.0 in
    let bytes : b ≡ super_journal_bytes ns = ap_at (λ (x : List Name). b ≡ super_journal_bytes x) same held.1 in
    told_more c.check_names.result _ (λ _. (x : List Name) × Listed files file n b x) _ (λ f k. (f ≡ 8) × (k ≡ 0) × NoNames b) _ (λ f. (f ≡ 9) × ((x : List Name) × Strays files file n b x)) _ never
    (λ v h. (ns, record { lawful = lawful; bytes = bytes; each = h })) (λ f k h. absurd h) (λ f h. (h.0, (ns, record { lawful = lawful; bytes = bytes; stray = h.1 }))) (λ f h. h)
    c.check_names.ensures.told

pub returns-in_err-list-clause-asked : goal.returns-in_err-list-clause-asked
returns-in_err-list-clause-asked g c =
    let file = file_of c.args.names.now in
    let n = how_many c.args.names.now in
    let files = g.C.Card.meaning.holds c.args.card.now in
    let b = c.args.bytes.now in
    let p = absent_refused _ _ _ _ c.in_err-list.ensures.value c.from_residual.ensures.1 in
    asked_up _ (AsksList files file n b) _ _ _ _ p.1 (list_none _ files file n b _ (MatchOption-at_none _ _ p.0 c.read_names.ensures))

pub returns-clause-asked : goal.returns-clause-asked
returns-clause-asked g c =
    let list = c.in_ok-list.list in
    let held = MatchOption-at_some _ _ list c.in_ok-list.ensures.ok_part c.read_names.ensures in
    let b = c.args.bytes.now in
    let file = file_of c.args.names.now in
    let n = how_many c.args.names.now in
    let files = g.C.Card.meaning.holds c.args.card.now in
    let ns = texts c.as_slice.result.now in
    let same = sym c.as_slice.ensures.is in
    list_some _ files file n b ns _ _ _ (ap_at LawfulNames same held.0) (ap_at (λ (x : List Name). b ≡ super_journal_bytes x) same held.1) c.check_names.ensures.asked
