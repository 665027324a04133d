-- What the invariant of a memory tells a caller: a database has at most 32 changed pages, each of them is a page
-- that a database can have, no page past the four databases is changed, and the store of saved pages has as many
-- rows as the savepoints have saved pages.
use Rattle.std.proofs.Common.{◌≡◌, ℕ, suc, ◌+◌, ◌<◌, ◌≤◌, true, false, cond, eqb, leb, Bool, ◌⊎◌, List, [], ◌∷◌, length, is_some, find, Some, sym, refl, ap, ◌∙◌, ap₂, inl, inr, arith}
use Rattle.std.specs.Option.{option_map}
use native.Mathlib.Decide.{ℕ_discrete, dec_lt}
use Rattle.std.proofs.lemmas.Bool.{cases_Bool, cond-true, cond-false, eqb-true, eq-eqb, ne_eqb, leb-true, and_parts, and_left, and_right, both_ways}
use Rattle.card.specs.Meaning.{Bytes}
use Rattle.page_map.specs.Sets.{PageSet, is_page, without, including, counted, total}
use Rattle.page_map.proofs.Totals.{total_with, total_free, total_part}
use Rattle.pager.specs.declared.memory.Memory.{Memory}
use Rattle.pager.specs.declared.changed_page.ChangedPage.{ChangedPage}
use Rattle.pager.specs.Changed.{look, is_row}
use Rattle.pager.specs.Sound.{map_of}
use Rattle.pager.specs.Machine.{saved_in_all}
use Rattle.pager.specs.View.{fields, view}
use Rattle.pager.proofs.Keeps.{linked, in_all, saved_in}
use Rattle.pager.proofs.SavedRows.{stack_total}

-- each page of the sets that a database can have stands in the rows
abbrev Covers : List ChangedPage → (ℕ → PageSet) → Type 0
Covers rows f = (d p : ℕ) → d < 4 → is_page p ≡ true → f d p ≡ true → is_some (look rows d p) ≡ true

-- the sets with the page r of the database e taken out
abbrev taken : (ℕ → PageSet) → ℕ → ℕ → ℕ → PageSet
taken f e r d = cond (eqb d e) (without (f d) r) (f d)

apart : (row : ChangedPage) (d p : ℕ) → (row.database ≡ d → row.page ≡ p → ⊥) → is_row d p row ≡ false
apart row d p ne = by (ℕ_discrete row.database d) (ℕ_discrete row.page p)
  where
    by : Dec (row.database ≡ d) → Dec (row.page ≡ p) → is_row d p row ≡ false
    by (yes a) (yes b) = absurd (ne a b)
    by (no a) _ = and_left _ _ (ne_eqb row.database d a)
    by (yes a) (no b) = and_right _ _ (ne_eqb row.page p b)

-- what does not stand in the first row stands in the others
later : (row : ChangedPage) (rows : List ChangedPage) (d p : ℕ) → is_row d p row ≡ false → is_some (look (row ∷ rows) d p) ≡ true → is_some (look rows d p) ≡ true
unfolding look
later row rows d p out some = sym (ap (λ (b : Bool). is_some (option_map (λ (r : ChangedPage). r.bytes) (cond b (Some row) (find (is_row d p) rows)))) out) ∙ some

taken_in : (f : ℕ → PageSet) (e r d p : ℕ) → taken f e r d p ≡ true → (f d p ≡ true) × (e ≡ d → r ≡ p → ⊥)
taken_in f e r d p is = by (ℕ_discrete d e) (ℕ_discrete p r)
  where
    inside : d ≡ e → cond (eqb p r) false (f d p) ≡ true
    inside a = sym (ap (λ (s : PageSet). s p) (cond-true (eqb d e) (without (f d) r) (f d) (eq-eqb d e a))) ∙ is

    by : Dec (d ≡ e) → Dec (p ≡ r) → (f d p ≡ true) × (e ≡ d → r ≡ p → ⊥)
    by (no a) _ = (sym (ap (λ (s : PageSet). s p) (cond-false (eqb d e) (without (f d) r) (f d) (ne_eqb d e a))) ∙ is, λ x _. a (sym x))
    by (yes a) (no b) = (sym (cond-false _ _ _ (ne_eqb p r b)) ∙ inside a, λ _ y. b (sym y))
    by (yes a) (yes b) = absurd (both_ways (cond (eqb p r) false (f d p)) (cond-true _ _ _ (eq-eqb p r b)) (inside a))

taken_total : (f : ℕ → PageSet) (e r : ℕ) → e < 4 → is_page r ≡ true → f e r ≡ true → total f 4 ≡ total (taken f e r) 4 + 1
taken_total f e r lt is in-it =
    total_with (taken f e r) f e r is own (λ k ne. sym (cond-false _ _ _ (ne_eqb k e ne))) 4 lt ∙ cond-false _ _ _ gone
  where
    here : (q : ℕ) → taken f e r e q ≡ cond (eqb q r) false (f e q)
    here q = ap (λ (s : PageSet). s q) (cond-true (eqb e e) (without (f e) r) (f e) (eq-eqb e e refl))

    gone : taken f e r e r ≡ false
    gone = here r ∙ cond-true _ _ _ (eq-eqb r r refl)

    own : (q : ℕ) → f e q ≡ including (taken f e r e) r q
    own q = by (ℕ_discrete q r)
      where
        by : Dec (q ≡ r) → f e q ≡ cond (eqb q r) true (taken f e r e q)
        by (yes a) = ap (f e) a ∙ in-it ∙ sym (cond-true _ _ _ (eq-eqb q r a))
        by (no a) = sym (cond-false _ _ _ (ne_eqb q r a) ∙ here q ∙ cond-false _ _ _ (ne_eqb q r a))

-- the first row stands for at most one page
Fewer : List ChangedPage → (ℕ → PageSet) → Type 0
Fewer rows f = Covers rows f ⊎ ((g : ℕ → PageSet) × (Covers rows g × (total f 4 ≡ total g 4 + 1)))

miss : (row : ChangedPage) (rows : List ChangedPage) (f : ℕ → PageSet) → Covers (row ∷ rows) f → (row.database < 4 → is_page row.page ≡ true → f row.database row.page ≡ true → ⊥) → Covers rows f
miss row rows f covers never d p lt is in-it =
    later row rows d p (apart row d p (λ a b. never (omega arith) (ap is_page b ∙ is) (ap₂ f a b ∙ in-it))) (covers d p lt is in-it)

fewer : (row : ChangedPage) (rows : List ChangedPage) (f : ℕ → PageSet) → Covers (row ∷ rows) f → Fewer rows f
unfolding Fewer
fewer row rows f covers = by (dec_lt row.database 4) (cases_Bool (is_page row.page)) (cases_Bool (f row.database row.page))
  where
    by :
        Dec (row.database < 4) → (is_page row.page ≡ true) ⊎ (is_page row.page ≡ false) → (f row.database row.page ≡ true) ⊎ (f row.database row.page ≡ false) → Fewer rows f
    by (no far) _ _ = inl (miss row rows f covers (λ lt _ _. far lt))
    by (yes lt) (inr bad) _ = inl (miss row rows f covers (λ _ is _. both_ways _ bad is))
    by (yes lt) (inl is) (inr out) = inl (miss row rows f covers (λ _ _ in-it. both_ways _ out in-it))
    by (yes lt) (inl is) (inl in-it) =
        inr (
          taken f row.database row.page,
          (
            (λ d p low page t. let u = taken_in f row.database row.page d p t in later row rows d p (apart row d p u.1) (covers d p low page u.0)),
            taken_total f row.database row.page lt is in-it,
          ),
        )

-- rows that cover the sets are no fewer than their pages
bound : (rows : List ChangedPage) (f : ℕ → PageSet) → Covers rows f → total f 4 ≤ length rows
unfolding Fewer look
bound [] f covers = omega (arith, total_free f 4 (λ d p lt is. none d p lt is (cases_Bool (f d p))))
  where
    none : (d p : ℕ) → d < 4 → is_page p ≡ true → (f d p ≡ true) ⊎ (f d p ≡ false) → f d p ≡ false
    none d p lt is (inr out) = out
    none d p lt is (inl in-it) = absurd (both_ways false refl (covers d p lt is in-it))
bound (row ∷ rows) f covers = by (fewer row rows f covers) (bound rows)
  where
    by : Fewer rows f → ((g : ℕ → PageSet) → Covers rows g → total g 4 ≤ length rows) → total f 4 ≤ suc (length rows)
    by (inl same) earlier = omega (arith, earlier f same)
    by (inr (g, (less, one))) earlier = omega (arith, earlier g less)

-- and more, where a page stands in them that no database can have
more : (rows : List ChangedPage) (f : ℕ → PageSet) (d p : ℕ) → Covers rows f → is_page p ≡ false → is_some (look rows d p) ≡ true → total f 4 < length rows
unfolding Fewer look
more [] f d p covers bad some = absurd (both_ways false refl some)
more (row ∷ rows) f d p covers bad some = by (cases_Bool (is_row d p row)) (fewer row rows f covers) (λ g. more rows g d p)
  where
    by :
        (is_row d p row ≡ true) ⊎ (is_row d p row ≡ false) → Fewer rows f → ((g : ℕ → PageSet) → Covers rows g → is_page p ≡ false → is_some (look rows d p) ≡ true → total g 4 < length rows) →
        total f 4 < suc (length rows)
    by (inl here) _ earlier =
        let same : row.page ≡ p = eqb-true row.page p (and_parts (eqb row.database d) (eqb row.page p) here).1 in
        omega (arith, bound rows f (miss row rows f covers (λ _ is _. both_ways _ bad (ap is_page (sym same) ∙ is))))
    by (inr out) (inl same) earlier = omega (arith, earlier f same bad (later row rows d p out some))
    by (inr out) (inr (g, (less, one))) earlier = omega (arith, earlier g less bad (later row rows d p out some))

-- where a row has a page past the four databases, the rows are more than the pages that they cover
spare : (rows : List ChangedPage) (f : ℕ → PageSet) (d p : ℕ) → Covers rows f → 4 ≤ d → is_some (look rows d p) ≡ true → total f 4 < length rows
unfolding Fewer look
spare [] f d p covers past some = absurd (both_ways false refl some)
spare (row ∷ rows) f d p covers past some = by (cases_Bool (is_row d p row)) (fewer row rows f covers) (λ g less. spare rows g d p less past)
  where
    by :
        (is_row d p row ≡ true) ⊎ (is_row d p row ≡ false) → Fewer rows f →
        ((g : ℕ → PageSet) → Covers rows g → is_some (look rows d p) ≡ true → total g 4 < length rows) → total f 4 < suc (length rows)
    by (inl t) _ _ =
        let e = eqb-true row.database d (and_parts _ _ t).0 in
        omega (arith, bound rows f (miss row rows f covers (λ lt _ _. absurd (omega (arith, e, lt, past)))))
    by (inr u) (inl same) earlier = omega (arith, earlier f same (later row rows d p u some))
    by (inr u) (inr (g, (less, one))) earlier = omega (arith, one, earlier g less (later row rows d p u some))

-- the store of changed pages has as many rows as pages are changed
pub changed_all : (m : Memory) → length m.changed.rows.items ≡ total (map_of m.maps) 4
changed_all m = in_all m

-- no page past the four databases stands in the store
pub none_past : (m : Memory) (d p : ℕ) → 4 ≤ d → is_some (look (fields m).changed d p) ≡ false
none_past m d p past = by (cases_Bool (is_some (look (fields m).changed d p)))
  where
    by : (is_some (look (fields m).changed d p) ≡ true) ⊎ (is_some (look (fields m).changed d p) ≡ false) → is_some (look (fields m).changed d p) ≡ false
    by (inr out) = out
    by (inl some) = absurd (omega (arith, changed_all m, spare (fields m).changed (map_of m.maps) d p (λ e q lt _ is. sym (linked m e q lt) ∙ is) past some))

-- the store of saved pages has as many rows as the savepoints of the machine have saved pages
pub saved_all : (m : Memory) (files : ℕ → Bytes) → length m.saved.rows.items ≡ saved_in_all (view files m).savepoints
saved_all m files = saved_in m ∙ sym (stack_total files (fields m) (length m.levels.items))

module _ (m : Memory) (d : ℕ) (lt : d < 4) where
  -- a database has at most 32 changed pages
  pub changed_few : counted (map_of m.maps d) 4096 ≤ 32
  changed_few =
      omega (arith, total_part (map_of m.maps) d 4 lt, changed_all m, m.changed.few)

  -- a changed page is one that a database can have
  pub changed_page : (p : ℕ) → map_of m.maps d p ≡ true → is_page p ≡ true
  changed_page p in-it = by (cases_Bool (is_page p))
    where
      link : (e q : ℕ) → e < 4 → map_of m.maps e q ≡ is_some (look (fields m).changed e q)
      link = linked m

      by : (is_page p ≡ true) ⊎ (is_page p ≡ false) → is_page p ≡ true
      by (inl is) = is
      by (inr bad) =
          absurd
          (omega (
            arith,
            more (fields m).changed (map_of m.maps) d p (λ e q low _ t. sym (link e q low) ∙ t) bad (sym (link d p lt) ∙ in-it),
            changed_all m,
          ))

  pub changed_low : (p : ℕ) → map_of m.maps d p ≡ true → 1 ≤ p
  changed_low p in-it = leb-true 1 p (and_parts (leb 1 p) (leb p 4096) (changed_page p in-it)).0

  pub changed_high : (p : ℕ) → map_of m.maps d p ≡ true → p ≤ 4096
  changed_high p in-it = leb-true p 4096 (and_parts (leb 1 p) (leb p 4096) (changed_page p in-it)).1
