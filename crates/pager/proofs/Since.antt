-- What the savepoints keep of pages that came after them, over a write, a push and a release.
use Rattle.std.proofs.Common.{◌≡◌, ℕ, ◌+◌, ◌-◌, ◌<◌, ◌≤◌, Bool, true, false, cond, ◌&&◌, leb, ◌⊎◌, List, [], ◌∷◌, ◌++◌, length, get_or, is_some, Some, None, Option, sym, refl, ap, ◌∙◌, subst, ap₂, inl, inr, arith}
use Rattle.std.specs.Option.{option_or}
use native.Mathlib.Decide.{ℕ_discrete, dec_lt}
use Rattle.std.proofs.lemmas.Bool.{eqb-true, eq-eqb, le-leb, leb-true, leb-false, and_parts, and_from, both_ways}
use Rattle.card.specs.Meaning.{Bytes}
use Rattle.pager.specs.declared.saved_page.SavedPage.{SavedPage}
use Rattle.pager.specs.declared.saved_page.Was.{Was}
use Rattle.pager.specs.declared.saved_page.Was.TheVariants.{Unchanged, Absent}
use Rattle.pager.specs.Changed.{look}
use Rattle.pager.specs.Saved.{is_saved, has, has_from, first}
use Rattle.pager.specs.Sound.{Fields, Since, sizes_at}
use Rattle.pager.specs.View.{was_of}
use Rattle.pager.proofs.Passes.{from_first}
use Rattle.pager.proofs.Views.{Wrote, first_end, has_first}

-- what a page was told as when it was written first
told_absent : (held : Option Bytes) (there : Bool) → was_of held there ≡ Absent → there ≡ false
told_absent (Some b) there e = absurd (let z : ◌≡◌ {A = ℕ} 0 1 = cc in omega arith)
told_absent None true e = absurd (let z : ◌≡◌ {A = ℕ} 0 1 = cc in omega arith)
told_absent None false e = refl

told_unchanged : (held : Option Bytes) (there : Bool) → was_of held there ≡ Unchanged → there ≡ true
told_unchanged (Some b) there e = absurd (let z : ◌≡◌ {A = ℕ} 0 1 = cc in omega arith)
told_unchanged None true e = refl
told_unchanged None false e = absurd (let z : ◌≡◌ {A = ℕ} 0 1 = cc in omega arith)

module _
    (f g : Fields) (d p : ℕ) (bytes : Bytes) (wrote : Wrote f g (length f.level_sizes) d p bytes) (high : p ≤ get_or f.sizes d 0 + 1) (k : ℕ) (some : 1 ≤ k) (stands : k ≤ length f.level_sizes)
    (since : Since f k) where
  row : SavedPage
  row = record { level = length f.level_sizes; database = d; page = p; was = was_of (look f.changed d p) (leb p (get_or f.sizes d 0)) }

  Saved : Type 0
  Saved = (g.saved ≡ f.saved ++ (row ∷ [])) ⊎ ((g.saved ≡ f.saved) × ((length f.level_sizes ≡ 0) ⊎ (has (length f.level_sizes) f.saved d p ≡ true)))

  saved : Saved
  unfolding row Saved
  saved = wrote.saved

  same_sizes : sizes_at g k ≡ sizes_at f k
  same_sizes = ap (λ (l : List (List ℕ)). get_or l (k - 1) []) wrote.level_sizes

  -- a page that was saved stays as it was saved
  first_same : (e q : ℕ) (w : Was) → first k f.saved e q ≡ Some w → first k g.saved e q ≡ Some w
  unfolding Saved
  first_same e q w old = by saved
    where
      by : Saved → first k g.saved e q ≡ Some w
      by (inl more) =
          ap (λ (l : List SavedPage). first k l e q) more ∙ first_end k f.saved row e q ∙ ap (λ (o : Option Was). option_or o (cond (leb k row.level && is_saved e q row) (Some row.was) None)) old ∙ refl
      by (inr same) = ap (λ (l : List SavedPage). first k l e q) same.0 ∙ old

  -- and one that is saved now is the one that is written
  first_new : (e q : ℕ) (w : Was) → first k f.saved e q ≡ None → first k g.saved e q ≡ Some w → (e ≡ d) × (q ≡ p) × (row.was ≡ w)
  unfolding Saved row
  first_new e q w none now = by saved
    where
      picked : (b : Bool) → (leb k row.level && is_saved e q row) ≡ b → cond b (Some row.was) None ≡ Some w → (e ≡ d) × (q ≡ p) × (row.was ≡ w)
      picked true t is =
          let own = and_parts _ _ (and_parts (leb k row.level) (is_saved e q row) t).1 in
          let same : row.was ≡ w = cc in (sym (eqb-true d e own.0), sym (eqb-true p q own.1), same)
      picked false t is = absurd (let z : ◌≡◌ {A = ℕ} 0 1 = cc in omega arith)

      by : Saved → (e ≡ d) × (q ≡ p) × (row.was ≡ w)
      by (inl more) =
          picked (leb k row.level && is_saved e q row) refl
          (sym (ap (λ (l : List SavedPage). first k l e q) more ∙ first_end k f.saved row e q ∙ ap (λ (o : Option Was). option_or o (cond (leb k row.level && is_saved e q row) (Some row.was) None)) none ∙ refl) ∙ now)
      by (inr same) = absurd (let a = sym none ∙ sym (ap (λ (l : List SavedPage). first k l e q) same.0) ∙ now in let z : ◌≡◌ {A = ℕ} 0 1 = cc in omega arith)

  -- the page that is written is saved then
  here : is_some (first k g.saved d p) ≡ true
  unfolding Saved row
  here = by saved
    where
      either : (o : Option Was) → is_some (option_or o (Some row.was)) ≡ true
      either None = refl
      either (Some w) = refl

      by : Saved → is_some (first k g.saved d p) ≡ true
      by (inl more) =
          ap (λ (l : List SavedPage). is_some (first k l d p)) more ∙ ap is_some (first_end k f.saved row d p)
          ∙ ap (λ (b : Bool). is_some (option_or (first k f.saved d p) (cond b (Some row.was) None)))
          (and_from (leb k row.level) (is_saved d p row) (le-leb k row.level stands) (and_from _ _ (eq-eqb d d refl) (eq-eqb p p refl)))
          ∙ either (first k f.saved d p)
      by (inr (same, inl none)) = absurd (omega (arith, none, some, stands))
      by (inr (same, inr had)) = ap (λ (l : List SavedPage). is_some (first k l d p)) same ∙ has_first (length f.level_sizes) k f.saved d p stands had

  still : (e q : ℕ) (o : Option Was) → first k f.saved e q ≡ o → is_some o ≡ true → is_some (first k g.saved e q) ≡ true
  still e q None old is = absurd (both_ways false refl is)
  still e q (Some w) old is = ap is_some (first_same e q w old)

  size : (e : ℕ) → Dec (e ≡ d) → get_or (sizes_at f k) e 0 ≤ get_or g.sizes e 0
  size e (no ne) = omega (arith, since.size e, wrote.sizes e ne)
  size e (yes same) = subst (λ (i : ℕ). get_or (sizes_at f k) i 0 ≤ get_or g.sizes i 0) (sym same) (omega (arith, since.size d, wrote.size))

  added : (e q : ℕ) → Dec (e ≡ d) → Dec (q ≡ p) → get_or (sizes_at f k) e 0 < q → q ≤ get_or g.sizes e 0 → is_some (first k g.saved e q) ≡ true
  added e q (no ne) w above within = still e q (first k f.saved e q) refl (since.added e q above (omega (arith, within, wrote.sizes e ne)))
  added e q (yes same) (no ne) above within =
      let here-within : q ≤ get_or g.sizes d 0 = subst (λ (i : ℕ). q ≤ get_or g.sizes i 0) same within in
      let old : q ≤ get_or f.sizes d 0 = omega (arith, here-within, wrote.size, high, ne) in
      still e q (first k f.saved e q) refl (since.added e q above (subst (λ (i : ℕ). q ≤ get_or f.sizes i 0) (sym same) old))
  added e q (yes a) (yes b) above within = ap₂ (λ (x y : ℕ). is_some (first k g.saved x y)) a b ∙ here

  absent : (e q : ℕ) (o : Option Was) → first k f.saved e q ≡ o → first k g.saved e q ≡ Some Absent → get_or (sizes_at f k) e 0 < q
  unfolding row
  absent e q (Some w) old now = since.absent e q (old ∙ sym (first_same e q w old) ∙ now)
  absent e q None old now =
      let n = first_new e q Absent old now in
      let past = leb-false p (get_or f.sizes d 0) (told_absent (look f.changed d p) (leb p (get_or f.sizes d 0)) n.2) in
      subst (λ (i : ℕ). get_or (sizes_at f k) i 0 < q) (sym n.0) (omega (arith, n.1, past, since.size d))

  there : (e q : ℕ) (o : Option Was) → first k f.saved e q ≡ o → first k g.saved e q ≡ Some Unchanged → q ≤ get_or (sizes_at f k) e 0
  unfolding row
  there e q (Some w) old now = since.there e q (old ∙ sym (first_same e q w old) ∙ now)
  there e q None old now = by (dec_lt (get_or (sizes_at f k) e 0) q)
    where
      n : (e ≡ d) × (q ≡ p) × (row.was ≡ Unchanged)
      n = first_new e q Unchanged old now

      inside : q ≤ get_or f.sizes e 0
      inside =
          let i : p ≤ get_or f.sizes d 0 = leb-true p (get_or f.sizes d 0) (told_unchanged (look f.changed d p) (leb p (get_or f.sizes d 0)) n.2) in
          subst (λ (x : ℕ). q ≤ get_or f.sizes x 0) (sym n.0) (omega (arith, n.1, i))

      by : Dec (get_or (sizes_at f k) e 0 < q) → q ≤ get_or (sizes_at f k) e 0
      by (no le) = omega (arith, le)
      by (yes above) = absurd (both_ways _ (ap is_some old) (since.added e q above inside))

  pub since_written : Since g k
  since_written = record {
    size = λ e. subst (λ (sizes : List ℕ). get_or sizes e 0 ≤ get_or g.sizes e 0) (sym same_sizes) (size e (ℕ_discrete e d));
    added = λ e q above. added e q (ℕ_discrete e d) (ℕ_discrete q p) (subst (λ (sizes : List ℕ). get_or sizes e 0 < q) same_sizes above);
    absent = λ e q now. subst (λ (sizes : List ℕ). get_or sizes e 0 < q) (sym same_sizes) (absent e q (first k f.saved e q) refl now);
    there = λ e q now. subst (λ (sizes : List ℕ). q ≤ get_or sizes e 0) (sym same_sizes) (there e q (first k f.saved e q) refl now);
  }

-- a savepoint of now
pub since_pushed : (f g : Fields) (k : ℕ) → g.saved ≡ f.saved → sizes_at g k ≡ f.sizes → g.sizes ≡ f.sizes → ((d p : ℕ) → has_from k f.saved d p ≡ false) → Since g k
since_pushed f g k saved at sizes none = record {
  size = λ e. omega (arith, ap (λ (l : List ℕ). get_or l e 0) at, ap (λ (l : List ℕ). get_or l e 0) sizes);
  added = λ e q above within. absurd (omega (arith, above, within, ap (λ (l : List ℕ). get_or l e 0) at, ap (λ (l : List ℕ). get_or l e 0) sizes));
  absent = λ e q now. absurd (let a = sym (first_none e q) ∙ now in let z : ◌≡◌ {A = ℕ} 0 1 = cc in omega arith);
  there = λ e q now. absurd (let a = sym (first_none e q) ∙ now in let z : ◌≡◌ {A = ℕ} 0 1 = cc in omega arith);
}
  where
    first_none : (e q : ℕ) → first k g.saved e q ≡ None
    first_none e q = ap (λ (l : List SavedPage). first k l e q) saved ∙ from_first k f.saved e q (none e q)

-- a savepoint that stays as it was
pub since_kept : (f g : Fields) (k : ℕ) → ((d p : ℕ) → first k g.saved d p ≡ first k f.saved d p) → sizes_at g k ≡ sizes_at f k → g.sizes ≡ f.sizes → Since f k → Since g k
since_kept f g k saved at sizes since = record {
  size = λ e. omega (arith, since.size e, ap (λ (l : List ℕ). get_or l e 0) at, ap (λ (l : List ℕ). get_or l e 0) sizes);
  added = λ e q above within.
      ap is_some (saved e q)
      ∙ since.added e q (omega (arith, above, ap (λ (l : List ℕ). get_or l e 0) at)) (omega (arith, within, ap (λ (l : List ℕ). get_or l e 0) sizes));
  absent = λ e q now. omega (arith, since.absent e q (sym (saved e q) ∙ now), ap (λ (l : List ℕ). get_or l e 0) at);
  there = λ e q now. omega (arith, since.there e q (sym (saved e q) ∙ now), ap (λ (l : List ℕ). get_or l e 0) at);
}
