-- A write of a page, as a step of the machine that the memory is.
use Rattle.std.proofs.Common.{◌≡◌, ℕ, zero, suc, ◌+◌, ◌-◌, ◌<◌, ◌≤◌, max, Bool, true, false, cond, ◌&&◌, ◌||◌, eqb, leb, ◌⊎◌, List, [], ◌∷◌, ◌++◌, length, get_or, is_some, Some, None, Option, sym, refl, ap, ◌∙◌, subst, ap₂, inl, inr, arith}
use mathlib.Core.Path.{fun_ext}
use Rattle.std.specs.Option.{option_or}
use Rattle.std.proofs.Math.Bool.{or-false}
use native.Mathlib.Decide.{ℕ_discrete}
use Rattle.std.proofs.lemmas.Bool.{cases_Bool, cond-true, cond-false, eqb-true, eq-eqb, ne_eqb, le-leb, and_parts, and_from, and_left, and_right, or_right, both_ways}
use Rattle.card.specs.Meaning.{Bytes}
use Rattle.pager.specs.declared.saved_page.SavedPage.{SavedPage}
use Rattle.pager.specs.declared.saved_page.Was.{Was}
use Rattle.pager.specs.declared.saved_page.Was.TheVariants.{Changed, Unchanged, Absent}
use Rattle.page_map.specs.Sets.{PageSet, including}
use Rattle.pager.specs.Changed.{look}
use Rattle.pager.specs.Saved.{is_saved, has, first, was_changed}
use Rattle.pager.specs.Sound.{Fields, map_of, changed_at}
use Rattle.pager.specs.Machine.{at, put, put_page, saving}
use Rattle.pager.specs.View.{file_page, joined, or_file, was_page, was_of, page_now, held_now, held_at, stack}
use Rattle.pager.proofs.Saves.{saves, has_end}
use Rattle.pager.proofs.Pages.{length_file_page, joined_same, put_joined, paged}

-- a function is another one with one value changed
pub at_ext : {A : Type 0} (f g : ℕ → A) (d : ℕ) (v : A) → g d ≡ v → ((k : ℕ) → (k ≡ d → ⊥) → g k ≡ f k) → g ≡ at f d v
at_ext f g d v here others = fun_ext (λ k. by k (ℕ_discrete k d))
  where
    by : (k : ℕ) → Dec (k ≡ d) → g k ≡ cond (eqb k d) v (f k)
    by k (yes e) = ap g e ∙ here ∙ sym (cond-true _ _ _ (eq-eqb k d e))
    by k (no ne) = others k ne ∙ sym (cond-false _ _ _ (ne_eqb k d ne))

pub first_end : (k : ℕ) (rows : List SavedPage) (row : SavedPage) (d p : ℕ) → first k (rows ++ (row ∷ [])) d p ≡ option_or (first k rows d p) (cond (leb k row.level && is_saved d p row) (Some row.was) None)
unfolding first
first_end k [] row d p = refl
first_end k (r ∷ rows) row d p = by (leb k r.level && is_saved d p r) (first_end k rows row d p)
  where
    by : (b : Bool) → first k (rows ++ (row ∷ [])) d p ≡ option_or (first k rows d p) (cond (leb k row.level && is_saved d p row) (Some row.was) None) → cond b (Some r.was) (first k (rows ++ (row ∷ [])) d p) ≡ option_or (cond b (Some r.was) (first k rows d p)) (cond (leb k row.level && is_saved d p row) (Some row.was) None)
    by true e = refl
    by false e = e

-- a page that a savepoint saved has its first row at that savepoint, or at a lower one that counts
pub has_first : (l k : ℕ) (rows : List SavedPage) (d p : ℕ) → k ≤ l → has l rows d p ≡ true → is_some (first k rows d p) ≡ true
unfolding has first
has_first l k [] d p le is = absurd (both_ways false refl is)
has_first l k (row ∷ rows) d p le is = by (cases_Bool (saves l d p row)) (cases_Bool (leb k row.level && is_saved d p row)) (has_first l k rows d p le)
  where
    by :
        (saves l d p row ≡ true) ⊎ (saves l d p row ≡ false) → ((leb k row.level && is_saved d p row) ≡ true) ⊎ ((leb k row.level && is_saved d p row) ≡ false) → (has l rows d p ≡ true → is_some (first k rows d p) ≡ true) →
        is_some (cond (leb k row.level && is_saved d p row) (Some row.was) (first k rows d p)) ≡ true
    by w (inl t) later = ap (λ (b : Bool). is_some (cond b (Some row.was) (first k rows d p))) t
    by (inr u) (inr v) later =
        ap (λ (b : Bool). is_some (cond b (Some row.was) (first k rows d p))) v ∙ later (sym (ap (λ (b : Bool). b || has l rows d p) u) ∙ is)
    by (inl t) (inr v) later =
        let here = eqb-true row.level l (and_parts _ _ t).0 in
        absurd (both_ways _ v (and_from _ _ (le-leb k row.level (omega arith)) (and_parts _ _ t).1))

-- a page once it is saved is what it was, whatever it holds now
was_fixed : (o : Option Was) → is_some o ≡ true → (a b file : Bytes) (x y : Bool) → (was_page o a file ≡ was_page o b file) × (was_changed o x ≡ was_changed o y)
was_fixed None is a b file x y = absurd (both_ways false refl is)
was_fixed (Some (Changed w)) is a b file x y = (refl, refl)
was_fixed (Some Unchanged) is a b file x y = (refl, refl)
was_fixed (Some Absent) is a b file x y = (refl, refl)

-- a page that is saved now is kept as it is now
was_kept : (held : Option Bytes) (there : Bool) (file a : Bytes) (x : Bool) → (was_page (Some (was_of held there)) a file ≡ or_file held file) × (was_changed (Some (was_of held there)) x ≡ is_some held)
was_kept (Some b) there file a x = (refl, refl)
was_kept None true file a x = (refl, refl)
was_kept None false file a x = (refl, refl)

-- a write from the fields f to the fields g
pub record Wrote (f g : Fields) (levels d p : ℕ) (bytes : Bytes) : Type 0 where
  pub size : get_or g.sizes d 0 ≡ max (get_or f.sizes d 0) p
  pub sizes : (k : ℕ) → (k ≡ d → ⊥) → get_or g.sizes k 0 ≡ get_or f.sizes k 0
  pub map : (q : ℕ) → map_of g.maps d q ≡ including (map_of f.maps d) p q
  pub maps : (k : ℕ) → (k ≡ d → ⊥) → map_of g.maps k ≡ map_of f.maps k
  pub pages : (k q : ℕ) → look g.changed k q ≡ cond (eqb k d && eqb q p) (Some bytes) (look f.changed k q)
  pub level_sizes : g.level_sizes ≡ f.level_sizes
  pub saved :
      ((g.saved ≡ f.saved ++ (record { level = levels; database = d; page = p; was = was_of (look f.changed d p) (leb p (get_or f.sizes d 0)) } ∷ [])))
      ⊎ ((g.saved ≡ f.saved) × ((levels ≡ 0) ⊎ (has levels f.saved d p ≡ true)))

module _
    (files : ℕ → Bytes) (f g : Fields) (levels d p : ℕ) (bytes : Bytes) (wrote : Wrote f g levels d p bytes)
    (low : 0 < p) (high : p ≤ get_or f.sizes d 0 + 1) (whole : length bytes ≡ 512)
    (long : (k q : ℕ) (b : Bytes) → look f.changed k q ≡ Some b → length b ≡ 512)
    (link : map_of f.maps d p ≡ is_some (look f.changed d p)) where
  -- the page now, and the others
  page_here : page_now files g d p ≡ bytes
  page_here =
      ap (λ (o : Option Bytes). or_file o (file_page (files d) p))
      (wrote.pages d p ∙ cond-true _ _ _ (and_from _ _ (eq-eqb d d refl) (eq-eqb p p refl)))

  page_far : (k q : ℕ) → (eqb k d && eqb q p) ≡ false → page_now files g k q ≡ page_now files f k q
  page_far k q far = ap (λ (o : Option Bytes). or_file o (file_page (files k) q)) (wrote.pages k q ∙ cond-false _ _ _ far)

  long_page : (q : ℕ) → length (page_now files f d q) ≡ 512
  long_page q = by (look f.changed d q) (long d q)
    where
      by : (o : Option Bytes) → ((b : Bytes) → o ≡ Some b → length b ≡ 512) → length (or_file o (file_page (files d) q)) ≡ 512
      by None l = length_file_page (files d) q
      by (Some b) l = l b refl

  current_here : joined (get_or g.sizes d 0) (page_now files g d) ≡ put_page (joined (get_or f.sizes d 0) (page_now files f d)) p bytes
  current_here =
      ap (λ (n : ℕ). joined n (page_now files g d)) wrote.size
      ∙ joined_same (max (get_or f.sizes d 0) p) (page_now files g d) (paged (page_now files f d) p bytes) (λ q a b. each q (ℕ_discrete q p))
      ∙ sym (put_joined (page_now files f d) long_page bytes whole (get_or f.sizes d 0) p low (omega arith))
    where
      each : (q : ℕ) → Dec (q ≡ p) → page_now files g d q ≡ paged (page_now files f d) p bytes q
      each q (yes e) = ap (page_now files g d) e ∙ page_here ∙ sym (cond-true _ _ _ (eq-eqb q p e))
      each q (no ne) = page_far d q (and_right _ _ (ne_eqb q p ne)) ∙ sym (cond-false _ _ _ (ne_eqb q p ne))

  current_other : (k : ℕ) → (k ≡ d → ⊥) → joined (get_or g.sizes k 0) (page_now files g k) ≡ joined (get_or f.sizes k 0) (page_now files f k)
  current_other k ne =
      ap (λ (n : ℕ). joined n (page_now files g k)) (wrote.sizes k ne)
      ∙ joined_same (get_or f.sizes k 0) _ _ (λ q a b. page_far k q (and_left _ _ (ne_eqb k d ne)))

  pub held_written : held_now files g ≡ put d p bytes (held_now files f)
  unfolding put
  held_written =
      let c = at_ext (held_now files f).current (held_now files g).current d (put_page ((held_now files f).current d) p bytes) current_here current_other in
      let m = at_ext (map_of f.maps) (map_of g.maps) d (including (map_of f.maps d) p) (fun_ext wrote.map) wrote.maps in
      λ i. record { current = c i; changed = m i }

  -- what a page was at savepoint k, before the write and after it
  SameWas : ℕ → ℕ → ℕ → Type 0
  SameWas k e q =
      (was_page (first k g.saved e q) (page_now files g e q) (file_page (files e) q) ≡ was_page (first k f.saved e q) (page_now files f e q) (file_page (files e) q))
      × (was_changed (first k g.saved e q) (map_of g.maps e q) ≡ was_changed (first k f.saved e q) (map_of f.maps e q))

  map_far : (e q : ℕ) → (eqb e d && eqb q p) ≡ false → map_of g.maps e q ≡ map_of f.maps e q
  map_far e q far = by (ℕ_discrete e d)
    where
      by : Dec (e ≡ d) → map_of g.maps e q ≡ map_of f.maps e q
      by (no ne) = ap (λ (s : PageSet). s q) (wrote.maps e ne)
      by (yes same) =
          ap (λ (k : ℕ). map_of g.maps k q) same ∙ wrote.map q
          ∙ cond-false _ _ _ (ne_eqb q p (λ z. both_ways _ far (and_from _ _ (eq-eqb e d same) (eq-eqb q p z))))
          ∙ ap (λ (k : ℕ). map_of f.maps k q) (sym same)

  new_row : SavedPage
  new_row = record { level = levels; database = d; page = p; was = was_of (look f.changed d p) (leb p (get_or f.sizes d 0)) }

  -- the new row is for the page that is written, and for no other
  row_far : (e q : ℕ) → (eqb e d && eqb q p) ≡ false → is_saved e q new_row ≡ false
  unfolding new_row
  row_far e q far = by (cases_Bool (eqb d e && eqb p q))
    where
      by : ((eqb d e && eqb p q) ≡ true) ⊎ ((eqb d e && eqb p q) ≡ false) → (eqb d e && eqb p q) ≡ false
      by (inr u) = u
      by (inl t) =
          absurd (both_ways _ far (and_from _ _ (eq-eqb e d (sym (eqb-true d e (and_parts _ _ t).0))) (eq-eqb q p (sym (eqb-true p q (and_parts _ _ t).1)))))

  row_here : is_saved d p new_row ≡ true
  unfolding new_row
  row_here = and_from _ _ (eq-eqb d d refl) (eq-eqb p p refl)

  or_none : (o : Option Was) → option_or o None ≡ o
  or_none None = refl
  or_none (Some w) = refl

  -- a page other than the one that is written
  first_far : (k e q : ℕ) → (eqb e d && eqb q p) ≡ false → first k g.saved e q ≡ first k f.saved e q
  unfolding new_row
  first_far k e q far = by wrote.saved
    where
      by : (g.saved ≡ f.saved ++ (new_row ∷ [])) ⊎ ((g.saved ≡ f.saved) × ((levels ≡ 0) ⊎ (has levels f.saved d p ≡ true))) → first k g.saved e q ≡ first k f.saved e q
      by (inl more) =
          ap (λ (l : List SavedPage). first k l e q) more ∙ first_end k f.saved new_row e q
          ∙ ap (option_or (first k f.saved e q)) (cond-false _ _ _ (and_right _ _ (row_far e q far)))
          ∙ or_none (first k f.saved e q)
      by (inr same) = ap (λ (l : List SavedPage). first k l e q) same.0

  -- the page that is written, where it was saved since
  fixed : (k : ℕ) (o : Option Was) → first k g.saved d p ≡ o → first k f.saved d p ≡ o → is_some o ≡ true → SameWas k d p
  unfolding SameWas
  fixed k o new old is =
      let w = was_fixed o is (page_now files g d p) (page_now files f d p) (file_page (files d) p) (map_of g.maps d p) (map_of f.maps d p) in (
        ap (λ (x : Option Was). was_page x (page_now files g d p) (file_page (files d) p)) new ∙ w.0 ∙ sym (ap (λ (x : Option Was). was_page x (page_now files f d p) (file_page (files d) p)) old),
        ap (λ (x : Option Was). was_changed x (map_of g.maps d p)) new ∙ w.1 ∙ sym (ap (λ (x : Option Was). was_changed x (map_of f.maps d p)) old),
      )

  was_here : (k : ℕ) → 0 < k → k ≤ levels → SameWas k d p
  unfolding new_row SameWas
  was_here k some le = by wrote.saved (first k f.saved d p) refl
    where
      by : (g.saved ≡ f.saved ++ (new_row ∷ [])) ⊎ ((g.saved ≡ f.saved) × ((levels ≡ 0) ⊎ (has levels f.saved d p ≡ true))) → (o : Option Was) → first k f.saved d p ≡ o → SameWas k d p
      by (inl more) (Some w) old =
          fixed k (Some w)
          (ap (λ (l : List SavedPage). first k l d p) more ∙ first_end k f.saved new_row d p ∙ ap (λ (x : Option Was). option_or x (cond (leb k levels && is_saved d p new_row) (Some new_row.was) None)) old ∙ some_first w (cond (leb k levels && is_saved d p new_row) (Some new_row.was) None))
          old refl
        where
          some_first : (w : Was) (x : Option Was) → option_or (Some w) x ≡ Some w
          some_first w x = refl
      by (inl more) None old = kept
        where
          saved_now : first k g.saved d p ≡ Some (was_of (look f.changed d p) (leb p (get_or f.sizes d 0)))
          saved_now =
              ap (λ (l : List SavedPage). first k l d p) more ∙ first_end k f.saved new_row d p
              ∙ ap₂ option_or old (cond-true _ _ _ (and_from _ _ (le-leb k levels le) row_here))

          kept : SameWas k d p
          kept =
              let w = was_kept (look f.changed d p) (leb p (get_or f.sizes d 0)) (file_page (files d) p) (page_now files g d p) (map_of g.maps d p) in (
                ap (λ (x : Option Was). was_page x (page_now files g d p) (file_page (files d) p)) saved_now ∙ w.0 ∙ sym (ap (λ (x : Option Was). was_page x (page_now files f d p) (file_page (files d) p)) old),
                ap (λ (x : Option Was). was_changed x (map_of g.maps d p)) saved_now ∙ w.1 ∙ sym (ap (λ (x : Option Was). was_changed x (map_of f.maps d p)) old ∙ link),
              )
      by (inr (same, inl none)) o old = absurd (omega arith)
      by (inr (same, inr had)) o old =
          fixed k o (ap (λ (l : List SavedPage). first k l d p) same ∙ old) old
          (subst (λ (x : Option Was). is_some x ≡ true) old (has_first levels k f.saved d p le had))

  was_far : (k e q : ℕ) → (eqb e d && eqb q p) ≡ false → SameWas k e q
  unfolding SameWas
  was_far k e q far = (
    ap₂ (λ (x : Option Was) (y : Bytes). was_page x y (file_page (files e) q)) (first_far k e q far) (page_far e q far),
    ap₂ was_changed (first_far k e q far) (map_far e q far),
  )

  same_was : (k : ℕ) → 0 < k → k ≤ levels → (e q : ℕ) → SameWas k e q
  same_was k some le e q = by (ℕ_discrete e d) (ℕ_discrete q p)
    where
      by : Dec (e ≡ d) → Dec (q ≡ p) → SameWas k e q
      by (yes a) (yes b) = subst (λ (x : ℕ). SameWas k x q) (sym a) (subst (λ (y : ℕ). SameWas k d y) (sym b) (was_here k some le))
      by (no a) w = was_far k e q (and_left _ _ (ne_eqb e d a))
      by (yes a) (no b) = was_far k e q (and_right _ _ (ne_eqb q p b))

  -- the pages that were changed at each savepoint stay
  pub changed_kept : (k : ℕ) → 0 < k → k ≤ levels → (e q : ℕ) → changed_at g k e q ≡ changed_at f k e q
  unfolding SameWas
  changed_kept k some le e q = (same_was k some le e q).1

  -- what each savepoint holds stays
  pub held_kept : (k : ℕ) → 0 < k → k ≤ levels → held_at files g k ≡ held_at files f k
  unfolding SameWas
  held_kept k some le =
      let c = fun_ext (λ (e : ℕ). ap (λ (ls : List (List ℕ)). joined (get_or (get_or ls (k - 1) []) e 0) (λ q. was_page (first k g.saved e q) (page_now files g e q) (file_page (files e) q))) wrote.level_sizes ∙ joined_same (get_or (get_or f.level_sizes (k - 1) []) e 0) _ _ (λ q a b. (same_was k some le e q).0)) in
      let m = fun_ext (λ (e : ℕ). fun_ext (λ (q : ℕ). (same_was k some le e q).1)) in
      λ i. record { current = c i; changed = m i }

  -- the top savepoint has saved the page now
  saved_here : 0 < levels → has levels g.saved d p ≡ true
  unfolding new_row
  saved_here some = by wrote.saved
    where
      by : (g.saved ≡ f.saved ++ (new_row ∷ [])) ⊎ ((g.saved ≡ f.saved) × ((levels ≡ 0) ⊎ (has levels f.saved d p ≡ true))) → has levels g.saved d p ≡ true
      by (inl more) =
          ap (λ (l : List SavedPage). has levels l d p) more ∙ has_end levels f.saved new_row d p ∙ or_right _ _ (and_from _ _ (eq-eqb levels levels refl) row_here)
      by (inr (same, inl none)) = absurd (omega arith)
      by (inr (same, inr had)) = ap (λ (l : List SavedPage). has levels l d p) same ∙ had

  -- and nothing else is saved anew
  saved_far : (k e q : ℕ) → (k ≡ levels → (eqb e d && eqb q p) ≡ false) → has k g.saved e q ≡ has k f.saved e q
  unfolding new_row
  saved_far k e q far = by wrote.saved
    where
      other : Dec (k ≡ levels) → saves k e q new_row ≡ false
      other (yes s) = and_right _ _ (row_far e q (far s))
      other (no ne) = and_left _ _ (ne_eqb levels k (λ z. ne (sym z)))

      by : (g.saved ≡ f.saved ++ (new_row ∷ [])) ⊎ ((g.saved ≡ f.saved) × ((levels ≡ 0) ⊎ (has levels f.saved d p ≡ true))) → has k g.saved e q ≡ has k f.saved e q
      by (inl more) =
          ap (λ (l : List SavedPage). has k l e q) more ∙ has_end k f.saved new_row e q
          ∙ ap (λ (b : Bool). has k f.saved e q || b) (other (ℕ_discrete k levels)) ∙ or-false (has k f.saved e q)
      by (inr same) = ap (λ (l : List SavedPage). has k l e q) same.0

  saved_top : 0 < levels → has levels g.saved ≡ at (has levels f.saved) d (including (has levels f.saved d) p)
  saved_top some = at_ext (has levels f.saved) (has levels g.saved) d _ (fun_ext (λ q. by q (ℕ_discrete q p)))
      (λ e ne. fun_ext (λ q. saved_far levels e q (λ _. and_left _ _ (ne_eqb e d ne))))
    where
      by : (q : ℕ) → Dec (q ≡ p) → has levels g.saved d q ≡ cond (eqb q p) true (has levels f.saved d q)
      by q (yes e) = ap (has levels g.saved d) e ∙ saved_here some ∙ sym (cond-true _ _ _ (eq-eqb q p e))
      by q (no ne) = saved_far levels d q (λ _. and_right _ _ (ne_eqb q p ne)) ∙ sym (cond-false _ _ _ (ne_eqb q p ne))

  below_kept : (k : ℕ) → k < levels → stack files g k ≡ stack files f k
  unfolding stack
  below_kept zero lt = refl
  below_kept (suc k) lt =
      let h = held_kept (suc k) (omega arith) (omega arith) in
      let s = fun_ext (λ (e : ℕ). fun_ext (λ (q : ℕ). saved_far (suc k) e q (λ z. absurd (omega arith)))) in
      let rest = below_kept k (omega arith) in
      λ i. record { held = h i; saved = s i } ∷ rest i

  pub stack_written : stack files g levels ≡ saving d p (stack files f levels)
  unfolding stack saving
  stack_written = by levels refl
    where
      by : (k : ℕ) → k ≡ levels → stack files g k ≡ saving d p (stack files f k)
      by zero e = refl
      by (suc k) e =
          let h = held_kept (suc k) (omega arith) (omega arith) in
          let s = subst (λ (n : ℕ). has n g.saved ≡ at (has n f.saved) d (including (has n f.saved d) p)) (sym e) (saved_top (omega arith)) in
          let rest = below_kept k (omega arith) in
          λ i. record { held = h i; saved = s i } ∷ rest i
