-- What a write does to the fields, and that the fields stay sound.
use Rattle.std.proofs.Common.{◌≡◌, ℕ, suc, ◌+◌, ◌-◌, ◌<◌, ◌≤◌, max, Bool, true, false, cond, not, ◌&&◌, ◌||◌, eqb, ltb, leb, ◌⊎◌, List, [], ◌∷◌, ◌++◌, All, length, get_or, set, is_some, find, Some, None, Option, sym, refl, ap, ◌∙◌, ap₂, subst, inl, inr, arith}
use Rattle.std.specs.Option.{option_map}
use Rattle.std.proofs.lemmas.Option.{none-some}
use mathlib.Core.Bool.{Bool-set}
use mathlib.Core.Logic.{∥∥₁_elim}
use native.Mathlib.Nat.{ℕ_set}
use native.Mathlib.Decide.{ℕ_discrete}
use Rattle.std.proofs.lemmas.List.{get_or-set_same, get_or-set_other}
use Rattle.std.proofs.lemmas.Bool.{cases_Bool, cond-true, cond-false, eqb-true, eq-eqb, ne_eqb, lt-leb, leb-true, leb-false, ltb-true, and_parts, and_from, and_cases, and_left, and_right, not-false}
use Rattle.card.specs.Meaning.{Bytes}
use Rattle.pager.specs.declared.memory.Memory.{Memory}
use Rattle.page_map.specs.declared.PageMap.{PageMap}
use Rattle.pager.specs.declared.changed_page.ChangedPage.{ChangedPage}
use Rattle.pager.specs.declared.changed_pages.ChangedPages.{ChangedPages}
use Rattle.pager.specs.declared.saved_page.SavedPage.{SavedPage}
use Rattle.pager.specs.declared.saved_pages.SavedPages.{SavedPages}
use Rattle.pager.specs.declared.saved_page.Was.{Was}
use Rattle.refusal.specs.declared.refusals.Refusal.{Refusal}
use Rattle.refusal.specs.declared.refusals.Refusal.TheVariants.{NoDatabase, BufferLength, Page, ChangedFull, SavedFull}
use Rattle.page_map.specs.Sets.{PageSet, including, is_page, total}
use Rattle.page_map.specs.Words.{pages_of}
use Rattle.pager.specs.Changed.{look, Whole, is_row}
use Rattle.pager.specs.Saved.{has, has_from, saved_total, Placed, added}
use Rattle.pager.specs.Sound.{Fields, Sound, map_of, sizes_at, changed_at, Within}
use Rattle.pager.specs.View.{fields, page_allowed, to_save, write_refusal, was_of, saved_first}
use Rattle.pager.proofs.Saves.{from_end}
use Rattle.pager.proofs.SavedRows.{added_all, added_placed}
use Rattle.pager.proofs.Since.{since_written}
use Rattle.pager.proofs.Views.{Wrote, changed_kept}
use Rattle.page_map.proofs.Totals.{total_with}

-- the tests of a write that is not refused
pub record Allowed (m : Memory) (d p long : ℕ) : Type 0 where
  pub database : d < m.count
  pub whole : long ≡ 512
  pub page : page_allowed m d p ≡ true
  pub changed : (eqb (total (map_of m.maps) 4) 32 && not (map_of m.maps d p)) ≡ false
  pub saved : (eqb (length m.saved.rows.items) 32 && to_save m d p) ≡ false

pub some_none : {X : Type 0} (x : X) → Some x ≡ None → ⊥
some_none x e = none-some x (sym e)

pass : (b : Bool) (x : Option Refusal) (r : Refusal) → cond b x (Some r) ≡ None → (b ≡ true) × (x ≡ None)
pass true x r e = (refl, e)
pass false x r e = absurd (some_none r e)

pass_not : (b : Bool) (x : Option Refusal) (r : Refusal) → cond b (Some r) x ≡ None → (b ≡ false) × (x ≡ None)
pass_not true x r e = absurd (some_none r e)
pass_not false x r e = (refl, e)

pub allowed : (m : Memory) (d p long : ℕ) → write_refusal m d p long ≡ None → Allowed m d p long
allowed m d p long none =
    let a = pass (ltb d m.count) _ NoDatabase none in
    let b = pass (eqb long 512) _ BufferLength a.1 in
    let c = pass (page_allowed m d p) _ Page b.1 in
    let e = pass_not (eqb (total (map_of m.maps) 4) 32 && not (map_of m.maps d p)) _ ChangedFull c.1 in
    let f = pass_not (eqb (length m.saved.rows.items) 32 && to_save m d p) _ SavedFull e.1 in
    record { database = ltb-true d m.count a.0; whole = eqb-true long 512 b.0; page = c.0; changed = e.0; saved = f.0 }

pub page_low : (m : Memory) (d p : ℕ) → page_allowed m d p ≡ true → 0 < p
page_low m d p is = omega (arith, leb-true 1 p (and_parts _ _ is).0)

pub page_high : (m : Memory) (d p : ℕ) → page_allowed m d p ≡ true → p ≤ get_or m.sizes d 0 + 1
page_high m d p is = leb-true p (get_or m.sizes d 0 + 1) (and_parts _ _ (and_parts _ _ is).1).0

pub page_is : (m : Memory) (d p : ℕ) → page_allowed m d p ≡ true → is_page p ≡ true
page_is m d p is =
    let rest = and_parts (leb 1 p) (leb p (get_or m.sizes d 0 + 1) && leb p 4096) is in
    and_from (leb 1 p) (leb p 4096) rest.0 (and_parts (leb p (get_or m.sizes d 0 + 1)) (leb p 4096) rest.1).1

-- a page among the changed ones has 512 bytes
pub look_long : (rows : List ChangedPage) → Whole rows → (d p : ℕ) (b : Bytes) → look rows d p ≡ Some b → length b ≡ 512
unfolding look
look_long [] whole d p b e = absurd (some_none b (sym e))
look_long (row ∷ rows) whole d p b e = by (is_row d p row) (whole 0 row (omega arith)) (look_long rows (λ i x lt. whole (suc i) x (omega arith)) d p b) e
  where
    by : (t : Bool) → length row.bytes ≡ 512 → (look rows d p ≡ Some b → length b ≡ 512) → option_map (λ (r : ChangedPage). r.bytes) (cond t (Some row) (find (is_row d p) rows)) ≡ Some b → length b ≡ 512
    by true long later is = let s : row.bytes ≡ b = cc in ap length (sym s) ∙ long
    by false long later is = later is

pub wrote_from :
    (m : Memory) (d p : ℕ) (bytes row : Bytes) (size : ℕ) (map : PageMap) (changed : ChangedPages) (saved : SavedPages) →
    d < length m.sizes → d < length m.maps → is_page p ≡ true → size ≡ max (get_or m.sizes d 0) p →
    ((q : ℕ) → pages_of map.words q ≡ cond (is_page p) (including (pages_of (get_or m.maps d (record { words = [] })).words) p q) (pages_of (get_or m.maps d (record { words = [] })).words q)) →
    ((e q : ℕ) → look changed.rows.items e q ≡ cond (eqb e d && eqb q p) (Some row) (look m.changed.rows.items e q)) →
    row ≡ bytes → saved.rows.items ≡ saved_first m d p →
    Wrote (fields m)
    (record { sizes = set m.sizes d size; maps = set m.maps d map; changed = changed.rows.items; saved = saved.rows.items; level_sizes = m.levels.items })
    (length m.levels.items) d p bytes
unfolding map_of
wrote_from m d p bytes row size map changed saved ls lm is larger mapped put same kept = record {
  size = get_or-set_same m.sizes d size 0 ls ∙ larger;
  sizes = λ k ne. get_or-set_other m.sizes d k size 0 ne;
  map = λ q. ap (λ (x : PageMap). pages_of x.words q) (get_or-set_same m.maps d map (record { words = [] }) lm) ∙ mapped q ∙ cond-true _ _ _ is;
  maps = λ k ne. ap (λ (x : PageMap). pages_of x.words) (get_or-set_other m.maps d k map (record { words = [] }) ne);
  pages = λ e q. put e q ∙ ap (λ (b : Bytes). cond (eqb e d && eqb q p) (Some b) (look m.changed.rows.items e q)) same;
  level_sizes = refl;
  saved = by (cases_Bool (to_save m d p));
}
  where
    rows : List SavedPage
    rows = (fields m).saved

    new : SavedPage
    new = record { level = (length m.levels.items); database = d; page = p; was = was_of (look (fields m).changed d p) (leb p (get_or m.sizes d 0)) }

    had : (leb 1 (length m.levels.items) ≡ false) ⊎ (not (has (length m.levels.items) rows d p) ≡ false) → ((length m.levels.items) ≡ 0) ⊎ (has (length m.levels.items) rows d p ≡ true)
    had (inl u) = let l = leb-false 1 (length m.levels.items) u in inl (omega arith)
    had (inr u) = inr (not-false _ u)

    by : (to_save m d p ≡ true) ⊎ (to_save m d p ≡ false) → (saved.rows.items ≡ rows ++ (new ∷ [])) ⊎ ((saved.rows.items ≡ rows) × (((length m.levels.items) ≡ 0) ⊎ (has (length m.levels.items) rows d p ≡ true)))
    by (inl t) = inl (kept ∙ cond-true _ _ _ t)
    by (inr u) = inr (kept ∙ cond-false _ _ _ u, had (and_cases _ _ u))

-- what a sound memory keeps, one fact at a time
pub linked : (m : Memory) (d p : ℕ) → d < 4 → map_of m.maps d p ≡ is_some (look (fields m).changed d p)
linked m d p lt = ∥∥₁_elim m.sound (Bool-set _ _) (λ s. s.link d p lt)

pub in_all : (m : Memory) → length m.changed.rows.items ≡ total (map_of m.maps) 4
in_all m = ∥∥₁_elim m.sound (ℕ_set _ _) (λ s. s.all)

pub none_above : (m : Memory) (d p : ℕ) → has_from (suc (length m.levels.items)) (fields m).saved d p ≡ false
none_above m d p = ∥∥₁_elim m.sound (Bool-set _ _) (λ s. s.below d p)

pub saved_in : (m : Memory) → length m.saved.rows.items ≡ saved_total (length m.levels.items) m.saved.rows.items
saved_in m = ∥∥₁_elim m.sound (ℕ_set _ _) (λ s. s.saved_all)

-- a sound memory stays sound over a write
pub sound_written :
    (count : ℕ) (f g : Fields) (d p : ℕ) (bytes : Bytes) → Wrote f g (length f.level_sizes) d p bytes → d < count → count ≤ 4 → is_page p ≡ true → p ≤ get_or f.sizes d 0 + 1 → length bytes ≡ 512 →
    ((e q : ℕ) (b : Bytes) → look f.changed e q ≡ Some b → length b ≡ 512) → length g.changed ≡ cond (is_some (look f.changed d p)) (length f.changed) (length f.changed + 1) →
    (level : ℕ) (was : Was) → level ≡ length f.level_sizes → g.saved ≡ added f.saved (record { level = level; database = d; page = p; was = was }) → Sound count f → Sound count g
sound_written count f g d p bytes wrote there four is high whole long grown level was top once sound = record {
  link = link;
  all = all;
  within = within;
  was_within = was_within;
  since = λ k some le.
      let at : k ≤ length f.level_sizes = omega (arith, le, ap length wrote.level_sizes) in
      since_written f g d p bytes wrote high k some at (sound.since k some at);
  below = λ e q. below e q wrote.saved;
  placed = subst (All (Placed count)) (sym once) (added_placed count f.saved row sound.placed (there, is));
  saved_all = ap length once ∙ added_all (length f.level_sizes) f.saved row (omega arith) (inside, is) sound.saved_all ∙ sym (ap₂ saved_total (ap length wrote.level_sizes) once);
}
  where
    inside : d < 4
    inside = omega (arith, there, four)

    low : 1 ≤ p
    low = leb-true 1 p (and_parts _ _ is).0

    row : SavedPage
    row = record { level = level; database = d; page = p; was = was }

    link : (e q : ℕ) → e < 4 → map_of g.maps e q ≡ is_some (look g.changed e q)
    link e q lt = by (ℕ_discrete e d) (ℕ_discrete q p)
      where
        far : (eqb e d && eqb q p) ≡ false → look g.changed e q ≡ look f.changed e q
        far u = wrote.pages e q ∙ cond-false _ _ _ u

        by : Dec (e ≡ d) → Dec (q ≡ p) → map_of g.maps e q ≡ is_some (look g.changed e q)
        by (yes a) (yes b) =
            ap (λ (k : ℕ). map_of g.maps k q) a ∙ wrote.map q ∙ cond-true _ _ _ (eq-eqb q p b)
            ∙ sym (ap is_some (wrote.pages e q ∙ cond-true _ _ _ (and_from _ _ (eq-eqb e d a) (eq-eqb q p b))))
        by (yes a) (no b) =
            ap (λ (k : ℕ). map_of g.maps k q) a ∙ wrote.map q ∙ cond-false _ _ _ (ne_eqb q p b) ∙ ap (λ (k : ℕ). map_of f.maps k q) (sym a)
            ∙ sound.link e q lt ∙ sym (ap is_some (far (and_right _ _ (ne_eqb q p b))))
        by (no a) w =
            ap (λ (s : PageSet). s q) (wrote.maps e a) ∙ sound.link e q lt ∙ sym (ap is_some (far (and_left _ _ (ne_eqb e d a))))

    all : length g.changed ≡ total (map_of g.maps) 4
    all =
        grown ∙ ap (λ (b : Bool). cond b (length f.changed) (length f.changed + 1)) (sym (sound.link d p inside)) ∙ ap (λ (n : ℕ). cond (map_of f.maps d p) n (n + 1)) sound.all
        ∙ sym (total_with (map_of f.maps) (map_of g.maps) d p is wrote.map wrote.maps 4 inside)

    within : Within count g.sizes (map_of g.maps)
    within e q in-it = by (ℕ_discrete e d) (ℕ_discrete q p)
      where
        by : Dec (e ≡ d) → Dec (q ≡ p) → (e < count) × (1 ≤ q) × (q ≤ get_or g.sizes e 0)
        by (no a) w =
            let was = sound.within e q (sym (ap (λ (s : PageSet). s q) (wrote.maps e a)) ∙ in-it) in
            (was.0, was.1, omega (arith, was.2, wrote.sizes e a))
        by (yes a) (no b) =
            let was = sound.within d q (sym (cond-false _ _ _ (ne_eqb q p b)) ∙ sym (wrote.map q) ∙ ap (λ (k : ℕ). map_of g.maps k q) (sym a) ∙ in-it) in
            (omega (arith, a, there), was.1, subst (λ (k : ℕ). q ≤ get_or g.sizes k 0) (sym a) (omega (arith, was.2, wrote.size)))
        by (yes a) (yes b) =
            (omega (arith, a, there), omega (arith, b, low), subst (λ (k : ℕ). q ≤ get_or g.sizes k 0) (sym a) (omega (arith, b, wrote.size)))

    was_within : (k : ℕ) → 1 ≤ k → k ≤ length g.level_sizes → Within count (sizes_at g k) (changed_at g k)
    was_within k some le e q in-it =
        let at : k ≤ length f.level_sizes = omega (arith, le, ap length wrote.level_sizes) in
        let was = sound.was_within k some at e q (sym (changed_kept (λ _. []) f g (length f.level_sizes) d p bytes wrote low high whole long (sound.link d p inside) k some at e q) ∙ in-it) in
        (was.0, was.1, subst (λ (l : List (List ℕ)). q ≤ get_or (get_or l (k - 1) []) e 0) (sym wrote.level_sizes) was.2)

    below :
        (e q : ℕ) →
        (g.saved ≡ f.saved ++ (record { level = length f.level_sizes; database = d; page = p; was = was_of (look f.changed d p) (leb p (get_or f.sizes d 0)) } ∷ [])) ⊎ ((g.saved ≡ f.saved) × ((length f.level_sizes ≡ 0) ⊎ (has (length f.level_sizes) f.saved d p ≡ true))) →
        has_from (suc (length g.level_sizes)) g.saved e q ≡ false
    below e q (inl more) =
        ap₂ (λ (ls : List (List ℕ)) (l : List SavedPage). has_from (suc (length ls)) l e q) wrote.level_sizes more ∙ from_end (suc (length f.level_sizes)) f.saved _ e q
        ∙ ap₂ (λ (a b : Bool). a || b) (sound.below e q) (and_left _ _ (lt-leb (suc (length f.level_sizes)) (length f.level_sizes) (omega arith)))
    below e q (inr same) = ap₂ (λ (ls : List (List ℕ)) (l : List SavedPage). has_from (suc (length ls)) l e q) wrote.level_sizes same.0 ∙ sound.below e q

-- a row that is added once is what the top savepoint has to save
pub saved_added :
    (m : Memory) (d p level : ℕ) (was : Was) → level ≡ length m.levels.items → was ≡ was_of (look (fields m).changed d p) (leb p (get_or m.sizes d 0)) →
    added (fields m).saved (record { level = level; database = d; page = p; was = was }) ≡ saved_first m d p
saved_added m d p level was top is =
    ap₂ (λ (k : ℕ) (w : Was). added (fields m).saved (record { level = k; database = d; page = p; was = w })) top is
    ∙ by (leb 1 (length m.levels.items)) (has (length m.levels.items) (fields m).saved d p)
  where
    new : SavedPage
    new = record { level = length m.levels.items; database = d; page = p; was = was_of (look (fields m).changed d p) (leb p (get_or m.sizes d 0)) }

    by : (a b : Bool) → cond a (cond b (fields m).saved ((fields m).saved ++ new ∷ [])) (fields m).saved ≡ cond (a && not b) ((fields m).saved ++ new ∷ []) (fields m).saved
    by true true = refl
    by true false = refl
    by false b = refl
