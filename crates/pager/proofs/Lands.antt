-- The changed pages of a database, put into its file one after the other in ascending order, make it what the
-- machine holds.
use Rattle.std.proofs.Common.{◌≡◌, ℕ, zero, suc, ◌+◌, ◌-◌, ◌*◌, ◌<◌, ◌≤◌, max, min, Bool, true, false, cond, leb, List, [], ◌∷◌, length, get_or, is_some, Some, None, Option, sym, refl, ap, ◌∙◌, arith}
use native.Mathlib.Decide.{ℕ_discrete, dec_lt}
use Rattle.std.proofs.lemmas.Bool.{cond-true, cond-false, eq-eqb, ne_eqb, le-leb, lt-leb, both_ways}
use Rattle.card.specs.Meaning.{Bytes}
use Rattle.card.specs.Calls.{part}
use Rattle.page_map.specs.Sets.{PageSet}
use Rattle.page_map.specs.Listed.{above}
use Rattle.pager.specs.declared.memory.Memory.{Memory}
use Rattle.pager.specs.Changed.{look}
use Rattle.pager.specs.Sound.{map_of}
use Rattle.pager.specs.Machine.{put_page}
use Rattle.pager.specs.View.{joined, file_page, or_file, fields, page_now, view}
use Rattle.pager.proofs.Fresh.{file_whole}
use Rattle.pager.proofs.Keeps.{linked}
use Rattle.pager.proofs.Members.{changed_low, changed_high, page_of}
use Rattle.pager.proofs.Pages.{joined_same, length_file_page, paged, put_joined}
use Rattle.pager.proofs.Sizes.{page_long}

-- pages put into a content one after the other
unfoldable pub put_all : Bytes → (ℕ → Bytes) → List ℕ → Bytes
put_all content page [] = content
put_all content page (p ∷ ps) = put_all (put_page content p (page p)) page ps

module _
    (files : ℕ → Bytes) (m : Memory) (d base : ℕ) (four : d < 4) (whole : length (files d) ≡ base * 512) (low : base ≤ get_or m.sizes d 0) (high : get_or m.sizes d 0 ≤ 4096)
    (past : (p : ℕ) → base < p → p ≤ get_or m.sizes d 0 → map_of m.maps d p ≡ true) where
  abbrev size : ℕ
  size = get_or m.sizes d 0

  abbrev changed : PageSet
  changed = map_of m.maps d

  abbrev now : ℕ → Bytes
  now = page_now files (fields m) d

  -- the pages up to one are as they are now, and those after it as the file has them
  abbrev mixed : ℕ → ℕ → Bytes
  mixed a q = cond (leb q a) (now q) (file_page (files d) q)

  abbrev so_far : ℕ → Bytes
  so_far a = joined (max base (min a size)) (mixed a)

  mixed_long : (a q : ℕ) → length (mixed a q) ≡ 512
  mixed_long a q = by (leb q a)
    where
      by : (b : Bool) → length (cond b (now q) (file_page (files d) q)) ≡ 512
      by true = page_long files m d q
      by false = length_file_page (files d) q

  -- one page further
  mixed_next : (a q : ℕ) → (q ≡ suc a → ⊥) → mixed (suc a) q ≡ mixed a q
  mixed_next a q ne = by (dec_lt a q)
    where
      by : Dec (a < q) → mixed (suc a) q ≡ mixed a q
      by (yes lt) = cond-false _ _ _ (lt-leb q (suc a) (omega (arith, lt, ne))) ∙ sym (cond-false _ _ _ (lt-leb q a lt))
      by (no ge) = cond-true _ _ _ (le-leb q (suc a) (omega arith)) ∙ sym (cond-true _ _ _ (le-leb q a (omega arith)))

  -- what the machine holds of the page
  abbrev page : ℕ → Bytes
  page p = part ((view files m).held.current d) ((p - 1) * 512) 512

  page_is : (p : ℕ) → changed p ≡ true → page p ≡ now p
  page_is p is = page_of size now (page_long files m d) p (changed_low m d p is) (changed_high m d p is)

  put_changed : (a : ℕ) → changed (suc a) ≡ true → put_page (so_far a) (suc a) (page (suc a)) ≡ so_far (suc a)
  put_changed a is =
      ap (put_page (so_far a) (suc a)) (page_is (suc a) is)
      ∙ put_joined (mixed a) (mixed_long a) (now (suc a)) (page_long files m d (suc a)) (max base (min a size)) (suc a) (omega arith) (omega (arith, inside))
      ∙ ap (λ (n : ℕ). joined n (paged (mixed a) (suc a) (now (suc a)))) more
      ∙ joined_same (max base (min (suc a) size)) _ _ (λ q some le. each q (ℕ_discrete q (suc a)))
    where
      inside : suc a ≤ size
      inside = changed_high m d (suc a) is

      more : max (max base (min a size)) (suc a) ≡ max base (min (suc a) size)
      more = omega (arith, inside)

      each : (q : ℕ) → Dec (q ≡ suc a) → paged (mixed a) (suc a) (now (suc a)) q ≡ mixed (suc a) q
      each q (yes e) = cond-true _ _ _ (eq-eqb q (suc a) e) ∙ ap now (sym e) ∙ sym (cond-true _ _ _ (le-leb q (suc a) (omega (arith, e))))
      each q (no ne) = cond-false _ _ _ (ne_eqb q (suc a) ne) ∙ sym (mixed_next a q ne)

  -- a page that is not changed is as the file has it
  same_page : (p : ℕ) → changed p ≡ false → now p ≡ file_page (files d) p
  same_page p out = by (look (fields m).changed d p) (sym (linked m d p four) ∙ out)
    where
      by : (o : Option Bytes) → is_some o ≡ false → or_file o (file_page (files d) p) ≡ file_page (files d) p
      by None e = refl
      by (Some b) e = absurd (both_ways _ e refl)

  pass_unchanged : (a : ℕ) → changed (suc a) ≡ false → so_far a ≡ so_far (suc a)
  pass_unchanged a out =
      joined_same (max base (min a size)) _ _ (λ q some le. each q (ℕ_discrete q (suc a)))
      ∙ ap (λ (n : ℕ). joined n (mixed (suc a))) (same (dec_lt base (suc a)) (dec_lt size (suc a)))
    where
      each : (q : ℕ) → Dec (q ≡ suc a) → mixed a q ≡ mixed (suc a) q
      each q (no ne) = sym (mixed_next a q ne)
      each q (yes e) =
          cond-false _ _ _ (lt-leb q a (omega (arith, e))) ∙ sym (ap (λ (x : ℕ). file_page (files d) x) (sym e) ∙ refl) ∙ sym (ap (λ (x : ℕ). now x) e ∙ same_page (suc a) out)
          ∙ sym (cond-true _ _ _ (le-leb q (suc a) (omega (arith, e))))

      same : Dec (base < suc a) → Dec (size < suc a) → max base (min a size) ≡ max base (min (suc a) size)
      same (no ge) w = omega arith
      same (yes lt) (yes out-of) = omega (arith, out-of)
      same (yes lt) (no in-it) = absurd (both_ways _ out (past (suc a) lt (omega arith)))

  walked : (a k : ℕ) → put_all (so_far a) page (above changed a k) ≡ so_far (a + k)
  unfolding above put_all
  walked a zero = ap so_far (omega arith)
  walked a (suc k) = by (changed (suc a)) refl (walked (suc a) k) ∙ ap so_far (omega arith)
    where
      by :
          (b : Bool) → changed (suc a) ≡ b → put_all (so_far (suc a)) page (above changed (suc a) k) ≡ so_far (suc a + k) →
          put_all (so_far a) page (cond b (suc a ∷ above changed (suc a) k) (above changed (suc a) k)) ≡ so_far (suc a + k)
      by true is later = ap (λ (x : Bytes). put_all x page (above changed (suc a) k)) (put_changed a is) ∙ later
      by false out later = ap (λ (x : Bytes). put_all x page (above changed (suc a) k)) (pass_unchanged a out) ∙ later

  pub changed_lands : put_all (files d) page (above changed 0 4096) ≡ (view files m).held.current d
  changed_lands =
      ap (λ (x : Bytes). put_all x page (above changed 0 4096)) (sym start) ∙ walked 0 4096
      ∙ ap (λ (n : ℕ). joined n (mixed 4096)) last
      ∙ joined_same size _ _ (λ q some le. cond-true _ _ _ (le-leb q 4096 (omega (arith, le, high))))
    where
      start : so_far 0 ≡ files d
      start =
          ap (λ (n : ℕ). joined n (mixed 0)) (omega arith)
          ∙ joined_same base _ _ (λ q some le. cond-false _ _ _ (lt-leb q 0 (omega (arith, some)))) ∙ file_whole (files d) base whole

      last : max base (min 4096 size) ≡ size
      last = omega (arith, low, high)
