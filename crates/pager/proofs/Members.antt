-- What a sound memory says of a changed page: its database is there and has the page, and the machine holds it.
use Rattle.std.proofs.Common.{◌≡◌, ℕ, zero, suc, ◌-◌, ◌*◌, ◌<◌, ◌≤◌, true, false, ◌⊎◌, ◌++◌, length, get_or, take, drop, is_some, IfSome, Some, None, Option, Bor, sym, refl, ap, ◌∙◌, inl, inr, arith, length-drop}
use mathlib.Core.Bool.{Bool-set}
use mathlib.Core.Logic.{∥∥₁_elim}
use native.Mathlib.Decide.{ℕ_discrete, dec_lt}
use Rattle.std.specs.Option.{option_map}
use Rattle.std.proofs.lemmas.List.{drop_at, take_all, take-append-le, drop-append-le}
use Rattle.std.proofs.lemmas.Bool.{cases_Bool, le-leb, leb-true, lt-ltb, ltb-true, both_ways}
use Rattle.card.specs.Meaning.{Bytes}
use Rattle.card.specs.Calls.{part}
use Rattle.page_map.specs.Sets.{PageSet, counted}
use Rattle.page_map.proofs.Totals.{total_none, total_part}
use Rattle.pager.specs.declared.memory.Memory.{Memory}
use Rattle.pager.specs.Changed.{look}
use Rattle.pager.specs.Sound.{map_of}
use Rattle.pager.specs.View.{joined, file_page, or_file, fields, page_now, view}
use Rattle.pager.proofs.Counted.{none_past}
use Rattle.pager.proofs.Keeps.{linked}
use Rattle.pager.proofs.Pages.{length_joined}
use Rattle.pager.proofs.Sizes.{page_long}

module _ (m : Memory) (d p : ℕ) (is : map_of m.maps d p ≡ true) where
  pub changed_known : d < m.count
  changed_known = ltb-true d m.count (∥∥₁_elim m.sound (Bool-set _ _) (λ s. lt-ltb d m.count (s.within d p is).0))

  pub changed_low : 1 ≤ p
  changed_low = leb-true 1 p (∥∥₁_elim m.sound (Bool-set _ _) (λ s. le-leb 1 p (s.within d p is).1))

  pub changed_high : p ≤ get_or m.sizes d 0
  changed_high = leb-true p (get_or m.sizes d 0) (∥∥₁_elim m.sound (Bool-set _ _) (λ s. le-leb p (get_or m.sizes d 0) (s.within d p is).2))

-- of a database that is not there no page is changed
pub unchanged : (m : Memory) (d : ℕ) → m.count ≤ d → (p : ℕ) → map_of m.maps d p ≡ false
unchanged m d past p = by (cases_Bool (map_of m.maps d p))
  where
    by : (map_of m.maps d p ≡ true) ⊎ (map_of m.maps d p ≡ false) → map_of m.maps d p ≡ false
    by (inr out) = out
    by (inl is) = absurd (omega (arith, changed_known m d p is, past))

pub none_changed : (m : Memory) (d : ℕ) → m.count ≤ d → counted (map_of m.maps d) 4096 ≡ 0
none_changed m d past = omega (arith, total_part same 0 4 (omega arith), total_none same 4 (λ k p. unchanged m d past p))
  where
    same : ℕ → PageSet
    same k = map_of m.maps d

-- the maps and the store agree on each page, of whatever database
pub changed_is : (m : Memory) (d p : ℕ) → map_of m.maps d p ≡ is_some (look (fields m).changed d p)
changed_is m d p = by (dec_lt d 4)
  where
    by : Dec (d < 4) → map_of m.maps d p ≡ is_some (look (fields m).changed d p)
    by (yes lt) = linked m d p lt
    by (no ge) = unchanged m d (omega (arith, m.few, ge)) p ∙ sym (none_past m d p (omega arith))

pub none_given : (m : Memory) (d p : ℕ) (o : Option (Bor Bytes)) → m.count ≤ d → option_map (λ x. x.now) o ≡ look (fields m).changed d p → o ≡ None
none_given m d p None past e = refl
none_given m d p (Some x) past e = absurd (both_ways _ (unchanged m d past p) (changed_is m d p ∙ ap is_some (sym e)))

-- the page p of pages one after the other
pub page_of : (n : ℕ) (f : ℕ → Bytes) → ((p : ℕ) → length (f p) ≡ 512) → (p : ℕ) → 1 ≤ p → p ≤ n → part (joined n f) ((p - 1) * 512) 512 ≡ f p
unfolding joined
page_of zero f long p low high = absurd (omega arith)
page_of (suc n) f long p low high = by (ℕ_discrete p (suc n)) (page_of n f long p low)
  where
    by : Dec (p ≡ suc n) → (p ≤ n → part (joined n f) ((p - 1) * 512) 512 ≡ f p) → part (joined n f ++ f (suc n)) ((p - 1) * 512) 512 ≡ f p
    by (yes e) earlier =
        ap (take 512) (drop_at (joined n f) (f (suc n)) ((p - 1) * 512) (length_joined n f long ∙ omega arith)) ∙ take_all 512 (f (suc n)) (omega (arith, long (suc n))) ∙ ap f (sym e)
    by (no ne) earlier =
        ap (take 512) (drop-append-le ((p - 1) * 512) (joined n f) (f (suc n)) (omega (arith, length_joined n f long)))
        ∙ take-append-le 512 (drop ((p - 1) * 512) (joined n f)) (f (suc n)) (simp length-drop (omega (arith, length_joined n f long)))
        ∙ earlier (omega arith)

-- a changed page is what the store has of it
pub changed_page :
    (files : ℕ → Bytes) (m : Memory) (d p : ℕ) (b : Bytes) → map_of m.maps d p ≡ true → look (fields m).changed d p ≡ Some b →
    part ((view files m).held.current d) ((p - 1) * 512) 512 ≡ b
changed_page files m d p b is e =
    page_of (get_or m.sizes d 0) (page_now files (fields m) d) (page_long files m d) p (changed_low m d p is) (changed_high m d p is)
    ∙ ap (λ (o : Option Bytes). or_file o (file_page (files d) p)) e

-- a page that the store gives is what the machine holds of it
pub given_page :
    (files : ℕ → Bytes) (m : Memory) (d p : ℕ) (o : Option (Bor Bytes)) → option_map (λ x. x.now) o ≡ look (fields m).changed d p →
    IfSome o (λ x. x.now ≡ part ((view files m).held.current d) ((p - 1) * 512) 512)
given_page files m d p None e = tt
given_page files m d p (Some x) e = sym (changed_page files m d p x.now (changed_is m d p ∙ ap is_some (sym e)) (sym e))
