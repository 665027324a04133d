-- The sizes of a memory are those of the machine that it is: so a write of a page makes a database as
-- large as the page's number asks, and no other.
use Rattle.std.proofs.Common.{◌≡◌, ℕ, ◌+◌, ◌-◌, ◌*◌, ◌/◌, ◌<◌, ◌≤◌, max, cond, eqb, List, [], length, get_or, Some, None, Option, refl, ap, ◌∙◌, arith}
use Rattle.std.proofs.Math.Nat.{mul-div_cancel}
use Rattle.std.proofs.lemmas.Bool.{cond-true, cond-false, eq-eqb, ne_eqb}
use Rattle.card.specs.Meaning.{Bytes}
use Rattle.card.proofs.Contents.{length_overwrite}
use Rattle.pager.specs.declared.memory.Memory.{Memory}
use Rattle.pager.specs.Changed.{look}
use Rattle.pager.specs.Machine.{Machine, size_of, put, put_page, written}
use Rattle.pager.specs.View.{file_page, or_file, fields, page_now, view}
use Rattle.pager.proofs.Keeps.{look_long}
use Rattle.pager.proofs.Pages.{length_file_page, length_joined}

-- a page now has 512 bytes
pub page_long : (files : ℕ → Bytes) (m : Memory) (d p : ℕ) → length (page_now files (fields m) d p) ≡ 512
page_long files m d p = by (look (fields m).changed d p) (look_long m.changed.rows.items m.changed.whole d p)
  where
    by : (o : Option Bytes) → ((b : Bytes) → o ≡ Some b → length b ≡ 512) → length (or_file o (file_page (files d) p)) ≡ 512
    by None long = length_file_page (files d) p
    by (Some b) long = long b refl

-- a database holds as many pages as its size says
pub held_long : (files : ℕ → Bytes) (m : Memory) (d : ℕ) → length ((view files m).held.current d) ≡ get_or m.sizes d 0 * 512
held_long files m d = length_joined (get_or m.sizes d 0) (page_now files (fields m) d) (page_long files m d)

pub held_size : (files : ℕ → Bytes) (m : Memory) (d : ℕ) → size_of ((view files m).held.current d) ≡ get_or m.sizes d 0
held_size files m d = ap (λ (n : ℕ). n / 512) (held_long files m d) ∙ mul-div_cancel (get_or m.sizes d 0) (omega arith)

module _ (m n : Memory) (d p : ℕ) (bytes : Bytes) (done : (files : ℕ → List ℕ) → view files n ≡ written d p bytes (view files m)) where
  none : ℕ → List ℕ
  none k = []

  current : (k : ℕ) → length ((view none n).held.current k) ≡ length (cond (eqb k d) (put_page ((view none m).held.current d) p bytes) ((view none m).held.current k))
  unfolding put
  current k = ap (λ (x : Machine). length (x.held.current k)) (done none)

  -- the database has the page then
  pub size_written : 0 < p → p ≤ get_or m.sizes d 0 + 1 → length bytes ≡ 512 → get_or n.sizes d 0 ≡ max (get_or m.sizes d 0) p
  size_written low high long =
      let content : Bytes = (view none m).held.current d in
      let before : length content ≡ get_or m.sizes d 0 * 512 = held_long none m d in
      let after : length ((view none n).held.current d) ≡ get_or n.sizes d 0 * 512 = held_long none n d in
      let put-long : length (put_page content p bytes) ≡ max (length content) ((p - 1) * 512 + length bytes) = length_overwrite content ((p - 1) * 512) bytes (omega arith) in
      let same : length ((view none n).held.current d) ≡ length (put_page content p bytes) =
      current d ∙ ap length (cond-true (eqb d d) (put_page content p bytes) content (eq-eqb d d refl)) in
      omega arith

  -- the others have the sizes that they had
  pub size_other : (k : ℕ) → (k ≡ d → ⊥) → get_or n.sizes k 0 ≡ get_or m.sizes k 0
  size_other k ne =
      let before : length ((view none m).held.current k) ≡ get_or m.sizes k 0 * 512 = held_long none m k in
      let after : length ((view none n).held.current k) ≡ get_or n.sizes k 0 * 512 = held_long none n k in
      let same : length ((view none n).held.current k) ≡ length ((view none m).held.current k) =
      current k ∙ ap length (cond-false (eqb k d) (put_page ((view none m).held.current d) p bytes) ((view none m).held.current k) (ne_eqb k d ne)) in
      omega arith
