-- A read that is answered well shows the page that the transaction holds: the page of the machine over
-- what the files hold.
use Rattle.std.proofs.Common.{◌≡◌, ℕ, ◌<◌, ◌≤◌, leb, [], ◌∷◌, length, get_or, drop, replicate, Some, None, Ok, Err, Option, Result, sym, refl, ap, ◌∙◌, arith, length-drop}
use Rattle.std.proofs.lemmas.List.{take-append-le}
use Rattle.std.proofs.lemmas.Bool.{eqb-true, leb-true, ltb-true, and_parts}
use Rattle.card.specs.Meaning.{Meaning, Bytes, Name}
use Rattle.card.specs.Calls.{read, Worked, part, part_of, tested, name_ok}
use Rattle.card.specs.Runs.{Act, through, Runs, end, next}
use Rattle.card.proofs.Every.{not_lawful_absent}
use Rattle.card.proofs.Tested.{lawful_read}
use Rattle.names.specs.Files.{how_many}
use Rattle.refusal.specs.declared.fault.SetFault.{SetFault}
use Rattle.refusal.specs.declared.refusals.Refusal.{Refusal}
use Rattle.pager.specs.declared.memory.Memory.{Memory}
use Rattle.pager.specs.Changed.{look}
use Rattle.pager.specs.View.{file_page, or_file, fields, page_now, view}
use Rattle.pager.proofs.Members.{page_of}
use Rattle.pager.proofs.Sizes.{page_long}
use Rattle.steps.specs.Tasks.{task, Went, ToldBytes}
use Rattle.store.specs.declared.set.Set.{Set}
use Rattle.store.specs.Calls.{or_else, told}
use Rattle.store.proofs.Kept.{passed}
use Rattle.store.proofs.Filed.{of_database}
use Rattle.sizes.specs.Fitting.{Fitting}
use Rattle.journaling.specs.Changes.{contents}
use Rattle.store.specs.Reads.{page_refusal, read_refusal, place, at_reading, file_of, files_of, FromCard, Reads, Shows}

-- what was read of a file is its page
read_page : (f : Option Bytes) (n : Name) (p : ℕ) → tested (read (place p) 512) n f ≡ None → part_of f (place p) 512 ≡ file_page (contents f) p
unfolding file_page
read_page None n p l = absurd (not_lawful_absent (name_ok n) l)
read_page (Some b) n p l =
    let lies = lawful_read (place p) 512 n b l in
    sym (take-append-le 512 (drop (place p) b) (replicate 512 0) (simp length-drop (omega (arith, lies))))

one_worked : {C : Type 0} (m : Meaning C) (c c' : C) (a : Act) → Runs m (a ∷ []) c through c' → Worked m c a.name a.op c'
one_worked m c c' a (next w end) = w

-- what the tests of a read leave
later_passed : (first later : Option Refusal) → or_else first later ≡ None → later ≡ None
later_passed None later h = h
later_passed (Some e) later h = absurd (let z : ◌≡◌ {A = ℕ} 0 1 = cc in omega arith)

pub record InRange (m : Memory) (d p long : ℕ) : Type 0 where
  pub known : d < m.count
  pub whole : long ≡ 512
  pub low : 1 ≤ p
  pub high : p ≤ get_or m.sizes d 0

pub in_range : (m : Memory) (d p long : ℕ) → page_refusal m d p long ≡ None → InRange m d p long
in_range m d p long h =
    let a = passed _ _ _ h in
    let b = passed _ _ _ a.1 in
    let c = passed _ _ _ b.1 in
    let e = and_parts (leb 1 p) (leb p (get_or m.sizes d 0)) c.0 in
    record { known = ltb-true d m.count a.0; whole = eqb-true long 512 b.0; low = leb-true 1 p e.0; high = leb-true p (get_or m.sizes d 0) e.1 }

-- a page that passed them is one that a database can have
pub page_small : (m : Memory) (d p long : ℕ) → None ≡ page_refusal m d p long → Fitting m.sizes → p ≤ 4096
page_small m d p long h fitting =
    let r = in_range m d p long (sym h) in
    let d_small : d < 4 = omega (arith, r.known, m.few) in
    omega (arith, r.high, (fitting d d_small).1)

module _ {C : Type 0} (m : Meaning C) (d p : ℕ) (s : Set C) (old : Bytes) (r : Result (Unit {0}) Refusal) (s' : Set C) (new : Bytes) where
  shown_page : InRange s.memory d p (length old) → new ≡ page_now (files_of m s) (fields s.memory) d p → new ≡ part ((view (files_of m s) s.memory).held.current d) (place p) 512
  shown_page h is =
      is ∙ sym (page_of (get_or s.memory.sizes d 0) (page_now (files_of m s) (fields s.memory) d) (page_long (files_of m s) s.memory d) p h.low h.high)

  known : InRange s.memory d p (length old) → d < how_many s.names
  known h = omega (arith, h.known, s.tied)

  from_card : d < how_many s.names → length old ≡ 512 → FromCard m d p s old r s' new → r ≡ Ok tt → new ≡ file_page (files_of m s d) p
  from_card there long f ok = by f.answer f.told f.went f.bytes
    where
      by :
          (a : Result (Unit {0}) SetFault) → r ≡ told a → Went m (task (at_reading d) (file_of s d) (read (place p) 512) ∷ []) s.card a s'.card →
          ToldBytes (m.holds s.card (file_of s d)) (place p) old a new → new ≡ file_page (files_of m s d) p
      by (Ok u) t w b =
          b ∙ ap (part_of (m.holds s.card (file_of s d)) (place p)) long
          ∙ read_page (m.holds s.card (file_of s d)) (file_of s d) p (one_worked m s.card s'.card _ w.ended).lawful
          ∙ ap (λ (b : Bytes). file_page b p) (sym (of_database m s d there))
      by (Err e) t w b = absurd (let z : ◌≡◌ {A = ℕ} 0 1 = cc in omega arith)

  pub shown :
      Reads m d p s old r s' new (read_refusal s.mode s.begun s.memory d p (length old)) (look (fields s.memory).changed d p) → Shows m d p s r new
  shown reads ok = by (read_refusal s.mode s.begun s.memory d p (length old)) refl (look (fields s.memory).changed d p) refl reads
    where
      by :
          (e : Option Refusal) → read_refusal s.mode s.begun s.memory d p (length old) ≡ e → (held : Option Bytes) → look (fields s.memory).changed d p ≡ held →
          Reads m d p s old r s' new e held → new ≡ part ((view (files_of m s) s.memory).held.current d) (place p) 512
      by (Some e) is held in_memory h = absurd (let q : r ≡ Err e = h.0 in let z : ◌≡◌ {A = ℕ} 0 1 = cc in omega arith)
      by None is (Some bytes) in_memory h =
          shown_page (in_range s.memory d p (length old) (later_passed _ _ is)) (h.2 ∙ sym (ap (λ (o : Option Bytes). or_file o (file_page (files_of m s d) p)) in_memory))
      by None is None in_memory h =
          let good = in_range s.memory d p (length old) (later_passed _ _ is) in
          shown_page good (from_card (known good) good.whole h ok ∙ sym (ap (λ (o : Option Bytes). or_file o (file_page (files_of m s d) p)) in_memory))
