-- A page read from a file into the middle of a buffer.
use Rattle.std.proofs.Common.{◌≡◌, ℕ, ◌+◌, ◌≤◌, [], ◌∷◌, ◌++◌, length, take, drop, Some, None, Ok, Err, Option, Result, sym, refl, ap, ◌∙◌, subst}
use borrow.Rule.Slice.PartMut.{put_mid}
use Rattle.std.proofs.lemmas.List.{take-append-drop}
use Rattle.card.specs.Meaning.{Meaning, Bytes, Name}
use Rattle.card.specs.Calls.{read, Worked, overwrite, part, part_of, tested, name_ok}
use Rattle.card.specs.Runs.{Act, through, Runs, end, next}
use Rattle.card.proofs.Every.{not_lawful_absent}
use Rattle.card.proofs.Tested.{lawful_read}
use Rattle.journal.specs.Judged.{record_place}
use Rattle.journal.proofs.Pieces.{put_overwrite, length_part}
use Rattle.refusal.specs.declared.fault.SetFault.{SetFault}
use Rattle.steps.specs.declared.site.Site.{Site}
use Rattle.steps.specs.Tasks.{task, Went, ToldBytes}
use Rattle.journaling.specs.Plan.{place}
use Rattle.journaling.specs.Changes.{contents}
use Rattle.journaling.specs.Buffers.{Copied}

-- a part put back changes nothing
pub put_back : (a k : ℕ) (xs ys : Bytes) → ys ≡ take k (drop a xs) → put_mid a k xs ys ≡ xs
put_back a k xs ys e = ap (λ (u : Bytes). take a xs ++ (u ++ drop k (drop a xs))) e ∙ ap (λ (u : Bytes). take a xs ++ u) (take-append-drop k (drop a xs)) ∙ take-append-drop a xs

-- what was read lay in the file
pub lay_in : (f : Option Bytes) (n : Name) (p k : ℕ) → tested (read p k) n f ≡ None → p + k ≤ length (contents f)
lay_in None n p k l = absurd (not_lawful_absent (name_ok n) l)
lay_in (Some b) n p k l = lawful_read p k n b l

part_contents : (f : Option Bytes) (n : Name) (p k : ℕ) → tested (read p k) n f ≡ None → part_of f p k ≡ part (contents f) p k
part_contents None n p k l = absurd (not_lawful_absent (name_ok n) l)
part_contents (Some b) n p k l = refl

pub one_worked : {C : Type 0} (m : Meaning C) (c c' : C) (a : Act) → Runs m (a ∷ []) c through c' → Worked m c a.name a.op c'
one_worked m c c' a (next w end) = w

-- a read of a page into the place of a record
pub copied_page :
    {C : Type 0} (m : Meaning C) (c c' : C) (s : Site) (n : Name) (page index start k : ℕ) (buf old new : Bytes) (r : Result (Unit {0}) SetFault) →
    start ≡ record_place index + 4 → k ≡ 512 → old ≡ take k (drop start buf) → length old ≡ 512 →
    Went m (task s n (read (place page) (length old)) ∷ []) c r c' → ToldBytes (m.holds c n) (place page) old r new →
    Copied (contents (m.holds c n)) page index buf r (put_mid start k buf new)
copied_page m c c' s n page index start k buf old new (Ok u) at size from long went told =
    let w = one_worked m c c' _ went.ended in
    let f = m.holds c n in
    let l : tested (read (place page) 512) n f ≡ None = subst (λ (x : ℕ). tested (read (place page) x) n f ≡ None) long w.lawful in
    let is : new ≡ part (contents f) (place page) 512 = told ∙ ap (part_of f (place page)) long ∙ part_contents f n (place page) 512 l in
    put_overwrite start k buf new (part (contents f) (place page) 512) is (size ∙ sym (length_part (contents f) (place page) 512 (lay_in f n (place page) 512 l)))
    ∙ ap (λ (x : ℕ). overwrite buf x (part (contents f) (place page) 512)) at
copied_page m c c' s n page index start k buf old new (Err f) at size from long went told = put_back start k buf new (told ∙ from)
