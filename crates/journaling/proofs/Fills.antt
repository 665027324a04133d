-- A journal that is filled for a commit is never refused: its pages are lawful, and the buffer has room.
use Rattle.std.proofs.Common.{◌≡◌, ℕ, zero, suc, ◌+◌, ◌-◌, ◌≤◌, Bool, true, false, cond, ◌&&◌, ltb, leb, List, [], ◌∷◌, length, Some, None, Ok, Err, Option, Result, refl, ◌∙◌, arith}
use Rattle.std.specs.Option.{ForSome, option_map}
use Rattle.std.specs.Result.{IsOk}
use Rattle.std.proofs.lemmas.Bool.{and_from, and_parts, both_ways, le-leb, lt-ltb, leb-true, ltb-true, cond-true}
use Rattle.card.specs.Meaning.{Bytes, Name}
use Rattle.journal.specs.Format.{super_bytes}
use Rattle.journal.proofs.Encoded.{length_super}
use Rattle.journal_writer.specs.declared.writer.Unfit.{Unfit}
use Rattle.journal_writer.specs.declared.writer.Unfit.TheVariants.{Limit, Room}
use Rattle.journal_writer.specs.Written.{Filled, pages_lawful, given_lawful, ascend}
use Rattle.names.specs.declared.file_name.FileName.{FileName}
use Rattle.page_map.specs.Sets.{PageSet, counted}
use Rattle.page_map.specs.Listed.{above}
use Rattle.journaling.specs.Changes.{recorded}
use Rattle.journaling.proofs.Recorded.{recorded_few}

-- what ascends from past a page ascends from past the one before it
ascend_lower : (size after : ℕ) (list : List ℕ) → ascend size (suc after) list ≡ true → ascend size after list ≡ true
unfolding ascend
ascend_lower size after [] e = refl
ascend_lower size after (p ∷ ps) e =
    let parts = and_parts (ltb (suc after) p) (leb p size && ascend size p ps) e in
    and_from (ltb after p) (leb p size && ascend size p ps) (lt-ltb after p (omega (arith, ltb-true (suc after) p parts.0))) parts.1

-- the pages of a set ascend
above_ascend : (s : PageSet) (size after k : ℕ) → after + k ≤ size → ascend size after (above s after k) ≡ true
unfolding above ascend
above_ascend s size after zero le = refl
above_ascend s size after (suc k) le = by (s (suc after)) (above_ascend s size (suc after) k (omega arith))
  where
    by : (b : Bool) → ascend size (suc after) (above s (suc after) k) ≡ true → ascend size after (cond b (suc after ∷ above s (suc after) k) (above s (suc after) k)) ≡ true
    by true more = and_from _ _ (lt-ltb after (suc after) (omega arith)) (and_from _ _ (le-leb (suc after) size (omega arith)) more)
    by false more = ascend_lower size after (above s (suc after) k) more

pub recorded_lawful : (s : PageSet) (size : ℕ) → 1 ≤ size → size ≤ 4096 → counted s 4096 ≤ 32 → pages_lawful size (recorded s size) ≡ true
unfolding recorded ascend
recorded_lawful s size some small few =
    and_from _ _ (le-leb 1 (suc (length (above s 1 (size - 1)))) (omega arith))
    (and_from _ _ (le-leb (suc (length (above s 1 (size - 1)))) 33 (recorded_few s size some small few))
    (and_from _ _ refl (and_from _ _ refl (and_from _ _ (le-leb 1 size some) (above_ascend s size 1 (size - 1) (omega arith))))))

-- a file's name that is not empty is a lawful one
pub super_lawful : (super : Option FileName) → ForSome super (λ name. 1 ≤ length name.bytes.items) → given_lawful (option_map (λ name. name.bytes.items) super) ≡ true
super_lawful None some = refl
super_lawful (Some name) some =
    let n : Name = name.bytes.items in
    cond-true (leb 1 (length n)) _ _ (le-leb 1 (length n) (some name refl)) ∙ le-leb (length n) 32 name.short

-- a lawful name makes a short record
short_super : (super : Option Name) → given_lawful super ≡ true → length (super_bytes super) ≤ 52
unfolding super_bytes
short_super None lawful = omega arith
short_super (Some n) lawful = omega (arith, length_super n, leb-true (length n) 32 (at_most (leb 1 (length n)) (leb (length n) 32) lawful))
  where
    at_most : (a b : Bool) → cond a b false ≡ true → b ≡ true
    at_most true b is = is
    at_most false b is = absurd (both_ways false refl is)

pub not_refused :
    (old new : Bytes) (nonce size : ℕ) (pages : List ℕ) (super : Option Name) (r : Result ℕ Unfit) → 1 ≤ size → size ≤ 4096 → pages_lawful size pages ≡ true →
    given_lawful super ≡ true → length old ≡ 17724 → Filled old nonce size pages super r new → IsOk r
not_refused old new nonce size pages super (Ok n) some small lawful named long f = refl
not_refused old new nonce size pages super (Err Limit) some small lawful named long f =
    absurd (both_ways _ f.0 (and_from _ _ (and_from _ _ (le-leb 1 size some) (le-leb size 4096 small)) (and_from _ _ lawful named)))
not_refused old new nonce size pages super (Err Room) some small lawful named long f =
    let few = leb-true (length pages) 33 (and_parts _ _ (and_parts (leb 1 (length pages)) _ lawful).1).0 in
    absurd (omega (arith, f.1, few, long, short_super super named))
