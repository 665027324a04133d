-- What it tells of a call that it passes the tests, and of its file.
use Rattle.std.proofs.Common.{◌≡◌, ℕ, ◌+◌, ◌≤◌, Bool, true, false, cond, leb, length, Some, None, Option, refl}
use Rattle.std.proofs.lemmas.Bool.{leb-true, false≢true}
use Rattle.card.specs.declared.fault.Cause.{Cause}
use Rattle.card.specs.Meaning.{Bytes, Name}
use Rattle.card.specs.Calls.{Op, read, write, set_length, test, tested, after_name, in_range, name_ok, file_limit}
use Rattle.card.proofs.Every.{some_none}

pub passed_name : (b : Bool) (x : Option Cause) → after_name b x ≡ None → (b ≡ true) × (x ≡ None)
passed_name true x e = (refl, e)
passed_name false x e = absurd (some_none e)

passed_range : (b : Bool) → in_range b ≡ None → b ≡ true
passed_range true e = refl
passed_range false e = absurd (some_none e)

pub passed_both : (a b : Bool) → cond a b false ≡ true → (a ≡ true) × (b ≡ true)
passed_both true b e = (refl, e)
passed_both false b e = absurd (false≢true e)

pub lawful_name : (op : Op) (n : Name) (f : Option Bytes) → tested op n f ≡ None → name_ok n ≡ true
lawful_name op n f t = (passed_name (name_ok n) (test op f) t).0

pub lawful_read : (place count : ℕ) (n : Name) (b : Bytes) → tested (read place count) n (Some b) ≡ None → place + count ≤ length b
lawful_read place count n b t = leb-true (place + count) (length b) (passed_range _ (passed_name (name_ok n) (test (read place count) (Some b)) t).1)

pub lawful_write : (place : ℕ) (bytes : Bytes) (n : Name) (b : Bytes) → tested (write place bytes) n (Some b) ≡ None → (place ≤ length b) × (place + length bytes ≤ file_limit)
lawful_write place bytes n b t =
    let both = passed_both (leb place (length b)) (leb (place + length bytes) file_limit) (passed_range _ (passed_name (name_ok n) (test (write place bytes) (Some b)) t).1) in
    (leb-true place (length b) both.0, leb-true (place + length bytes) file_limit both.1)

pub lawful_set_length : (k : ℕ) (n : Name) (b : Bytes) → tested (set_length k) n (Some b) ≡ None → k ≤ file_limit
lawful_set_length k n b t = leb-true k file_limit (passed_range _ (passed_name (name_ok n) (test (set_length k) (Some b)) t).1)
