-- Names in a list, tested and put one by one.
use Rattle.std.proofs.Common.{◌≡◌, ℕ, Bool, true, false, MatchBool, Decides, zero, suc, ◌+◌, ◌*◌, ◌<◌, ◌≤◌, List, [], ◌∷◌, ◌++◌, length, get_or, take, drop, sym, refl, ap, ◌∙◌, subst, append_assoc, arith, length-append, length-take, Bor}
use Rattle.std.specs.List.{AllByRecursion, AllWithin, HoldsAt, sum_by}
use Rattle.std.proofs.lemmas.List.Sums.{sum_by-cons}
use Rattle.std.proofs.lemmas.List.{take_more, take_at}
use Rattle.std.proofs.lemmas.Bool.{false≢true}
use Rattle.card.specs.Meaning.{Bytes, Name}
use Rattle.card.specs.Calls.{overwrite}
use Rattle.super_journal.specs.Super.{super_journal_bytes, Plain, LawfulNames}
use Rattle.super_journal.specs.Written.{texts}
use Rattle.journal.proofs.Pieces.{overwrite_append}
use Rattle.super_journal.proofs.Names.{super_push}

pub text_at : (rs : List (Bor Bytes)) (i : ℕ) → get_or (texts rs) i [] ≡ (get_or rs i (record { ref_ptr = (0, 0); now = [] })).now
text_at [] i = refl
text_at (r ∷ rs) zero = refl
text_at (r ∷ rs) (suc i) = text_at rs i

pub length_texts : (rs : List (Bor Bytes)) → length (texts rs) ≡ length rs
length_texts [] = refl
length_texts (r ∷ rs) = ap suc (length_texts rs)

pub all_each : (ns : List Name) → ((k : ℕ) → k < length ns → Plain (get_or ns k [])) → AllByRecursion Plain ns
all_each [] each = tt
all_each (n ∷ ns) each = (each 0 (omega arith), all_each ns (λ k lt. each (suc k) (omega arith)))

pub each_all : (ns : List Name) → AllByRecursion Plain ns → (k : ℕ) → k < length ns → Plain (get_or ns k [])
each_all [] all k lt = absurd (omega arith)
each_all (n ∷ ns) all zero lt = all.0
each_all (n ∷ ns) all (suc k) lt = each_all ns all.1 k (omega arith)

-- names tested each, where there are as many as a super-journal has
pub hold_is :
    (rs : List (Bor Bytes)) (r : Bool) → (1 ≤ length rs) × (length rs ≤ 4) →
    MatchBool r (AllWithin (λ n. Plain n.now) rs 0 (length rs)) ((k : ℕ) × (k < length rs) × HoldsAt (λ n. Plain n.now → ⊥) rs k) → Decides r (LawfulNames (texts rs))
hold_is rs true few all = (
  λ t. record {
    some = omega (arith, few, length_texts rs);
    few = omega (arith, few, length_texts rs);
    each = all_each (texts rs) (λ k lt. subst Plain (sym (text_at rs k)) (all k _ (omega arith) (omega (arith, length_texts rs))));
  },
  λ ok. refl,
)
hold_is rs false few not = (λ t. absurd (false≢true t), λ ok. absurd (not.2 _ (subst Plain (text_at rs not.0) (each_all (texts rs) ok.each not.0 (omega (arith, not.1, length_texts rs))))))

-- the names' lengths, each with its zero byte
pub length_names : (rs : List (Bor Bytes)) → sum_by (λ n. length n.now + 1) rs ≡ length (super_journal_bytes (texts rs))
unfolding super_journal_bytes
length_names [] = refl
length_names (r ∷ rs) = omega (arith, sum_by-cons (λ (n : Bor Bytes). length n.now + 1) r rs, length-append r.now (0 ∷ super_journal_bytes (texts rs)), length_names rs)

pub length_few : (ns : List Name) → AllByRecursion Plain ns → length (super_journal_bytes ns) ≤ 33 * length ns
unfolding super_journal_bytes
length_few [] all = omega arith
length_few (n ∷ ns) all = omega (arith, all.0.short, length-append n (0 ∷ super_journal_bytes ns), length_few ns all.1)

-- one more name
module _ (ns : List Name) (k : ℕ) (lt : k < length ns) where
  abbrev name : Name
  name = get_or ns k []

  pub super_more : super_journal_bytes (take (k + 1) ns) ≡ super_journal_bytes (take k ns) ++ (name ++ (0 ∷ []))
  super_more = ap super_journal_bytes (take_more ns k [] lt) ∙ super_push (take k ns) name

  pub length_more : length (super_journal_bytes (take (k + 1) ns)) ≡ length (super_journal_bytes (take k ns)) + (length name + 1)
  length_more = ap length super_more ∙ length-append (super_journal_bytes (take k ns)) (name ++ (0 ∷ [])) ∙ omega (arith, length-append name (0 ∷ []))

pub length_front : (ns : List Name) (k : ℕ) → length (super_journal_bytes (take k ns)) ≤ length (super_journal_bytes ns)
unfolding super_journal_bytes
length_front ns zero = omega arith
length_front [] (suc k) = omega arith
length_front (n ∷ ns) (suc k) = omega (arith, length-append n (0 ∷ super_journal_bytes (take k ns)), length-append n (0 ∷ super_journal_bytes ns), length_front ns k)

-- names put one after the other
pub filled_none : (s : Bytes) → overwrite s 0 (super_journal_bytes []) ≡ s
unfolding super_journal_bytes
filled_none s = refl

pub filled_more :
    (s t u : Bytes) (ns : List Name) (k : ℕ) → k < length ns → length (super_journal_bytes ns) ≤ length s → t ≡ overwrite s 0 (super_journal_bytes (take k ns)) →
    (at : ℕ) → at ≡ length (super_journal_bytes (take k ns)) → u ≡ overwrite t at (get_or ns k [] ++ (0 ∷ [])) → u ≡ overwrite s 0 (super_journal_bytes (take (k + 1) ns))
filled_more s t u ns k lt room e at is put =
    put ∙ ap (λ (x : Bytes). overwrite x at n) e ∙ overwrite_append s 0 front n at (omega (arith, is)) (omega (arith, is, below, step)) ∙ ap (overwrite s 0) (sym (super_more ns k lt))
  where
    n : Bytes
    n = get_or ns k [] ++ (0 ∷ [])

    front : Bytes
    front = super_journal_bytes (take k ns)

    below : length (super_journal_bytes (take (k + 1) ns)) ≤ length (super_journal_bytes ns)
    below = length_front ns (k + 1)

    step : length (super_journal_bytes (take (k + 1) ns)) ≡ length front + (length (get_or ns k []) + 1)
    step = length_more ns k lt

-- what stands up to the end of bytes put over others
pub overwrite_front : (s x : Bytes) (p q : ℕ) → p + length x ≡ q → p ≤ length s → take q (overwrite s p x) ≡ take p s ++ x
overwrite_front s x p q e h = ap (take q) (sym (append_assoc (take p s) x rest)) ∙ take_at (take p s ++ x) rest q (length-append (take p s) x ∙ omega (arith, length-take p s))
  where
    rest : Bytes
    rest = drop (p + length x) s

-- a name put with the zero byte that ends it
pub ended_put : (s t u : Bytes) (p : ℕ) (n : Name) → p + length n + 1 ≤ length s → t ≡ overwrite s p n → u ≡ overwrite t (p + length n) (0 ∷ []) → u ≡ overwrite s p (n ++ (0 ∷ []))
ended_put s t u p n room first second =
    second ∙ ap (λ (x : Bytes). overwrite x (p + length n) (0 ∷ [])) first ∙ overwrite_append s p n (0 ∷ []) (p + length n) refl (omega arith)
