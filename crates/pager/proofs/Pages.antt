-- Contents made of pages: one page put in the place of another, or after the last.
use Rattle.std.proofs.Common.{◌≡◌, ℕ, zero, suc, ◌+◌, ◌-◌, ◌*◌, ◌<◌, ◌≤◌, max, cond, eqb, ◌++◌, length, take, drop, sym, refl, ap, ◌∙◌, ap₂, arith, length-append, length-drop, length-take}
use native.Mathlib.Decide.{ℕ_discrete, dec_lt}
use lib.ListN.{length-replicate}
use Rattle.std.proofs.lemmas.List.{append_assoc, append-nil, take_at, drop_all, take_all, take-append-le, drop-append-le}
use Rattle.std.proofs.lemmas.Bool.{eq-eqb, ne_eqb, cond-true, cond-false}
use Rattle.card.specs.Meaning.{Bytes}
use Rattle.card.specs.Calls.{overwrite}
use Rattle.pager.specs.Machine.{put_page}
use Rattle.pager.specs.View.{joined, file_page}

pub length_file_page : (file : Bytes) (p : ℕ) → length (file_page file p) ≡ 512
unfolding file_page
length_file_page file p = simp (length-take, length-append, length-drop, length-replicate) (omega arith)

-- contents with the same pages
pub joined_same : (n : ℕ) (f g : ℕ → Bytes) → ((p : ℕ) → 0 < p → p ≤ n → f p ≡ g p) → joined n f ≡ joined n g
unfolding joined
joined_same zero f g same = refl
joined_same (suc n) f g same = ap₂ (λ (x y : Bytes). x ++ y) (joined_same n f g (λ p a b. same p a (omega arith))) (same (suc n) (omega arith) (omega arith))

pub length_joined : (n : ℕ) (f : ℕ → Bytes) → ((p : ℕ) → length (f p) ≡ 512) → length (joined n f) ≡ n * 512
unfolding joined
length_joined zero f long = refl
length_joined (suc n) f long = length-append (joined n f) (f (suc n)) ∙ omega (arith, length_joined n f long, long (suc n))

-- bytes put over the end, over the last part, and over what stands before the last part
over_end : (a b : Bytes) (k : ℕ) → length a ≡ k → overwrite a k b ≡ a ++ b
over_end a b k e =
    ap₂ (λ (x y : Bytes). x ++ (b ++ y)) (take_all k a (omega arith)) (drop_all (k + length b) a (omega arith)) ∙ ap (λ (x : Bytes). a ++ x) (append-nil b)

over_last : (a b c : Bytes) (k : ℕ) → length a ≡ k → length b ≡ length c → overwrite (a ++ c) k b ≡ a ++ b
over_last a b c k e same =
    ap₂ (λ (x y : Bytes). x ++ (b ++ y)) (take_at a c k e) (drop_all (k + length b) (a ++ c) (simp length-append (omega arith))) ∙ ap (λ (x : Bytes). a ++ x) (append-nil b)

over_before : (a b c : Bytes) (k : ℕ) → k + length b ≤ length a → overwrite (a ++ c) k b ≡ overwrite a k b ++ c
over_before a b c k le =
    ap₂ (λ (x y : Bytes). x ++ (b ++ y)) (take-append-le k a c (omega arith)) (drop-append-le (k + length b) a c le)
    ∙ ap (λ (x : Bytes). take k a ++ x) (sym (append_assoc b (drop (k + length b) a) c))
    ∙ sym (append_assoc (take k a) (b ++ drop (k + length b) a) c)

-- a page among others
abbrev pub paged : (ℕ → Bytes) → ℕ → Bytes → ℕ → Bytes
paged f p bytes q = cond (eqb q p) bytes (f q)

paged_other : (f : ℕ → Bytes) (p : ℕ) (bytes : Bytes) (n : ℕ) → n < p → joined n (paged f p bytes) ≡ joined n f
paged_other f p bytes n lt = joined_same n _ _ (λ q a b. cond-false _ _ _ (ne_eqb q p (λ e. omega arith)))

module _ (f : ℕ → Bytes) (long : (p : ℕ) → length (f p) ≡ 512) (bytes : Bytes) (whole : length bytes ≡ 512) where
  -- a page is replaced
  put_inside : (n p : ℕ) → 0 < p → p ≤ n → put_page (joined n f) p bytes ≡ joined n (paged f p bytes)
  unfolding joined
  put_inside zero p low high = absurd (omega arith)
  put_inside (suc n) p low high = by (ℕ_discrete p (suc n)) (put_inside n p low)
    where
      by : Dec (p ≡ suc n) → (p ≤ n → put_page (joined n f) p bytes ≡ joined n (paged f p bytes)) → put_page (joined n f ++ f (suc n)) p bytes ≡ joined n (paged f p bytes) ++ paged f p bytes (suc n)
      by (yes e) earlier =
          over_last (joined n f) bytes (f (suc n)) ((p - 1) * 512) (omega (arith, length_joined n f long)) (whole ∙ sym (long (suc n)))
          ∙ ap₂ (λ (x y : Bytes). x ++ y) (sym (paged_other f p bytes n (omega arith))) (sym (cond-true _ _ _ (eq-eqb (suc n) p (sym e))))
      by (no ne) earlier =
          over_before (joined n f) bytes (f (suc n)) ((p - 1) * 512) (omega (arith, length_joined n f long))
          ∙ ap₂ (λ (x y : Bytes). x ++ y) (earlier (omega arith)) (sym (cond-false _ _ _ (ne_eqb (suc n) p (λ e. ne (sym e)))))

  -- a page is added
  put_next : (n p : ℕ) → p ≡ suc n → put_page (joined n f) p bytes ≡ joined p (paged f p bytes)
  unfolding joined
  put_next n p e =
      over_end (joined n f) bytes ((p - 1) * 512) (omega (arith, length_joined n f long))
      ∙ ap₂ (λ (x y : Bytes). x ++ y) (sym (paged_other f p bytes n (omega arith))) (sym (cond-true _ _ _ (eq-eqb (suc n) p (sym e))))
      ∙ ap (λ (k : ℕ). joined k (paged f p bytes)) (sym e)

  pub put_joined : (n p : ℕ) → 0 < p → p ≤ suc n → put_page (joined n f) p bytes ≡ joined (max n p) (paged f p bytes)
  put_joined n p low high = by (dec_lt n p)
    where
      by : Dec (n < p) → put_page (joined n f) p bytes ≡ joined (max n p) (paged f p bytes)
      by (yes lt) = let e : p ≡ suc n = omega arith in let m : p ≡ max n p = omega arith in put_next n p e ∙ ap (λ (k : ℕ). joined k (paged f p bytes)) m
      by (no ge) = let m : n ≡ max n p = omega arith in put_inside n p low (omega arith) ∙ ap (λ (k : ℕ). joined k (paged f p bytes)) m
