-- How many pages are in the sets of all databases, once a page is put into one of them.
use Rattle.std.proofs.Common.{◌≡◌, ℕ, zero, suc, ◌+◌, ◌<◌, ◌≤◌, Bool, true, false, cond, leb, sym, refl, ap, ◌∙◌, subst, ap₂, arith}
use native.Mathlib.Decide.{ℕ_discrete}
use Rattle.std.proofs.lemmas.Bool.{cond-true, cond-false, eq-eqb, ne_eqb, leb-true, le-leb, and_parts, and_from}
use Rattle.page_map.specs.Sets.{PageSet, page_limit, is_page, including, one_if, counted, total}

counted_same : (s t : PageSet) (n : ℕ) → ((q : ℕ) → q ≤ n → s q ≡ t q) → counted s n ≡ counted t n
unfolding counted
counted_same s t zero same = refl
counted_same s t (suc n) same = ap₂ (λ (x y : ℕ). x + y) (counted_same s t n (λ q le. same q (omega arith))) (ap one_if (same (suc n) (omega arith)))

-- one more, unless it was in
abbrev pub grows : Bool → ℕ → ℕ
grows was n = cond was n (n + 1)

counted_with : (s t : PageSet) (p n : ℕ) → 0 < p → p ≤ n → ((q : ℕ) → t q ≡ including s p q) → counted t n ≡ grows (s p) (counted s n)
unfolding counted
counted_with s t p zero low high with-p = absurd (omega arith)
counted_with s t p (suc n) low high with-p = by (ℕ_discrete p (suc n)) (counted_with s t p n low)
  where
    far : (q : ℕ) → (q ≡ p → ⊥) → t q ≡ s q
    far q ne = with-p q ∙ cond-false _ _ _ (ne_eqb q p ne)

    shift : (b : Bool) (x y : ℕ) → grows b x + y ≡ grows b (x + y)
    shift true x y = refl
    shift false x y = omega arith

    here : (b : Bool) (x : ℕ) → x + 1 ≡ grows b (x + one_if b)
    here true x = refl
    here false x = omega arith

    by : Dec (p ≡ suc n) → (p ≤ n → ((q : ℕ) → t q ≡ including s p q) → counted t n ≡ grows (s p) (counted s n)) → counted t n + one_if (t (suc n)) ≡ grows (s p) (counted s n + one_if (s (suc n)))
    by (yes e) earlier =
        ap₂ (λ (x y : ℕ). x + y) (counted_same t s n (λ q le. far q (λ z. omega arith))) (ap one_if (with-p (suc n) ∙ cond-true _ _ _ (eq-eqb (suc n) p (sym e))))
        ∙ here (s p) (counted s n)
        ∙ ap (λ (q : ℕ). grows (s p) (counted s n + one_if (s q))) e
    by (no ne) earlier =
        ap₂ (λ (x y : ℕ). x + y) (earlier (omega arith) with-p) (ap one_if (far (suc n) (λ z. ne (sym z))))
        ∙ shift (s p) (counted s n) (one_if (s (suc n)))

total_far : (f g : ℕ → PageSet) (d : ℕ) → ((k : ℕ) → (k ≡ d → ⊥) → g k ≡ f k) → (n : ℕ) → n ≤ d → total g n ≡ total f n
unfolding total
total_far f g d others zero le = refl
total_far f g d others (suc n) le =
    ap₂ (λ (x y : ℕ). x + y) (total_far f g d others n (omega arith)) (ap (λ (s : PageSet). counted s page_limit) (others n (λ z. omega arith)))

pub total_with :
    (f g : ℕ → PageSet) (d p : ℕ) → is_page p ≡ true → ((q : ℕ) → g d q ≡ including (f d) p q) → ((k : ℕ) → (k ≡ d → ⊥) → g k ≡ f k) →
    (n : ℕ) → d < n → total g n ≡ grows (f d p) (total f n)
unfolding total
total_with f g d p is with-p others zero lt = absurd (omega arith)
total_with f g d p is with-p others (suc n) lt = by (ℕ_discrete d n) (total_with f g d p is with-p others n)
  where
    onto : (b : Bool) (x y : ℕ) → x + grows b y ≡ grows b (x + y)
    onto true x y = refl
    onto false x y = omega arith

    over : (b : Bool) (x y : ℕ) → grows b x + y ≡ grows b (x + y)
    over true x y = refl
    over false x y = omega arith

    own : counted (g d) page_limit ≡ grows (f d p) (counted (f d) page_limit)
    own = counted_with (f d) (g d) p page_limit (omega (arith, leb-true 1 p (and_parts (leb 1 p) (leb p page_limit) is).0)) (leb-true p page_limit (and_parts (leb 1 p) (leb p page_limit) is).1) with-p

    by : Dec (d ≡ n) → (d < n → total g n ≡ grows (f d p) (total f n)) → total g n + counted (g n) page_limit ≡ grows (f d p) (total f n + counted (f n) page_limit)
    by (yes e) earlier =
        ap₂ (λ (x y : ℕ). x + y) (total_far f g d others n (omega arith)) (subst (λ (k : ℕ). counted (g k) page_limit ≡ grows (f d p) (counted (f k) page_limit)) e own)
        ∙ onto (f d p) (total f n) (counted (f n) page_limit)
    by (no ne) earlier =
        ap₂ (λ (x y : ℕ). x + y) (earlier (omega arith)) (ap (λ (s : PageSet). counted s page_limit) (others n (λ z. ne (sym z))))
        ∙ over (f d p) (total f n) (counted (f n) page_limit)

counted_none : (s : PageSet) (n : ℕ) → ((q : ℕ) → 1 ≤ q → q ≤ n → s q ≡ false) → counted s n ≡ 0
unfolding counted
counted_none s zero none = refl
counted_none s (suc n) none = omega (arith, counted_none s n (λ q low high. none q low (omega arith)), ap one_if (none (suc n) (omega arith) (omega arith)))

-- where no page that a database can have is in, none is counted
pub total_free : (f : ℕ → PageSet) (n : ℕ) → ((d p : ℕ) → d < n → is_page p ≡ true → f d p ≡ false) → total f n ≡ 0
unfolding total
total_free f zero none = refl
total_free f (suc n) none =
    omega (arith, total_free f n (λ d p lt is. none d p (omega arith) is), counted_none (f n) page_limit (λ q low high. none n q (omega arith) (and_from _ _ (le-leb 1 q low) (le-leb q page_limit high))))

pub total_none : (f : ℕ → PageSet) (n : ℕ) → ((d p : ℕ) → f d p ≡ false) → total f n ≡ 0
total_none f n none = total_free f n (λ d p lt is. none d p)

-- one database has no more than all
pub total_part : (f : ℕ → PageSet) (d n : ℕ) → d < n → counted (f d) page_limit ≤ total f n
unfolding total
total_part f d zero lt = absurd (omega arith)
total_part f d (suc n) lt = by (ℕ_discrete d n) (total_part f d n)
  where
    by : Dec (d ≡ n) → (d < n → counted (f d) page_limit ≤ total f n) → counted (f d) page_limit ≤ total f n + counted (f n) page_limit
    by (yes e) earlier = omega (arith, ap (λ (k : ℕ). counted (f k) page_limit) e)
    by (no ne) earlier = omega (arith, earlier (omega arith))
