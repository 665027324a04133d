-- Records made around pages that lie in a buffer, and the whole journal that they become.
use Rattle.std.proofs.Common.{◌≡◌, ℕ, suc, ◌+◌, ◌-◌, ◌*◌, ◌<◌, ◌≤◌, List, [], ◌∷◌, ◌++◌, length, get_or, take, drop, sym, refl, ap, ◌∙◌, ap₂, append_assoc, append-nil, arith, length-append, length-take}
use Rattle.std.proofs.lemmas.List.{take-append-drop, drop-drop, drop_at, take_at, take_more, take_all, take-append-le, take-take}
use Rattle.card.specs.Meaning.{Bytes}
use Rattle.card.specs.Calls.{overwrite, part}
use Rattle.card.specs.Numbers.{number_bytes}
use Rattle.card.proofs.Contents.{length_overwrite}
use Rattle.journal.specs.Format.{PageRecord, record_bytes, records_bytes, checksum}
use Rattle.journal.specs.Judged.{record_place, page_bytes}
use Rattle.journal_writer.specs.Written.{originals}
use Rattle.journal.proofs.Pieces.{length_part, overwrite_append}
use Rattle.journal_writer.proofs.Filled.{record_filled}
use Rattle.journal.proofs.Encoded.{length_record}

-- what lies past bytes that were put is as it was
pub overwrite_past : (s : Bytes) (p : ℕ) (x : Bytes) (i : ℕ) → p ≤ length s → p + length x ≤ i → drop i (overwrite s p x) ≡ drop i s
overwrite_past s p x i h past =
    ap (λ (m : ℕ). drop m whole) split ∙ sym (drop-drop (i - (p + length x)) (p + length x) whole)
    ∙ ap (drop (i - (p + length x))) (ap (drop (p + length x)) (sym (append_assoc (take p s) x (drop (p + length x) s))) ∙ drop_at (take p s ++ x) (drop (p + length x) s) (p + length x) long)
    ∙ drop-drop (i - (p + length x)) (p + length x) s ∙ ap (λ (m : ℕ). drop m s) (sym split)
  where
    whole : Bytes
    whole = overwrite s p x

    split : i ≡ p + length x + (i - (p + length x))
    split = omega arith

    long : length (take p s ++ x) ≡ p + length x
    long = length-append (take p s) x ∙ omega (arith, length-take p s)

-- bytes put where they lie
put_itself : (s : Bytes) (q n : ℕ) → q + n ≤ length s → overwrite s q (part s q n) ≡ s
put_itself s q n h =
    ap (λ (t : Bytes). take q s ++ (take n (drop q s) ++ t)) (ap (λ (m : ℕ). drop (q + m) s) (length_part s q n h) ∙ sym (drop-drop n q s))
    ∙ ap (λ (t : Bytes). take q s ++ t) (take-append-drop n (drop q s)) ∙ take-append-drop q s

-- a number before a page and a checksum past it make a record of it
pub record_sealed :
    (s : Bytes) (k n page : ℕ) → record_place k + 520 ≤ length s →
    overwrite (overwrite s (record_place k) (number_bytes page)) (record_place k + 516) (number_bytes (checksum n (page_bytes s k)))
    ≡ overwrite s (record_place k) (record_bytes n (record { page = page; bytes = page_bytes s k }))
record_sealed s k n page h =
    ap (λ (t : Bytes). overwrite t (p + 516) (number_bytes (checksum n bytes))) (sym (put_itself t₁ (p + 4) 512 (omega (arith, long))) ∙ ap (λ (b : Bytes). overwrite t₁ (p + 4) b) same)
    ∙ record_filled s p n page bytes (length_part s (p + 4) 512 (omega arith)) (omega arith)
  where
    p : ℕ
    p = record_place k

    bytes : Bytes
    bytes = page_bytes s k

    t₁ : Bytes
    t₁ = overwrite s p (number_bytes page)

    long : length t₁ ≡ length s
    long = omega (arith, length_overwrite s p (number_bytes page) (omega arith))

    same : part t₁ (p + 4) 512 ≡ bytes
    same = ap (take 512) (overwrite_past s p (number_bytes page) (p + 4) (omega arith) (omega arith))

-- bytes that are put over the whole of others leave nothing of them
overwrite_over : (s : Bytes) (q : ℕ) (x : Bytes) (p : ℕ) (y : Bytes) → p ≤ q → q + length x ≤ p + length y → q ≤ length s → overwrite (overwrite s q x) p y ≡ overwrite s p y
overwrite_over s q x p y before past inside = ap₂ (λ (u v : Bytes). u ++ (y ++ v)) front (overwrite_past s q x (p + length y) inside past)
  where
    front : take p (overwrite s q x) ≡ take p s
    front = take-append-le p (take q s) (x ++ drop (q + length x) s) (omega (arith, length-take q s)) ∙ take-take p q s before

-- a page put at its place, and made a record
pub record_put :
    (s t u : Bytes) (k n page : ℕ) (bytes : Bytes) (at : ℕ) → at ≡ record_place k + 4 → length bytes ≡ 512 → record_place k + 520 ≤ length s → t ≡ overwrite s at bytes →
    u ≡ overwrite t (record_place k) (record_bytes n (record { page = page; bytes = page_bytes t k })) → u ≡ overwrite s (record_place k) (record_bytes n (record { page = page; bytes = bytes }))
record_put s t u k n page bytes at is whole room put sealed =
    sealed ∙ ap₂ (λ (a b : Bytes). overwrite a (record_place k) (record_bytes n (record { page = page; bytes = b }))) lies same
    ∙ overwrite_over s (record_place k + 4) bytes (record_place k) (record_bytes n (record { page = page; bytes = bytes })) (omega arith) (omega (arith, whole, length_record n (record { page = page; bytes = bytes }) whole)) (omega arith)
  where
    lies : t ≡ overwrite s (record_place k + 4) bytes
    lies = put ∙ ap (λ (p : ℕ). overwrite s p bytes) is

    front : length (take (record_place k + 4) s) ≡ record_place k + 4
    front = length-take (record_place k + 4) s ∙ omega arith

    same : page_bytes t k ≡ bytes
    same =
        ap (λ (b : Bytes). page_bytes b k) lies
        ∙ ap (take 512) (drop_at (take (record_place k + 4) s) (bytes ++ drop (record_place k + 4 + length bytes) s) (record_place k + 4) front)
        ∙ take_at bytes (drop (record_place k + 4 + length bytes) s) 512 whole

-- one more page
originals_push : (b : Bytes) (k : ℕ) (ps : List ℕ) (p : ℕ) → originals b k (ps ++ (p ∷ [])) ≡ originals b k ps ++ (record { page = p; bytes = page_bytes b (k + length ps) } ∷ [])
unfolding originals
originals_push b k [] p =
    let e : k ≡ k + 0 = omega arith in
    ap (λ (m : ℕ). record { page = p; bytes = page_bytes b m } ∷ []) e
originals_push b k (q ∷ ps) p =
    let e : suc k + length ps ≡ k + suc (length ps) = omega arith in
    ap (λ (rs : List PageRecord). record { page = q; bytes = page_bytes b k } ∷ rs)
    (originals_push b (suc k) ps p ∙ ap (λ (m : ℕ). originals b (suc k) ps ++ (record { page = p; bytes = page_bytes b m } ∷ [])) e)

records_push : (n : ℕ) (rs : List PageRecord) (r : PageRecord) → records_bytes n (rs ++ (r ∷ [])) ≡ records_bytes n rs ++ record_bytes n r
unfolding records_bytes
records_push n [] r = append-nil (record_bytes n r)
records_push n (q ∷ rs) r = ap (λ (t : Bytes). record_bytes n q ++ t) (records_push n rs r) ∙ sym (append_assoc (record_bytes n q) (records_bytes n rs) (record_bytes n r))

pub length_originals : (n : ℕ) (b : Bytes) (k : ℕ) (ps : List ℕ) → record_place (k + length ps) ≤ length b → length (records_bytes n (originals b k ps)) ≡ 520 * length ps
unfolding originals records_bytes
length_originals n b k [] h = refl
length_originals n b k (p ∷ ps) h =
    length-append (record_bytes n r) (records_bytes n (originals b (suc k) ps))
    ∙ omega (arith, length_record n r (length_part b (record_place k + 4) 512 (omega arith)), length_originals n b (suc k) ps (omega arith))
  where
    r : PageRecord
    r = record { page = p; bytes = page_bytes b k }

pub count_originals : (b : Bytes) (k : ℕ) (ps : List ℕ) → length (originals b k ps) ≡ length ps
unfolding originals
count_originals b k [] = refl
count_originals b k (p ∷ ps) = ap suc (count_originals b (suc k) ps)

-- pages that lie in two buffers alike
pub originals_same : (a b : Bytes) (k : ℕ) (ps : List ℕ) → drop (record_place k) a ≡ drop (record_place k) b → originals a k ps ≡ originals b k ps
unfolding originals
originals_same a b k [] e = refl
originals_same a b k (p ∷ ps) e = ap₂ (λ (bytes : Bytes) (rs : List PageRecord). record { page = p; bytes = bytes } ∷ rs) page (originals_same a b (suc k) ps next)
  where
    page : page_bytes a k ≡ page_bytes b k
    page = ap (take 512) (sym (drop-drop 4 (record_place k) a) ∙ ap (drop 4) e ∙ drop-drop 4 (record_place k) b)

    step : record_place k + 520 ≡ record_place (suc k)
    step = omega arith

    next : drop (record_place (suc k)) a ≡ drop (record_place (suc k)) b
    next =
        ap (λ (m : ℕ). drop m a) (sym step) ∙ sym (drop-drop 520 (record_place k) a) ∙ ap (drop 520) e ∙ drop-drop 520 (record_place k) b
        ∙ ap (λ (m : ℕ). drop m b) step

-- records made one after the other
module _ (s : Bytes) (n : ℕ) (pages : List ℕ) where
  abbrev made : ℕ → Bytes
  made i = records_bytes n (originals s 0 (take i pages))

  pub sealed_none : overwrite s 512 (made 0) ≡ s
  unfolding records_bytes originals
  sealed_none = take-append-drop 512 s

  pub sealed_all : (i : ℕ) → length pages ≤ i → overwrite s 512 (made i) ≡ overwrite s 512 (records_bytes n (originals s 0 pages))
  sealed_all i all = ap (λ (ps : List ℕ). overwrite s 512 (records_bytes n (originals s 0 ps))) (take_all i pages all)

  pub sealed_more :
      (i : ℕ) (t u : Bytes) → i < length pages → record_place (length pages) ≤ length s → t ≡ overwrite s 512 (made i) →
      u ≡ overwrite t (record_place i) (record_bytes n (record { page = get_or pages i 0; bytes = page_bytes t i })) → u ≡ overwrite s 512 (made (i + 1))
  sealed_more i t u lt room was put =
      put ∙ ap₂ (λ (a b : Bytes). overwrite a (record_place i) (record_bytes n (record { page = get_or pages i 0; bytes = b }))) was same
      ∙ overwrite_append s 512 (made i) (record_bytes n (record { page = get_or pages i 0; bytes = page_bytes s i })) (record_place i) (omega (arith, long)) (omega arith)
      ∙ ap (overwrite s 512) (sym more)
    where
      front : length (take i pages) ≡ i
      front = omega (arith, length-take i pages)

      long : length (made i) ≡ 520 * i
      long = length_originals n s 0 (take i pages) (omega (arith, front)) ∙ ap (λ (m : ℕ). 520 * m) front

      same : page_bytes t i ≡ page_bytes s i
      same =
          ap (λ (b : Bytes). page_bytes b i) was
          ∙ ap (take 512) (overwrite_past s 512 (made i) (record_place i + 4) (omega arith) (omega (arith, long)))

      more : made (i + 1) ≡ made i ++ record_bytes n (record { page = get_or pages i 0; bytes = page_bytes s i })
      more =
          ap (λ (ps : List ℕ). records_bytes n (originals s 0 ps)) (take_more pages i 0 lt)
          ∙ ap (records_bytes n) (originals_push s 0 (take i pages) (get_or pages i 0))
          ∙ records_push n (originals s 0 (take i pages)) (record { page = get_or pages i 0; bytes = page_bytes s (0 + length (take i pages)) })
          ∙ ap (λ (m : ℕ). made i ++ record_bytes n (record { page = get_or pages i 0; bytes = page_bytes s m })) (omega (arith, front))
