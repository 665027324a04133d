-- The laws of journals' bytes.
use Rattle.std.proofs.Common.{◌≡◌, ℕ, zero, suc, ◌<◌, true, not, ◌||◌, eqb, ltb, ◌⊎◌, length, take, sym, refl, ap, ◌∙◌, subst, inl, inr, arith}
use Rattle.std.specs.Str.{bytes_eq}
use Rattle.std.proofs.lemmas.Bool.{both_ways, or_right, eq-eqb, cases_order}
use Rattle.card.specs.Meaning.{Bytes}
use Rattle.journal.specs.Format.{Journal, LawfulJournal, full, magic}
use Rattle.journal.specs.Judged.{Judged, WrongAt, Parts, name_span, spent, count_of}
use Rattle.journal.specs.Laws.{Quiet, JournalLaws}
use Rattle.journal.specs.declared.verdict.Verdict.{Verdict}
use Rattle.journal.specs.declared.verdict.Verdict.TheVariants.{Spent, Damaged, Sound}
use Rattle.journal.specs.declared.verdict.Sound.{Sound as SoundParts}
use Rattle.journal.proofs.Encoded.{spent_full}
use Rattle.journal.proofs.Same.{full_same}
use Rattle.journal.proofs.Torn.{torn_count, unfinished, counted}

spent_not : (j : Journal) (b : Bytes) → LawfulJournal j → b ≡ full j → spent b ≡ true → ⊥
spent_not j b ok e t = both_ways _ (ap spent e ∙ spent_full j ok) t

-- a damaged journal is named by one record
one_wrong : (b : Bytes) (k m : ℕ) → WrongAt b k → WrongAt b m → k ≡ m
one_wrong b zero zero p q = refl
one_wrong b zero (suc m) p q = absurd (both_ways _ q.3 (p q.0 m q.1))
one_wrong b (suc k) zero p q = absurd (both_ways _ p.3 (q p.0 k p.1))
one_wrong b (suc k) (suc m) p q = by (cases_order k m)
  where
    by : (k ≡ m) ⊎ ((k < m) ⊎ (m < k)) → suc k ≡ suc m
    by (inl e) = ap suc e
    by (inr (inl lt)) = absurd (both_ways _ p.3 (q.2 k lt))
    by (inr (inr lt)) = absurd (both_ways _ q.3 (p.2 m lt))

-- a journal has one set of parts
one_parts : (s t : SoundParts) (j : Journal) → Parts s j → Parts t j → s ≡ t
one_parts s t j p q = λ i. record { count = counts i; nonce = (p.nonce ∙ sym q.nonce) i; size = (p.size ∙ sym q.size) i; name = names i }
  where
    counts : s.count ≡ t.count
    counts = p.count ∙ sym q.count

    names : s.name ≡ t.name
    names = p.name ∙ ap (λ (n : ℕ). name_span n j.super) counts ∙ sym q.name

one_verdict : (b : Bytes) (v w : Verdict) → Judged b v → Judged b w → v ≡ w
unfolding Judged
one_verdict b Spent Spent p q = refl
one_verdict b Spent (Damaged m) p q = absurd (both_ways _ q.0 p)
one_verdict b Spent (Sound t) p q = absurd (spent_not q.0 b q.1 q.2 p)
one_verdict b (Damaged k) Spent p q = absurd (both_ways _ p.0 q)
one_verdict b (Damaged k) (Damaged m) p q = ap (λ (n : ℕ). Damaged n) (one_wrong b k m p.2 q.2)
one_verdict b (Damaged k) (Sound t) p q = absurd (p.1 q.0 q.1 q.2)
one_verdict b (Sound s) Spent p q = absurd (spent_not p.0 b p.1 p.2 q)
one_verdict b (Sound s) (Damaged m) p q = absurd (q.1 p.0 p.1 p.2)
one_verdict b (Sound s) (Sound t) p q =
    ap (λ (x : SoundParts). Sound x)
    (one_parts s t q.0 (subst (λ (j : Journal). Parts s j) (full_same p.0 q.0 p.1 q.1 (sym p.2 ∙ q.2)) p.3) q.3)

round_trip : (j : Journal) → LawfulJournal j → (v : Verdict) → Judged (full j) v → (s : SoundParts) × (v ≡ Sound s) × Parts s j
unfolding Judged
round_trip j ok Spent p = absurd (spent_not j (full j) ok refl p)
round_trip j ok (Damaged k) p = absurd (p.1 j ok refl)
round_trip j ok (Sound s) p = (s, refl, subst (λ (i : Journal). Parts s i) (full_same p.0 j p.1 ok (sym p.2)) p.3)

quiet_spent : (b : Bytes) → Quiet b → spent b ≡ true
unfolding spent
quiet_spent b q =
    or_right (ltb (length b) 512) (not (bytes_eq magic (take 8 b)) || eqb (count_of b) 0)
    (or_right (not (bytes_eq magic (take 8 b))) (eqb (count_of b) 0) (eq-eqb (count_of b) 0 (omega (arith, q.at_8, q.at_9, q.at_10, q.at_11))))

quiet : (b : Bytes) → Quiet b → (v : Verdict) → Judged b v → v ≡ Spent
unfolding Judged
quiet b q v p = one_verdict b v Spent p (quiet_spent b q)

pub journal_laws : JournalLaws
journal_laws = record { one = one_verdict; round_trip = round_trip; quiet = quiet; unfinished = unfinished; counted = λ j n. counted n j; torn = torn_count; same = full_same }
