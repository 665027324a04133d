-- A delayed card keeps the meaning of a card, whatever it was told to lose.
use Rattle.std.proofs.Common.{◌≡◌, ℕ, true, false, ◌⊎◌, Some, None, Ok, Err, Option, Result, sym, refl, ap, ◌∙◌, subst, ap₂, inl, inr, arith}
use Rattle.card.specs.declared.fault.Cause.{Cause}
use Rattle.card.specs.declared.fault.Cause.TheVariants.{Power, Device, Absent, Present, Range}
use Rattle.card.specs.declared.fault.CardFault.{CardFault}
use Rattle.card.specs.Meaning.{May, Same, Bytes, Name}
use Rattle.card.specs.Calls.{Op, Called, Could, Worked, Lost, Answered, FaultOf, call_of, tested}
use Rattle.card.proofs.Every.{some_none, gone_could}
use Rattle.card.proofs.Weaker.{could_weaker}
use Rattle.halves.specs.declared.kept.Kept.{Kept}
use Rattle.halves.specs.declared.kept.Kept.TheVariants.{Synced, Current, Mixed}
use Rattle.image.specs.Layout.{held}
use Rattle.image.specs.Stored.{answer_of, refusal, crowded}
use Rattle.halves.specs.declared.both.Halves.{Halves}
use Rattle.halves.specs.Halves.{mixed, backed, kept_content, kept_of, PairLeft, PairDone, KeptAs}
use Rattle.image.specs.Blamed.{blamed}
use Rattle.image.proofs.Answers.{no_refusal, test_refusal, answer_not_power, blamed_cause}
use Rattle.halves.proofs.Keeping.{held_backed}
use Rattle.cut_calls.specs.Calls.{Call, BeforeLoss}
use Rattle.delayed_card.specs.declared.delayed.DelayedCard.{DelayedCard}
use Rattle.delayed_card.specs.Delayed.{delayed, MayRemain, bytes_or_none, still_on, lost_now}
use Rattle.delayed_card.proofs.Remains.{MayBe, pair_could, only_one, may_alike}

-- what is kept of a file could remain of it
kept_may : (kept : Kept) (current synced : Bytes) (n : Name) (o : Option Bytes) → o ≡ kept_of kept (held current n) (backed current synced n) → MayBe current synced n o
kept_may kept current synced n o e = by (held current n) refl
  where
    content : (k : Kept) (a s b : Bytes) → b ≡ kept_content k a s → backed current synced n ≡ Some s → held current n ≡ Some a → MayRemain current synced n b
    content Synced a s b is backs holds = (a, holds, inr (inl (is ∙ sym (ap bytes_or_none backs))))
    content Current a s b is backs holds = (a, holds, inl is)
    content Mixed a s b is backs holds = (a, holds, inr (inr (is ∙ ap (mixed a) (sym (ap bytes_or_none backs)))))

    by : (f : Option Bytes) → held current n ≡ f → MayBe current synced n o
    by None is = subst (MayBe current synced n) (sym (e ∙ ap (λ (x : Option Bytes). kept_of kept x (backed current synced n)) is)) is
    by (Some a) is =
        let s = held_backed current synced n a is in
        subst (MayBe current synced n) (sym (e ∙ ap₂ (kept_of kept) is s.1)) (content kept a s.0 (kept_content kept a s.0) refl s.1 is)

-- nothing is kept of a file that is absent, and something of one that is there
kept_none : (kept : Kept) (current synced : Bytes) (n : Name) → kept_of kept (held current n) (backed current synced n) ≡ None → held current n ≡ None
kept_none kept current synced n e = by (held current n) refl
  where
    by : (f : Option Bytes) → held current n ≡ f → held current n ≡ None
    by None is = is
    by (Some a) is = let s = held_backed current synced n a is in absurd (some_none (sym (ap₂ (kept_of kept) is s.1) ∙ e))

module _ (c c' : DelayedCard) (op : Op) (n : Name) where
  m_same : c'.on ≡ c.on → (c'.halves.current.now ≡ c.halves.current.now) × (c'.halves.synced.now ≡ c.halves.synced.now) → Same delayed c c'
  m_same e (f, g) =
      record {
        on = e;
        files = λ k. record {
          holds = ap (λ (i : Bytes). held i k) f;
          remains = λ b r. may_alike c.halves.current.now c.halves.synced.now c'.halves.current.now c'.halves.synced.now k (ap (λ (i : Bytes). held i k) f) (ap₂ (λ (i j : Bytes). backed i j k) f g) b r;
        };
      }

  -- what could be of a file on the card
  may_of : (k : Name) (o : Option Bytes) → MayBe c.halves.current.now c.halves.synced.now k o → May delayed c k o
  may_of k None e = e
  may_of k (Some b) r = r

  could_of : (f o : Option Bytes) → Could op (MayBe c.halves.current.now c.halves.synced.now n) f o → Could op (May delayed c n) f o
  could_of f o = could_weaker op (MayBe c.halves.current.now c.halves.synced.now n) (May delayed c n) (λ x. may_of n x) f o

  done_worked : c.on ≡ true → c'.on ≡ true → tested op n (held c.halves.current.now n) ≡ None → PairDone op n c.halves.current.now c.halves.synced.now c'.halves.current.now c'.halves.synced.now → Worked delayed c n op c'
  done_worked was is lawful pair =
      record {
        powered = was;
        lawful = lawful;
        still = is;
        holds = pair.done.own;
        remains = λ b r. could_of (held c.halves.current.now n) (Some b) (pair_could n c.halves.current.now c.halves.synced.now c'.halves.current.now c'.halves.synced.now op (held c.halves.current.now n) refl lawful pair b r);
        others = λ k ne. record {
          holds = pair.done.others k ne;
          remains = λ b r. may_alike c.halves.current.now c.halves.synced.now c'.halves.current.now c'.halves.synced.now k (pair.done.others k ne) (pair.others k ne) b r;
        };
      }

  pair_called : c.on ≡ true → c'.on ≡ true → (x : Option Cause) → x ≡ answer_of op n c.halves.current.now → PairLeft x op n c.halves.current.now c.halves.synced.now c'.halves.current.now c'.halves.synced.now → Called delayed c n op x c'
  pair_called was is None e left = done_worked was is (no_refusal (tested op n (held c.halves.current.now n)) (crowded op c.halves.current.now) e) left
  pair_called was is (Some Power) e left = absurd (answer_not_power op n c.halves.current.now e)
  pair_called was is (Some Device) e left = (was, m_same (is ∙ sym was) left)
  pair_called was is (Some Absent) e left = (was, test_refusal (tested op n (held c.halves.current.now n)) (crowded op c.halves.current.now) Absent (λ z. let y : ◌≡◌ {A = ℕ} 0 1 = cc in omega arith) e, m_same (is ∙ sym was) left)
  pair_called was is (Some Present) e left = (was, test_refusal (tested op n (held c.halves.current.now n)) (crowded op c.halves.current.now) Present (λ z. let y : ◌≡◌ {A = ℕ} 0 1 = cc in omega arith) e, m_same (is ∙ sym was) left)
  pair_called was is (Some Range) e left = (was, test_refusal (tested op n (held c.halves.current.now n)) (crowded op c.halves.current.now) Range (λ z. let y : ◌≡◌ {A = ℕ} 0 1 = cc in omega arith) e, m_same (is ∙ sym was) left)

  -- what is kept of the files after the work, or in its place
  module _ (kept : Kept) (mid mid-synced : Bytes) (as-kept : KeptAs kept mid mid-synced c'.halves.current.now c'.halves.synced.now) where
    left_may : (k : Name) → held mid k ≡ held c.halves.current.now k → backed mid mid-synced k ≡ backed c.halves.current.now c.halves.synced.now k → May delayed c k (held c'.halves.current.now k)
    left_may k same backs = may_of k (held c'.halves.current.now k) (kept_may kept c.halves.current.now c.halves.synced.now k (held c'.halves.current.now k) (as-kept.holds k ∙ ap₂ (kept_of kept) same backs))

    work_could : tested op n (held c.halves.current.now n) ≡ None → PairDone op n c.halves.current.now c.halves.synced.now mid mid-synced → (o : Option Bytes) → held c'.halves.current.now n ≡ o → Could op (May delayed c n) (held c.halves.current.now n) o
    work_could lawful pair None e =
        gone_could delayed c n op (held c.halves.current.now n) refl lawful (sym pair.done.own ∙ kept_none kept mid mid-synced n (sym (as-kept.holds n) ∙ e))
    work_could lawful pair (Some b) e =
        could_of (held c.halves.current.now n) (Some b)
        (pair_could n c.halves.current.now c.halves.synced.now mid mid-synced op (held c.halves.current.now n) refl lawful pair b (kept_may kept mid mid-synced n (Some b) (sym e ∙ as-kept.holds n)))

    abbrev Own : Type 0
    Own = May delayed c n (held c'.halves.current.now n) ⊎ ((tested op n (held c.halves.current.now n) ≡ None) × Could op (May delayed c n) (held c.halves.current.now n) (held c'.halves.current.now n))

    lost_from : c.on ≡ true → c'.on ≡ false → Own → ((k : Name) → (k ≡ n → ⊥) → May delayed c k (held c'.halves.current.now k)) → Lost delayed c n op c'
    lost_from was off own others =
        record { powered = was; off = off; own = own; others = others; only = λ k b r. only_one c'.halves.current.now c'.halves.synced.now k b (as-kept.backs k) r }

    lost_undone : c.on ≡ true → c'.on ≡ false → (mid ≡ c.halves.current.now) × (mid-synced ≡ c.halves.synced.now) → Lost delayed c n op c'
    lost_undone was off (e, f) =
        lost_from was off (inl (left_may n (ap (λ (i : Bytes). held i n) e) (ap₂ (λ (i j : Bytes). backed i j n) e f)))
        (λ k ne. left_may k (ap (λ (i : Bytes). held i k) e) (ap₂ (λ (i j : Bytes). backed i j k) e f))

    lost_done : c.on ≡ true → c'.on ≡ false → (x : Option Cause) → x ≡ answer_of op n c.halves.current.now → PairLeft x op n c.halves.current.now c.halves.synced.now mid mid-synced → Lost delayed c n op c'
    lost_done was off None e pair =
        let lawful = no_refusal (tested op n (held c.halves.current.now n)) (crowded op c.halves.current.now) e in
        lost_from was off (inr (lawful, work_could lawful pair (held c'.halves.current.now n) refl)) (λ k ne. left_may k (pair.done.others k ne) (pair.others k ne))
    lost_done was off (Some x) e same = lost_undone was off same

  before_lost :
      (kept : Kept) (mid mid-synced : Bytes) → c.on ≡ true → c'.on ≡ false → BeforeLoss kept op n c.halves.current.now c.halves.synced.now mid mid-synced → KeptAs kept mid mid-synced c'.halves.current.now c'.halves.synced.now →
      Lost delayed c n op c'
  before_lost Synced mid mid-synced was off before as-kept = lost_undone Synced mid mid-synced as-kept was off before
  before_lost Current mid mid-synced was off before as-kept = lost_done Current mid mid-synced as-kept was off (answer_of op n c.halves.current.now) refl before
  before_lost Mixed mid mid-synced was off before as-kept = lost_done Mixed mid mid-synced as-kept was off (answer_of op n c.halves.current.now) refl before

  call_called :
      {V : Type 0} (lost : Option Kept) (a : Result V Cause) → c.on ≡ true → c'.on ≡ still_on lost → Call lost op n c.halves a c'.halves → Called delayed c n op (refusal a) c'
  call_called None a was is call = pair_called was is (refusal a) call.answer call.left
  call_called (Some kept) a was is (e, mid, mid-synced, before, as-kept) =
      subst (λ (x : Option Cause). Called delayed c n op x c') (sym e) (inr (before_lost kept mid mid-synced was is before as-kept))

  fault_of : {V : Type 0} (x : Result V Cause) → FaultOf delayed c op (blamed (call_of op) c.origin x)
  fault_of (Ok v) = tt
  fault_of (Err x) = (refl, refl)

  call_answered : {V : Type 0} (lost : Option Kept) (a : Result V Cause) → c.on ≡ true → c'.on ≡ still_on lost → c'.origin ≡ c.origin → Call lost op n c.halves a c'.halves → Answered delayed c n op (blamed (call_of op) c.origin a) c'
  call_answered lost a was is kept call =
      record {
        called = subst (λ (x : Option Cause). Called delayed c n op x c') (sym (blamed_cause (call_of op) c.origin a)) (call_called lost a was is call);
        fault = fault_of a;
        origins = λ o e. e ∙ kept;
      }

-- a call with power on, after it was counted
pub delayed_answered :
    (op : Op) {V : Type 0} (a : Result V Cause) {n : Name} {c b : DelayedCard} {h' : Halves} {lost : Option Kept} {r : Result V CardFault} →
    (c.on ≡ true) × (lost ≡ lost_now c.cut) × (b.on ≡ still_on lost) → b.halves ≡ c.halves → b.origin ≡ c.origin →
    Call lost op n b.halves a h' → r ≡ blamed (call_of op) b.origin a → Answered delayed c n op r (record { halves = h'; on = b.on; cut = b.cut; origin = b.origin })
delayed_answered op {V} a {n} {c} {b} {h'} {lost} {r} power halves origin call blame =
    let c' : DelayedCard = record { halves = h'; on = b.on; cut = b.cut; origin = b.origin } in
    subst (λ (x : Result V CardFault). Answered delayed c n op x c') (sym (blame ∙ ap (λ (o : ℕ). blamed (call_of op) o a) origin))
    (call_answered c c' op n lost a power.0 power.2 origin (subst (λ (x : Halves). Call lost op n x a h') halves call))
