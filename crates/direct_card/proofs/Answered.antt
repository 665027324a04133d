-- A card over an image keeps the meaning of a card.
use Rattle.std.proofs.Common.{◌≡◌, ℕ, Some, None, Ok, Err, Option, Result, sym, refl, ap, ◌∙◌, subst, arith}
use Rattle.card.specs.declared.fault.Cause.{Cause}
use Rattle.card.specs.declared.fault.Cause.TheVariants.{Power, Device, Absent, Present, Range}
use Rattle.card.specs.declared.fault.CardFault.{CardFault}
use Rattle.card.specs.Meaning.{May, Same, Bytes, Name}
use Rattle.card.specs.Calls.{Op, Called, Worked, Answered, FaultOf, call_of, tested}
use Rattle.card.proofs.Whole.{worked_could}
use Rattle.image.specs.Layout.{held}
use Rattle.image.specs.Stored.{Done, Left, Stored, answer_of, refusal, crowded}
use Rattle.image.specs.Blamed.{blamed}
use Rattle.image.proofs.Answers.{no_refusal, test_refusal, answer_not_power, blamed_cause}
use Rattle.direct_card.specs.declared.DirectCard.{DirectCard}
use Rattle.direct_card.specs.Direct.{direct}

module _ (c c' : DirectCard) (op : Op) (n : Name) where
  same : c'.image.now ≡ c.image.now → Same direct c c'
  same e = record { on = refl; files = λ k. record { holds = ap (λ (i : Bytes). held i k) e; remains = λ b r. sym (ap (λ (i : Bytes). held i k) e) ∙ r } }

  done_worked : tested op n (held c.image.now n) ≡ None → Done op n c.image.now c'.image.now → Worked direct c n op c'
  done_worked lawful done =
      record {
        powered = refl;
        lawful = lawful;
        still = refl;
        holds = done.own;
        remains = λ b r. worked_could op n (May direct c n) (held c.image.now n) b lawful (held_may (held c.image.now n) refl) (sym done.own ∙ r);
        others = λ k ne. record { holds = done.others k ne; remains = λ b r. sym (done.others k ne) ∙ r };
      }
    where
      held_may : (o : Option Bytes) → held c.image.now n ≡ o → May direct c n o
      held_may None e = e
      held_may (Some b) e = e

  left_called : (a : Option Cause) → a ≡ answer_of op n c.image.now → Left a op n c.image.now c'.image.now → Called direct c n op a c'
  left_called None e left = done_worked (no_refusal (tested op n (held c.image.now n)) (crowded op c.image.now) e) left
  left_called (Some Power) e left = absurd (answer_not_power op n c.image.now e)
  left_called (Some Device) e left = (refl, same left)
  left_called (Some Absent) e left =
      (refl, test_refusal (tested op n (held c.image.now n)) (crowded op c.image.now) Absent (λ z. let y : ◌≡◌ {A = ℕ} 0 1 = cc in omega arith) e, same left)
  left_called (Some Present) e left =
      (refl, test_refusal (tested op n (held c.image.now n)) (crowded op c.image.now) Present (λ z. let y : ◌≡◌ {A = ℕ} 0 1 = cc in omega arith) e, same left)
  left_called (Some Range) e left =
      (refl, test_refusal (tested op n (held c.image.now n)) (crowded op c.image.now) Range (λ z. let y : ◌≡◌ {A = ℕ} 0 1 = cc in omega arith) e, same left)

  fault_of : {V : Type 0} (x : Result V Cause) → FaultOf direct c op (blamed (call_of op) c.origin x)
  fault_of (Ok v) = tt
  fault_of (Err x) = (refl, refl)

  stored_answered : {V : Type 0} (a : Result V Cause) → Stored op n c.image.now a c'.image.now → c'.origin ≡ c.origin → Answered direct c n op (blamed (call_of op) c.origin a) c'
  stored_answered a stored kept =
      record {
        called = subst (λ (x : Option Cause). Called direct c n op x c') (sym (blamed_cause (call_of op) c.origin a)) (left_called (refusal a) stored.answer stored.left);
        fault = fault_of a;
        origins = λ o e. e ∙ kept;
      }

-- what a card over an image answers, from what the image answers
pub image_answered :
    (op : Op) {V : Type 0} (a : Result V Cause) {n : Name} {c c' : DirectCard} {r : Result V CardFault} →
    Stored op n c.image.now a c'.image.now → r ≡ blamed (call_of op) c.origin a → c'.origin ≡ c.origin → Answered direct c n op r c'
image_answered op {V} a {n} {c} {c'} {r} stored blame kept = subst (λ (x : Result V CardFault). Answered direct c n op x c') (sym blame) (stored_answered c c' op n a stored kept)
