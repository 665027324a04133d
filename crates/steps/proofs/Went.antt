-- Tasks one after the other: lists done in order make up a longer list, and a refusal in a part is a
-- refusal in the whole.
use Rattle.std.proofs.Common.{◌≡◌, ℕ, List, [], ◌∷◌, ◌++◌, Ok, Err, Option, Result, sym, refl, ap, ◌∙◌, subst}
use Rattle.std.proofs.lemmas.List.{append_assoc as assoc, map-append}
use Rattle.card.specs.declared.fault.Cause.{Cause}
use Rattle.card.specs.declared.fault.CardFault.{CardFault}
use Rattle.card.specs.Meaning.{Meaning, Bytes, Name}
use Rattle.card.specs.Calls.{Op, Answered, ToldLength as CardLength, ToldBytes as CardBytes}
use Rattle.card.specs.Runs.{Act, End, through, stopped, Runs, end, next, stop}
use Rattle.journal.specs.declared.fault.JournalFault.{JournalFault}
use Rattle.journal.specs.OnCard.{Acted}
use Rattle.refusal.specs.declared.fault.SetFault.{SetFault}
use Rattle.steps.specs.declared.site.Site.{Site}
use Rattle.steps.specs.Tasks.{Task, task, tasks, acts, told_journal, told_card, Stopped, Went, ToldLength, ToldBytes}

module _ {C : Type 0} (m : Meaning C) where
  -- runs one after the other
  pub runs_then : (xs ys : List Act) (c c₁ c₂ : C) (e : End) → Runs m xs c through c₁ → Runs m ys c₁ e c₂ → Runs m (xs ++ ys) c e c₂
  runs_then xs ys c c₁ c₂ e end r = r
  runs_then xs ys c c₁ c₂ e (next {a = a} {acts = rest} {c₁ = d} w q) r = next w (runs_then rest ys d c₁ c₂ e q r)

  pub acts_append : (xs ys : List Task) → acts (xs ++ ys) ≡ acts xs ++ acts ys
  acts_append xs ys = map-append (λ t. t.act) xs ys

  pub append_assoc : (xs ys zs : List Task) → (xs ++ ys) ++ zs ≡ xs ++ (ys ++ zs)
  append_assoc xs ys zs = assoc xs ys zs

  pub ran_then : (xs ys : List Task) (c c₁ c₂ : C) (e : End) → Runs m (acts xs) c through c₁ → Runs m (acts ys) c₁ e c₂ → Runs m (acts (xs ++ ys)) c e c₂
  ran_then xs ys c c₁ c₂ e p q = subst (λ (list : List Act). Runs m list c e c₂) (sym (acts_append xs ys)) (runs_then (acts xs) (acts ys) c c₁ c₂ e p q)

  -- a run that came through, cut in two
  pub runs_split : (xs ys : List Act) (c c' : C) → Runs m (xs ++ ys) c through c' → (here : C) × Runs m xs c through here × Runs m ys here through c'
  runs_split [] ys c c' r = (c, end, r)
  runs_split (a ∷ xs) ys c c' (next {c₁ = d} w r) = let q = runs_split xs ys d c' r in (q.0, next w q.1, q.2)

  pub ran_split : (xs ys : List Task) (c c' : C) → Runs m (acts (xs ++ ys)) c through c' → (here : C) × Runs m (acts xs) c through here × Runs m (acts ys) here through c'
  ran_split xs ys c c' r = runs_split (acts xs) (acts ys) c c' (subst (λ (list : List Act). Runs m list c through c') (acts_append xs ys) r)

  pub stopped_after : (xs ys : List Task) (c c₁ c₂ : C) (t : Task) (x : Cause) → Runs m (acts xs) c through c₁ → Stopped m ys c₁ t x c₂ → Stopped m (xs ++ ys) c t x c₂
  stopped_after xs ys c c₁ c₂ t x p s =
      record {
        before = xs ++ s.before;
        after = s.after;
        here = s.here;
        split = ap (λ (r : List Task). xs ++ r) s.split ∙ sym (append_assoc xs s.before (t ∷ s.after));
        ran = ran_then xs s.before c c₁ s.here through p s.ran;
        refused = s.refused;
      }

  pub stopped_before : (xs ys : List Task) (c c₁ : C) (t : Task) (x : Cause) → Stopped m xs c t x c₁ → Stopped m (xs ++ ys) c t x c₁
  stopped_before xs ys c c₁ t x s =
      record {
        before = s.before;
        after = s.after ++ ys;
        here = s.here;
        split = ap (λ (r : List Task). r ++ ys) s.split ∙ append_assoc s.before (t ∷ s.after) ys;
        ran = s.ran;
        refused = s.refused;
      }

  -- nothing is left to do
  pub went_end : {V : Type 0} (c : C) (v : V) → Went m {V = V} [] c (Ok v) c
  went_end c v = record { ended = end; origins = λ o h. h }

  -- tasks answered well, and the rest
  pub went_then :
      {V W : Type 0} (xs ys : List Task) (c c₁ c₂ : C) (v : V) (r : Result W SetFault) → Went m xs c (Ok v) c₁ → Went m ys c₁ r c₂ → Went m (xs ++ ys) c r c₂
  went_then xs ys c c₁ c₂ v (Ok w) p q = record { ended = ran_then xs ys c c₁ c₂ through p.ended q.ended; origins = λ o h. p.origins o (q.origins o h) }
  went_then xs ys c c₁ c₂ v (Err f) p q =
      let s = q.ended in
      record {
        ended = (s.0, stopped_after xs ys c c₁ c₂ s.0 f.journal.card.cause p.ended s.1, s.2, p.origins f.journal.card.origin s.3);
        origins = λ o h. p.origins o (q.origins o h);
      }

  -- tasks of which one was refused, and what comes after is not done
  pub went_stop : {V W : Type 0} (xs ys : List Task) (c c₁ : C) (f : SetFault) → Went m {V = V} xs c (Err f) c₁ → Went m {V = W} (xs ++ ys) c (Err f) c₁
  went_stop xs ys c c₁ f p =
      let s = p.ended in
      record { ended = (s.0, stopped_before xs ys c c₁ s.0 f.journal.card.cause s.1, s.2, s.3); origins = p.origins }

  -- the same refusal, of all or of a part, as another function passes it up
  pub went_up : {V W : Type 0} (ts : List Task) (c c₁ : C) (f : SetFault) (r : Result W SetFault) → r ≡ Err f → Went m {V = V} ts c (Err f) c₁ → Went m {V = W} ts c r c₁
  went_up {V} {W} ts c c₁ f r e p =
      subst (λ (x : Result W SetFault). Went m {V = W} ts c x c₁) (sym e) (record { ended = p.ended; origins = p.origins })

  -- another value
  pub went_value : {V W : Type 0} (ts : List Task) (c c₁ : C) (v : V) (w : W) → Went m {V = V} ts c (Ok v) c₁ → Went m {V = W} ts c (Ok w) c₁
  went_value ts c c₁ v w p = record { ended = p.ended; origins = p.origins }

  -- one call of the card
  pub went_one :
      {V : Type 0} (c c₁ : C) (s : Site) (n : Name) (op : Op) (r : Result V CardFault) (r' : Result V SetFault) → r' ≡ told_card s r → Answered m c n op r c₁ →
      Went m (task s n op ∷ []) c r' c₁
  went_one {V} c c₁ s n op r r' e a = subst (λ (x : Result V SetFault). Went m (task s n op ∷ []) c x c₁) (sym e) (by r a)
    where
      by : (r : Result V CardFault) → Answered m c n op r c₁ → Went m (task s n op ∷ []) c (told_card s r) c₁
      by (Ok v) a = record { ended = next a.called end; origins = a.origins }
      by (Err f) a =
          record {
            ended = (
              task s n op,
              record { before = []; after = []; here = c; split = refl; ran = end; refused = a.called },
              record { step = refl; file = refl; entry = refl; call = a.fault.0 },
              a.fault.1,
            );
            origins = a.origins;
          }

  -- a run that stopped at an act, as tasks at one site
  pub stopped_at : (s : Site) (list : List Act) (c c₁ : C) (a : Act) (x : Cause) → Runs m list c (stopped a x) c₁ → Stopped m (tasks s list) c (record { site = s; act = a }) x c₁
  stopped_at s list c c₁ a x (next {a = b} {acts = rest} {c₁ = d} w q) =
      let t = stopped_at s rest d c₁ a x q in
      record {
        before = record { site = s; act = b } ∷ t.before;
        after = t.after;
        here = t.here;
        split = ap (λ (r : List Task). record { site = s; act = b } ∷ r) t.split;
        ran = next w t.ran;
        refused = t.refused;
      }
  stopped_at s list c c₁ a x (stop {acts = rest} w) = record { before = []; after = tasks s rest; here = c; split = refl; ran = end; refused = w }

  pub acts_tasks : (s : Site) (list : List Act) → acts (tasks s list) ≡ list
  acts_tasks s [] = refl
  acts_tasks s (a ∷ list) = ap (λ (r : List Act). a ∷ r) (acts_tasks s list)

  -- acts of the journal's part, told with a site
  pub went_acted :
      {V : Type 0} (c c₁ : C) (s : Site) (list : List Act) (r : Result V JournalFault) (r' : Result V SetFault) → r' ≡ told_journal s r → Acted m list c r c₁ →
      Went m (tasks s list) c r' c₁
  went_acted {V} c c₁ s list r r' e a = subst (λ (x : Result V SetFault). Went m (tasks s list) c x c₁) (sym e) (by r a)
    where
      by : (r : Result V JournalFault) → Acted m list c r c₁ → Went m (tasks s list) c (told_journal s r) c₁
      by (Ok v) a = record { ended = subst (λ (x : List Act). Runs m x c through c₁) (sym (acts_tasks s list)) a.ran; origins = a.origins }
      by (Err f) a =
          let q = a.ran in
          record {
            ended = (
              record { site = s; act = q.0 },
              stopped_at s list c c₁ q.0 f.card.cause q.1,
              record { step = refl; file = refl; entry = refl; call = q.2 },
              q.3,
            );
            origins = a.origins;
          }

-- what the card told, told with a site
pub told_length :
    (s : Site) (f : Option Bytes) (r : Result (Option ℕ) CardFault) (r' : Result (Option ℕ) SetFault) → r' ≡ told_card s r → CardLength f r → ToldLength f r'
told_length s f r r' e h = subst (λ (x : Result (Option ℕ) SetFault). ToldLength f x) (sym e) (by r h)
  where
    by : (r : Result (Option ℕ) CardFault) → CardLength f r → ToldLength f (told_card s r)
    by (Ok v) h = h
    by (Err x) h = tt

pub told_bytes :
    (s : Site) (f : Option Bytes) (place : ℕ) (old new : Bytes) (r : Result (Unit {0}) CardFault) (r' : Result (Unit {0}) SetFault) → r' ≡ told_card s r →
    CardBytes f place old r new → ToldBytes f place old r' new
told_bytes s f place old new r r' e h = subst (λ (x : Result (Unit {0}) SetFault). ToldBytes f place old x new) (sym e) (by r h)
  where
    by : (r : Result (Unit {0}) CardFault) → CardBytes f place old r new → ToldBytes f place old (told_card s r) new
    by (Ok v) h = h
    by (Err x) h = h

-- the same call from the same site, said in other words
pub went_as :
    {C V : Type 0} (m : Meaning C) (c c₁ : C) (r : Result V SetFault) (s s' : Site) (n n' : Name) (op op' : Op) → s ≡ s' → n ≡ n' → op ≡ op' →
    Went m (task s n op ∷ []) c r c₁ → Went m (task s' n' op' ∷ []) c r c₁
went_as m c c₁ r s s' n n' op op' es en eo p = subst (λ (ts : List Task). Went m ts c r c₁) (λ i. task (es i) (en i) (eo i) ∷ []) p
