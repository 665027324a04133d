-- Changed pages written one after the other.
use Rattle.std.proofs.Common.{true, ◌≡◌, ℕ, List, [], ◌∷◌, ◌++◌, map, Some, Ok, Err, Result, sym, refl, ap, ◌∙◌, subst}
use Rattle.std.proofs.lemmas.List.{map-append}
use Rattle.card.specs.Meaning.{Meaning, Bytes, Name}
use Rattle.card.specs.Calls.{write}
use Rattle.journal.specs.Format.{PageRecord}
use Rattle.page_map.specs.Listed.{above}
use Rattle.pager.specs.declared.memory.Memory.{Memory}
use Rattle.pager.specs.Changed.{look}
use Rattle.pager.specs.Sound.{map_of}
use Rattle.pager.specs.View.{fields, view}
use Rattle.pager.proofs.Members.{changed_page}
use Rattle.refusal.specs.declared.fault.SetFault.{SetFault}
use Rattle.refusal.specs.declared.step.Step.TheVariants.{C3}
use Rattle.steps.specs.Tasks.{Task, task, Went, at}
use Rattle.steps.proofs.Went.{went_end, went_then, went_stop}
use Rattle.journaling.specs.Plan.{place, write_tasks}
use Rattle.journaling.specs.Changes.{page_held, pages_held}

write_append : (n : Name) (d : ℕ) (xs ys : List PageRecord) → write_tasks n d (xs ++ ys) ≡ write_tasks n d xs ++ write_tasks n d ys
unfolding write_tasks
write_append n d [] ys = refl
write_append n d (r ∷ xs) ys = ap (λ (ts : List Task). task (at C3 d) n (write (place r.page) r.bytes) ∷ ts) (write_append n d xs ys)

write_one : (n : Name) (d : ℕ) (r : PageRecord) → write_tasks n d (r ∷ []) ≡ task (at C3 d) n (write (place r.page) r.bytes) ∷ []
unfolding write_tasks
write_one n d r = refl

write_none : (n : Name) (d : ℕ) → write_tasks n d [] ≡ []
unfolding write_tasks
write_none n d = refl

-- the pages that were walked are written
abbrev pub Writing : {C : Type 0} → Meaning C → Name → Memory → ℕ → C → List ℕ → C → Type 0
Writing m n mem d c₀ walked c = (stored : ℕ → Bytes) → Went m {V = Unit {0}} (write_tasks n d (map (page_held (view stored mem) d) walked)) c₀ (Ok tt) c

module _ {C : Type 0} (m : Meaning C) (n : Name) (mem : Memory) (d : ℕ) (c₀ : C) where
  abbrev all : List ℕ
  all = above (map_of mem.maps d) 0 4096

  pub writing_none : Writing m n mem d c₀ [] c₀
  writing_none stored = subst (λ (ts : List Task). Went m {V = Unit {0}} ts c₀ (Ok tt) c₀) (sym (write_none n d)) (went_end m c₀ tt)

  module _ (walked : List ℕ) (c : C) (g : Writing m n mem d c₀ walked c) where
    module _ (c₁ : C) (p : ℕ) (b : Bytes) (in-it : map_of mem.maps d p ≡ true) (is : look (fields mem).changed d p ≡ Some b) where
      one : (V : Type 0) (r : Result V SetFault) (stored : ℕ → Bytes) → Went m (task (at C3 d) n (write (place p) b) ∷ []) c r c₁ → Went m (write_tasks n d (page_held (view stored mem) d p ∷ [])) c r c₁
      one V r stored w =
          subst (λ (ts : List Task). Went m ts c r c₁)
          (ap (λ (x : Bytes). task (at C3 d) n (write (place p) x) ∷ []) (sym (changed_page stored mem d p b in-it is)) ∙ sym (write_one n d (page_held (view stored mem) d p))) w

      pub writing_more : Went m {V = Unit {0}} (task (at C3 d) n (write (place p) b) ∷ []) c (Ok tt) c₁ → Writing m n mem d c₀ (walked ++ p ∷ []) c₁
      writing_more w stored =
          subst (λ (ts : List Task). Went m {V = Unit {0}} ts c₀ (Ok tt) c₁)
          (sym (ap (write_tasks n d) (map-append (page_held (view stored mem) d) walked (p ∷ [])) ∙ write_append n d (map (page_held (view stored mem) d) walked) (page_held (view stored mem) d p ∷ [])))
          (went_then m (write_tasks n d (map (page_held (view stored mem) d) walked)) (write_tasks n d (page_held (view stored mem) d p ∷ [])) c₀ c c₁ tt (Ok tt) (g stored) (one (Unit {0}) (Ok tt) stored w))

      -- a page is refused, and what comes after it is not done
      pub writing_stopped :
          (f : SetFault) (after : List Task) (rest : List ℕ) (stored : ℕ → Bytes) → all ≡ walked ++ p ∷ rest → Went m {V = Unit {0}} (task (at C3 d) n (write (place p) b) ∷ []) c (Err f) c₁ →
          Went m {V = Unit {0}} (write_tasks n d (pages_held (view stored mem) d) ++ after) c₀ (Err f) c₁
      writing_stopped f after rest stored parts w =
          went_stop m (write_tasks n d (pages_held (view stored mem) d)) after c₀ c₁ f
          (subst (λ (ts : List Task). Went m {V = Unit {0}} ts c₀ (Err f) c₁) (sym whole)
          (went_then m (write_tasks n d (map held walked)) (write_tasks n d (held p ∷ []) ++ write_tasks n d (map held rest)) c₀ c c₁ tt (Err f) (g stored)
          (went_stop m (write_tasks n d (held p ∷ [])) (write_tasks n d (map held rest)) c c₁ f (one (Unit {0}) (Err f) stored w))))
        where
          held : ℕ → PageRecord
          held = page_held (view stored mem) d

          whole : write_tasks n d (pages_held (view stored mem) d) ≡ write_tasks n d (map held walked) ++ (write_tasks n d (held p ∷ []) ++ write_tasks n d (map held rest))
          whole =
              ap (λ (l : List ℕ). write_tasks n d (map held l)) parts
              ∙ ap (write_tasks n d) (map-append held walked (p ∷ rest))
              ∙ write_append n d (map held walked) (held p ∷ map held rest)
              ∙ ap (λ (ts : List Task). write_tasks n d (map held walked) ++ ts) (write_append n d (held p ∷ []) (map held rest))

    -- all pages are written, and then comes what comes after
    pub writing_all :
        (c₁ : C) (r : Result (Unit {0}) SetFault) (after : List Task) (stored : ℕ → Bytes) → walked ≡ all → Went m after c r c₁ →
        Went m (write_tasks n d (pages_held (view stored mem) d) ++ after) c₀ r c₁
    writing_all c₁ r after stored whole w =
        went_then m (write_tasks n d (pages_held (view stored mem) d)) after c₀ c c₁ tt r
        (subst (λ (l : List ℕ). Went m {V = Unit {0}} (write_tasks n d (map (page_held (view stored mem) d) l)) c₀ (Ok tt) c) whole (g stored))
        w
