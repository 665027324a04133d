-- Originals read one after the other into the places of their records.
use Rattle.std.proofs.Common.{◌≡◌, ℕ, suc, ◌+◌, ◌<◌, ◌≤◌, List, [], ◌∷◌, ◌++◌, map, length, get_or, take, drop, Ok, Err, Result, sym, refl, ap, ◌∙◌, subst, ap₂, arith}
use Rattle.std.proofs.lemmas.List.{take-append-drop, take-append-le, drop-append-le, take_at, drop_at, take_more, drop_more, take_all, length-take, length-drop, map_more}
use Rattle.card.specs.Meaning.{Meaning, Bytes, Name}
use Rattle.card.specs.Calls.{read, Worked, overwrite, part}
use Rattle.card.proofs.Contents.{length_overwrite}
use Rattle.journal.specs.Format.{PageRecord}
use Rattle.journal.specs.Judged.{record_place, page_bytes}
use Rattle.journal_writer.specs.Written.{originals}
use Rattle.journal.proofs.Pieces.{length_part}
use Rattle.refusal.specs.declared.fault.SetFault.{SetFault}
use Rattle.refusal.specs.declared.step.Step.TheVariants.{C2}
use Rattle.steps.specs.Tasks.{Task, task, Went, at_record}
use Rattle.steps.proofs.Went.{went_end, went_then, went_stop}
use Rattle.steps.proofs.Held.{look_holds}
use Rattle.journaling.specs.Plan.{place, original, read_tasks}
use Rattle.journaling.specs.Changes.{contents}
use Rattle.journaling.specs.Buffers.{Copied, RecordedIn}
use Rattle.journaling.proofs.Copies.{one_worked, lay_in}

-- what lies before bytes that were put is as it was
part_before : (s : Bytes) (p : ℕ) (x : Bytes) (i n : ℕ) → p ≤ length s → i + n ≤ p → part (overwrite s p x) i n ≡ part s i n
part_before s p x i n h low =
    front (x ++ drop (p + length x) s) ∙ sym (front (drop p s)) ∙ ap (λ (b : Bytes). part b i n) (take-append-drop p s)
  where
    size : length (take p s) ≡ p
    size = omega (arith, length-take p s)

    front : (rest : Bytes) → part (take p s ++ rest) i n ≡ part (take p s) i n
    front rest =
        ap (take n) (drop-append-le i (take p s) rest (omega (arith, size)))
        ∙ take-append-le n (drop i (take p s)) rest (omega (arith, size, length-drop i (take p s)))

-- and there lie the bytes
part_put : (s : Bytes) (p : ℕ) (x : Bytes) → p ≤ length s → part (overwrite s p x) p (length x) ≡ x
part_put s p x h =
    ap (take (length x)) (drop_at (take p s) (x ++ drop (p + length x) s) p (omega (arith, length-take p s))) ∙ take_at x (drop (p + length x) s) (length x) refl

originals_append : (b : Bytes) (k : ℕ) (ps qs : List ℕ) → originals b k (ps ++ qs) ≡ originals b k ps ++ originals b (k + length ps) qs
unfolding originals
originals_append b k [] qs = ap (λ (n : ℕ). originals b n qs) (omega arith)
originals_append b k (p ∷ ps) qs =
    ap (λ (rs : List PageRecord). record { page = p; bytes = page_bytes b k } ∷ rs)
    (originals_append b (suc k) ps qs ∙ ap (λ (n : ℕ). originals b (suc k) ps ++ originals b n qs) (omega arith))

-- bytes put past the records leave them
originals_before :
    (s : Bytes) (p : ℕ) (x : Bytes) (k : ℕ) (ps : List ℕ) → p ≤ length s → record_place (k + length ps) ≤ p → originals (overwrite s p x) k ps ≡ originals s k ps
unfolding originals
originals_before s p x k [] h low = refl
originals_before s p x k (q ∷ ps) h low =
    ap₂ (λ (bytes : Bytes) (rs : List PageRecord). record { page = q; bytes = bytes } ∷ rs) (part_before s p x (record_place k + 4) 512 h (omega arith))
    (originals_before s p x (suc k) ps h (omega arith))

pub read_append : (n : Name) (d k : ℕ) (ps qs : List ℕ) → read_tasks n d k (ps ++ qs) ≡ read_tasks n d k ps ++ read_tasks n d (k + length ps) qs
unfolding read_tasks
read_append n d k [] qs = ap (λ (i : ℕ). read_tasks n d i qs) (omega arith)
read_append n d k (p ∷ ps) qs =
    ap (λ (ts : List Task). task (at_record C2 d k) n (read (place p) 512) ∷ ts)
    (read_append n d (suc k) ps qs ∙ ap (λ (i : ℕ). read_tasks n d (suc k) ps ++ read_tasks n d i qs) (omega arith))

-- the first i pages are read
pub record Reading {C : Type 0} (m : Meaning C) (n : Name) (d : ℕ) (pages : List ℕ) (c₀ : C) (i : ℕ) (c : C) (buf : Bytes) : Type 0 where
  pub went : Went m {V = Unit {0}} (read_tasks n d 1 (take i pages)) c₀ (Ok tt) c
  pub same : m.holds c n ≡ m.holds c₀ n
  pub lies : originals buf 0 (take i pages) ≡ map (original (contents (m.holds c₀ n))) (take i pages)
  pub room : length buf ≡ 17724

module _ {C : Type 0} (m : Meaning C) (n : Name) (d : ℕ) (pages : List ℕ) (c₀ : C) where
  pub reading_none : (buf : Bytes) → length buf ≡ 17724 → Reading m n d pages c₀ 0 c₀ buf
  unfolding read_tasks originals
  reading_none buf room = record { went = went_end m c₀ tt; same = refl; lies = refl; room = room }

  module _ (i : ℕ) (c c₁ : C) (buf buf₁ : Bytes) (g : Reading m n d pages c₀ i c buf) (lt : i < length pages) (few : i < 33) where
    abbrev p : ℕ
    p = get_or pages i 0

    long : length (take i pages) ≡ i
    long = omega (arith, length-take i pages)

    abbrev stored : Bytes
    stored = contents (m.holds c₀ n)

    more : take (i + 1) pages ≡ take i pages ++ (p ∷ [])
    more = take_more pages i 0 lt

    number : (V : Type 0) (r : Result V SetFault) → Went m (task (at_record C2 d (i + 1)) n (read (place p) 512) ∷ []) c r c₁ →
        Went m (read_tasks n d (1 + length (take i pages)) (p ∷ [])) c r c₁
    unfolding read_tasks
    number V r w = let k : i + 1 ≡ 1 + length (take i pages) = omega (arith, long) in subst (λ (x : ℕ). Went m (task (at_record C2 d x) n (read (place p) 512) ∷ []) c r c₁) k w

    pub reading_more :
        Went m {V = Unit {0}} (task (at_record C2 d (i + 1)) n (read (place p) 512) ∷ []) c (Ok tt) c₁ → Copied (contents (m.holds c n)) p i buf (Ok tt) buf₁ →
        Reading m n d pages c₀ (i + 1) c₁ buf₁
    unfolding originals
    reading_more w copied =
        record {
          went =
              subst (λ (ts : List Task). Went m {V = Unit {0}} ts c₀ (Ok tt) c₁) (sym (ap (read_tasks n d 1) more ∙ read_append n d 1 (take i pages) (p ∷ [])))
              (went_then m (read_tasks n d 1 (take i pages)) (read_tasks n d (1 + length (take i pages)) (p ∷ [])) c₀ c c₁ tt (Ok tt) g.went (number (Unit {0}) (Ok tt) w));
          same = look_holds m c c₁ n (read (place p) 512) tt work n ∙ g.same;
          lies = ap (originals buf₁ 0) more ∙ originals_append buf₁ 0 (take i pages) (p ∷ []) ∙ ap₂ (λ (x y : List PageRecord). x ++ y) old new ∙ sym (map_more (original stored) pages i 0 lt);
          room = ap length is ∙ length_overwrite buf (record_place i + 4) bytes (omega (arith, g.room, few)) ∙ omega (arith, g.room, size, few);
        }
      where
        work : Worked m c n (read (place p) 512) c₁
        work = one_worked m c c₁ (record { name = n; op = read (place p) 512 }) w.ended

        bytes : Bytes
        bytes = part stored (place p) 512

        is : buf₁ ≡ overwrite buf (record_place i + 4) bytes
        is = copied ∙ ap (λ (f : Bytes). overwrite buf (record_place i + 4) (part f (place p) 512)) (ap contents g.same)

        size : length bytes ≡ 512
        size = length_part stored (place p) 512 (subst (λ (f : Bytes). place p + 512 ≤ length f) (ap contents g.same) (lay_in (m.holds c n) n (place p) 512 work.lawful))

        old : originals buf₁ 0 (take i pages) ≡ map (original stored) (take i pages)
        old =
            ap (λ (b : Bytes). originals b 0 (take i pages)) is
            ∙ originals_before buf (record_place i + 4) bytes 0 (take i pages) (omega (arith, g.room, few)) (omega (arith, long)) ∙ g.lies

        page : page_bytes buf₁ (0 + length (take i pages)) ≡ bytes
        page =
            ap (page_bytes buf₁) (omega (arith, long)) ∙ ap (λ (b : Bytes). part b (record_place i + 4) 512) is
            ∙ ap (part (overwrite buf (record_place i + 4) bytes) (record_place i + 4)) (sym size) ∙ part_put buf (record_place i + 4) bytes (omega (arith, g.room, few))

        new : originals buf₁ (0 + length (take i pages)) (p ∷ []) ≡ original stored p ∷ []
        new = ap (λ (b : Bytes). record { page = p; bytes = b } ∷ []) page

    pub reading_stopped :
        (f : SetFault) → Went m {V = Unit {0}} (task (at_record C2 d (i + 1)) n (read (place p) 512) ∷ []) c (Err f) c₁ → Went m {V = Unit {0}} (read_tasks n d 1 pages) c₀ (Err f) c₁
    reading_stopped f w =
        subst (λ (ts : List Task). Went m {V = Unit {0}} ts c₀ (Err f) c₁) (sym whole)
        (went_then m (read_tasks n d 1 (take i pages)) (read_tasks n d (1 + length (take i pages)) (p ∷ []) ++ read_tasks n d (1 + length (take i pages) + 1) (drop (i + 1) pages)) c₀ c c₁ tt (Err f) g.went
        (went_stop m (read_tasks n d (1 + length (take i pages)) (p ∷ [])) (read_tasks n d (1 + length (take i pages) + 1) (drop (i + 1) pages)) c c₁ f (number (Unit {0}) (Err f) w)))
      where
        whole : read_tasks n d 1 pages ≡ read_tasks n d 1 (take i pages) ++ (read_tasks n d (1 + length (take i pages)) (p ∷ []) ++ read_tasks n d (1 + length (take i pages) + 1) (drop (i + 1) pages))
        whole =
            ap (read_tasks n d 1) (sym (take-append-drop i pages)) ∙ read_append n d 1 (take i pages) (drop i pages)
            ∙ ap (λ (x : List ℕ). read_tasks n d 1 (take i pages) ++ read_tasks n d (1 + length (take i pages)) x) (drop_more pages i 0 lt)
            ∙ ap (λ (x : List Task). read_tasks n d 1 (take i pages) ++ x) (read_append n d (1 + length (take i pages)) (p ∷ []) (drop (i + 1) pages))

  -- all pages are read
  module _ (i : ℕ) (c : C) (buf : Bytes) (g : Reading m n d pages c₀ i c buf) (past : length pages ≤ i) where
    pub all_went : Went m {V = Unit {0}} (read_tasks n d 1 pages) c₀ (Ok tt) c
    all_went = subst (λ (ps : List ℕ). Went m {V = Unit {0}} (read_tasks n d 1 ps) c₀ (Ok tt) c) (take_all i pages past) g.went

    pub all_lie : RecordedIn (contents (m.holds c₀ n)) pages (Ok tt) buf
    all_lie = subst (λ (ps : List ℕ). originals buf 0 ps ≡ map (original (contents (m.holds c₀ n))) ps) (take_all i pages past) g.lies
