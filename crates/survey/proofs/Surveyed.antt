-- What was found of journals: one by one, and of all in order.
use Rattle.std.proofs.Common.{◌≡◌, ℕ, ◌+◌, ◌<◌, ◌≤◌, ◌⊎◌, List, length, Some, None, Ok, Option, sym, refl, ap, ◌∙◌, subst, inl, inr, arith}
use Rattle.std.proofs.lemmas.Bool.{cases_lt}
use Rattle.card.specs.Meaning.{Meaning, Bytes, Name}
use Rattle.journal.specs.Format.{Journal, LawfulJournal, full}
use Rattle.journal.specs.Judged.{Judged, Parts}
use Rattle.journal.specs.declared.verdict.Verdict.{Verdict}
use Rattle.journal.specs.declared.verdict.Verdict.TheVariants.{Spent, Sound}
use Rattle.journal.specs.declared.verdict.Sound.{Sound as SoundParts}
use Rattle.journal.proofs.Laws.{journal_laws}
use Rattle.survey.specs.declared.report.Found.{Found}
use Rattle.survey.specs.declared.look.Link.{Link}
use Rattle.survey.specs.declared.look.Link.TheVariants.{Ours as LinkOurs, Other as LinkOther}
use Rattle.survey.specs.declared.look.Look.{Look}
use Rattle.survey.specs.declared.look.Look.TheVariants.{Hot as LookHot}
use Rattle.set_files.specs.Files.{Holds, Present}
use Rattle.survey.specs.Finds.{AllPresent, HotAt, NamesOurs, Asked, Reported, ForeignJournal}
use Rattle.survey.specs.Seen.{Seen, none, spent, hot, SeenAs, FoundOf, found_at, Hot, Orphan}
use Rattle.survey.specs.Linked.{found_of, link_of, LinkBy, LookOf, SuperLook, LookedAs, AllLooked, look_at}
use Rattle.refusal.specs.declared.step.Step.{Step}
use Rattle.set_files.specs.Looked.{Looked}
use Rattle.set_files.proofs.Looks.{looked_same}
use Rattle.set_files.proofs.Played.{some_same}

-- a sound verdict is that of a journal
pub judged_sound : (b : Bytes) (v : Verdict) (s : SoundParts) → Judged b v → v ≡ Sound s → (j : Journal) × LawfulJournal j × (b ≡ full j) × Parts s j
unfolding Judged
judged_sound b v s h e = subst (λ (x : Verdict). Judged b x) e h

module _ (files : Holds) (file : ℕ → Name) (d : ℕ) where
  -- a sound journal that names no super-journal is hot
  pub alone_hot :
      (b : Bytes) (j : Journal) (k : ℕ) → files (file (4 + d)) ≡ Some b → LawfulJournal j → b ≡ full j → None ≡ j.super → k ≡ length j.records →
      LookedAs files file d (LookHot k None)
  alone_hot b j k held ok is super count = (
    hot j,
    record {
      lawful = ok;
      held = held ∙ ap (λ (x : Bytes). Some x) is;
      present = λ w e gone. let z : ◌≡◌ {A = ℕ} 0 1 = cc in omega arith;
    },
    (None, ap (λ (x : ℕ). LookHot x None) count, subst (λ (o : Option Name). LinkBy file o None) super refl),
  )

  -- one that names a super-journal is as that is
  pub named_look :
      (b : Bytes) (j : Journal) (k : ℕ) (w : Name) (x : Look) → files (file (4 + d)) ≡ Some b → LawfulJournal j → b ≡ full j → Some w ≡ j.super → k ≡ length j.records →
      SuperLook files file k w x → LookedAs files file d x
  named_look b j k w x held ok is super count (inl gone) =
      subst (LookedAs files file d) (sym gone.1) (spent, (b, held, inr (j, ok, is, (w, sym super, gone.0))), refl)
  named_look b j k w x held ok is super count (inr there) = (
    hot j,
    record {
      lawful = ok;
      held = held ∙ ap (λ (x : Bytes). Some x) is;
      present = λ v e gone. let same : v ≡ w = cc (super, e) in there.0 (subst (λ (y : Name). files y ≡ None) same gone);
    },
    (Some there.1.0, there.1.1 ∙ ap (λ (x : ℕ). LookHot x (Some there.1.0)) count, subst (λ (o : Option Name). LinkBy file o (Some there.1.0)) super there.1.2),
  )

  -- a hot journal was seen as that
  pub seen_hot : (s : Seen) (j : Journal) → SeenAs files file d s → Hot files (files (file (4 + d))) j → s ≡ hot j
  seen_hot none j h was = let e = was.held in let z : ◌≡◌ {A = ℕ} 0 1 = cc (h, e) in absurd (omega arith)
  seen_hot spent j h was = absurd (by h.2)
    where
      bytes : h.0 ≡ full j
      bytes = some_same _ _ _ h.1 was.held

      by : Judged h.0 Spent ⊎ Orphan files h.0 → ⊥
      by (inl judged) =
          let t = journal_laws.round_trip j was.lawful Spent (subst (λ (x : Bytes). Judged x Spent) bytes judged) in
          let z : ◌≡◌ {A = ℕ} 0 1 = cc t.1 in omega arith
      by (inr o) =
          let same = journal_laws.same o.0 j o.1 was.lawful (sym o.2 ∙ bytes) in
          was.present o.3.0 (sym (ap (λ (x : Journal). x.super) same) ∙ o.3.1) o.3.2
  seen_hot (hot i) j h was = ap hot (journal_laws.same i j h.lawful was.lawful (some_same _ _ _ h.held was.held))

pub not_none : (f : Option Bytes) → (f ≡ None → ⊥) → Present f
not_none None h = absurd (h refl)
not_none (Some b) h = (b, refl)

link_is_ours : (file : ℕ → Name) (o : Option Name) → LinkBy file o (Some LinkOurs) → o ≡ Some (file 8)
link_is_ours file None h = let z : ◌≡◌ {A = ℕ} 0 1 = cc in absurd (omega arith)
link_is_ours file (Some w) h = ap (λ (x : Name). Some x) h

link_is_other : (file : ℕ → Name) (o : Option Name) → LinkBy file o (Some LinkOther) → (w : Name) × (o ≡ Some w) × (w ≡ file 8 → ⊥)
link_is_other file None h = let z : ◌≡◌ {A = ℕ} 0 1 = cc in absurd (omega arith)
link_is_other file (Some w) h = (w, refl, h)

ours_or_not : (file : ℕ → Name) (w : Name) (l : Option Link) → LinkBy file (Some w) l → (l ≡ Some LinkOther → ⊥) → w ≡ file 8
ours_or_not file w None h n = absurd h
ours_or_not file w (Some LinkOurs) h n = h
ours_or_not file w (Some LinkOther) h n = absurd (n refl)

ours_told : (file : ℕ → Name) (w : Name) (l : Option Link) → LinkBy file (Some w) l → w ≡ file 8 → l ≡ Some LinkOurs
ours_told file w None h e = absurd h
ours_told file w (Some LinkOurs) h e = refl
ours_told file w (Some LinkOther) h e = absurd (h e)

-- a look, as it is reported
look_found : (file : ℕ → Name) (s : Seen) (x : Look) → LookOf file s x → FoundOf s (found_of x)
look_found file none x e = subst (λ (y : Look). FoundOf none (found_of y)) (sym e) tt
look_found file spent x e = subst (λ (y : Look). FoundOf spent (found_of y)) (sym e) tt
look_found file (hot j) x h = subst (λ (y : Look). FoundOf (hot j) (found_of y)) (sym h.1) refl

-- only a hot journal has a link
look_linked : (file : ℕ → Name) (s : Seen) (x : Look) (l : Link) → LookOf file s x → link_of x ≡ Some l → (j : Journal) × (s ≡ hot j) × LinkBy file j.super (Some l)
look_linked file none x l e is = let h = ap link_of e in let z : ◌≡◌ {A = ℕ} 0 1 = cc in absurd (omega arith)
look_linked file spent x l e is = let h = ap link_of e in let z : ◌≡◌ {A = ℕ} 0 1 = cc in absurd (omega arith)
look_linked file (hot j) x l h is = (j, refl, subst (LinkBy file j.super) (sym (ap link_of h.1) ∙ is) h.2)

module _ (files : Holds) (file : ℕ → Name) where
  -- which super-journal a hot journal names
  link_hot : (d : ℕ) (x : Look) (j : Journal) (w : Name) → LookedAs files file d x → HotAt files file d j → j.super ≡ Some w → LinkBy file (Some w) (link_of x)
  link_hot d x j w looked h e =
      let as_hot : LookOf file (hot j) x = subst (λ (s : Seen). LookOf file s x) (seen_hot files file d looked.0 j looked.1 h) looked.2 in
      subst (λ (o : Option Name). LinkBy file o (link_of x)) e (subst (LinkBy file j.super) (sym (ap link_of as_hot.1)) as_hot.2)

  ours_hot : (d : ℕ) (x : Look) → LookedAs files file d x → link_of x ≡ Some LinkOurs → (j : Journal) × HotAt files file d j × (j.super ≡ Some (file 8))
  ours_hot d x looked e =
      let l = look_linked file looked.0 x LinkOurs looked.2 e in
      (l.0, subst (SeenAs files file d) l.1 looked.1, link_is_ours file l.0.super l.2)

  other_hot : (d : ℕ) (x : Look) → LookedAs files file d x → link_of x ≡ Some LinkOther → (j : Journal) × (w : Name) × HotAt files file d j × (j.super ≡ Some w) × (w ≡ file 8 → ⊥)
  other_hot d x looked e =
      let l = look_linked file looked.0 x LinkOther looked.2 e in
      let o = link_is_other file l.0.super l.2 in
      (l.0, o.0, subst (SeenAs files file d) l.1 looked.1, o.1, o.2)

  module _ (n : ℕ) (looks : List Look) (all : AllLooked files file n looks) where
    pub all_seen : (d : ℕ) → d < n → (s : Seen) × SeenAs files file d s
    all_seen d lt = ((all.each d lt).0, (all.each d lt).1)

    abbrev pick : (d : ℕ) → (d < n) ⊎ (n ≤ d) → Seen
    pick d (inl lt) = (all.each d lt).0
    pick d (inr le) = none

    picked : (d : ℕ) (w : (d < n) ⊎ (n ≤ d)) → d < n → SeenAs files file d (pick d w) × FoundOf (pick d w) (found_of (look_at looks d))
    picked d (inl lt) less = let x = all.each d lt in (x.1, look_found file x.0 (look_at looks d) x.2)
    picked d (inr le) less = absurd (omega arith)

    -- what was found, as it is told
    pub reported : (found : List Found) → n ≤ 4 → ((d : ℕ) → d < 4 → found_at found d ≡ found_of (look_at looks d)) → Reported files file n found
    reported found few is =
        record {
          seen = all_seen;
          reported = (
            λ d. pick d (cases_lt d n),
            λ d lt. let p = picked d (cases_lt d n) lt in (p.0, subst (FoundOf (pick d (cases_lt d n))) (sym (is d (omega arith))) p.1),
          );
          rest = λ d le lt. is d lt ∙ ap found_of (all.rest d le lt);
        }

    -- a journal with a link is one of the set's
    linked_below : (d : ℕ) (l : Link) → d < 4 → link_of (look_at looks d) ≡ Some l → d < n
    linked_below d l lt e = by (cases_lt d n)
      where
        by : (d < n) ⊎ (n ≤ d) → d < n
        by (inl less) = less
        by (inr le) = let none = ap link_of (all.rest d le lt) in let z : ◌≡◌ {A = ℕ} 0 1 = cc in absurd (omega arith)

    -- up to a place where none names another super-journal
    pub names_ours : (k : ℕ) → k ≤ n → n ≤ 4 → ((d : ℕ) → d < k → link_of (look_at looks d) ≡ Some LinkOther → ⊥) → NamesOurs files file k
    names_ours k le few none_other d j w lt h e = ours_or_not file w (link_of (look_at looks d)) (link_hot d (look_at looks d) j w (all.each d (omega arith)) h e) (none_other d lt)

    pub asked_by : (d : ℕ) → d < 4 → link_of (look_at looks d) ≡ Some LinkOurs → Asked files file n
    asked_by d small e =
        let lt = linked_below d LinkOurs small e in
        let o = ours_hot d (look_at looks d) (all.each d lt) e in
        (d, o.0, lt, o.1, o.2)

    -- the first that names another super-journal
    pub foreign_by :
        (d : ℕ) → AllPresent files file n → d < 4 → link_of (look_at looks d) ≡ Some LinkOther → ((i : ℕ) → i < d → link_of (look_at looks i) ≡ Some LinkOther → ⊥) → n ≤ 4 → ForeignJournal files file n d
    foreign_by d present small e before few =
        let lt = linked_below d LinkOther small e in
        record {
          within = lt;
          present = present;
          seen = all_seen;
          before = names_ours d (omega arith) few before;
          foreign = other_hot d (look_at looks d) (all.each d lt) e;
        }

    pub none_asked : n ≤ 4 → ((d : ℕ) → d < 4 → link_of (look_at looks d) ≡ Some LinkOurs → ⊥) → Asked files file n → ⊥
    none_asked few none-ours a =
        let lt : a.0 < n = a.2 in
        none-ours a.0 (omega arith) (ours_told file (file 8) (link_of (look_at looks a.0)) (link_hot a.0 (look_at looks a.0) a.1 (file 8) (all.each a.0 a.2) a.3 a.4) refl)

  pub asked_present : (n : ℕ) → Asked files file n → Present (files (file 8))
  asked_present n a = not_none (files (file 8)) (λ gone. a.3.present (file 8) a.4 gone)

-- what the looks at the journals told is of the files as they were before other looks
pub all_before :
    {C : Type 0} (m : Meaning C) (step : Step) (file : ℕ → Name) (n : ℕ) (c c₁ : C) (looks : List Look) → Looked m step file n c (Ok tt) c₁ → AllLooked (m.holds c₁) file n looks →
    AllLooked (m.holds c) file n looks
all_before m step file n c c₁ looks p all = subst (λ (x : Holds). AllLooked x file n looks) (looked_same m step file n c c₁ p) all
