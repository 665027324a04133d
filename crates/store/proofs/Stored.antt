-- A commit that is done leaves in the files what the transaction held.
use Rattle.std.proofs.Common.{◌≡◌, ℕ, ◌-◌, ◌*◌, ◌<◌, List, [], ◌∷◌, map, length, get_or, Ok, Err, IfOk, Some, None, Option, Result, sym, refl, ap, ◌∙◌, subst, inl, arith}
use Rattle.card.specs.Meaning.{Meaning, Bytes}
use Rattle.card.specs.Calls.{part}
use Rattle.names.specs.declared.names.Names.{Names}
use Rattle.names.specs.Files.{how_many, file_of as file_named}
use Rattle.page_map.specs.Listed.{above}
use Rattle.pager.specs.Sound.{map_of}
use Rattle.pager.specs.Machine.{Machine, put_page}
use Rattle.pager.specs.View.{view, Stored}
use Rattle.pager.proofs.Lands.{put_all, changed_lands}
use Rattle.pager.proofs.Sizes.{held_long}
use Rattle.refusal.specs.declared.fault.SetFault.{SetFault}
use Rattle.refusal.specs.declared.refusals.Refusal.{Refusal}
use Rattle.journaling.specs.Changes.{contents, page_held, pages_held, changes}
use Rattle.commit.specs.Ended.{Committed}
use Rattle.commit.proofs.Landed.{landed, Lasts, all_deleted, made_safe, committed_holds, committed_safe}
use Rattle.store.specs.declared.set.Set.{Set}
use Rattle.store.specs.Calls.{told}
use Rattle.store.specs.Reads.{file_of, files_of}
use Rattle.store.specs.Commits.{nonce_of, Concluded, CarriedOut, Commits}
use Rattle.store.specs.Standing.{Stores, current_of}
use Rattle.store.proofs.Filed.{of_database, all_stored}

-- pages that the machine holds, written one after the other
landed_all : (mach : Machine) (d : ℕ) (content : Bytes) (ps : List ℕ) → landed content (map (page_held mach d) ps) ≡ put_all content (λ p. part (mach.held.current d) ((p - 1) * 512) 512) ps
unfolding landed put_all
landed_all mach d content [] = refl
landed_all mach d content (p ∷ ps) = landed_all mach d (put_page content p (part (mach.held.current d) ((p - 1) * 512) 512)) ps

module _ {C : Type 0} (m : Meaning C) (s s' : Set C) (stored : Stored (files_of m s) s.stored.rows) where
  abbrev mach : Machine
  mach = view (files_of m s) s.memory

  -- the changed pages of a database make it what the transaction holds
  lands : (d : ℕ) → d < how_many s.names → landed (contents (m.holds s.card (file_of s d))) (pages_held mach d) ≡ current_of m s d
  lands d lt =
      let four : d < 4 = omega (arith, lt, s.names.list.few) in
      ap (λ (x : Bytes). landed x (pages_held mach d)) (sym (of_database m s d lt))
      ∙ landed_all mach d (files_of m s d) (above (map_of s.memory.maps d) 0 4096)
      ∙ changed_lands (files_of m s) s.memory d (get_or s.stored.rows d 0) four (stored d) (s.grown.size d) (s.fitting d four).1 (s.grown.past d)

  module _ (left : ℕ) (done : Committed m (file_of s) (nonce_of s.mode) (changes (files_of m s) s.stored.rows mach (how_many s.names)) s.card (Ok left) s'.card) (names : s'.names ≡ s.names)
      (concluded : Concluded (Ok left) s.memory s.stored s'.mode s'.memory s'.stored) where
    there : (d : ℕ) → d < how_many s.names → d < how_many s'.names
    there d lt = subst (λ (n : Names). d < how_many n) (sym names) lt

    holds : (d : ℕ) (lt : d < how_many s.names) → Lasts m s.names (files_of m s) s.stored.rows mach d lt s.card left s'.card → files_of m s' d ≡ current_of m s d
    holds d lt lasts =
        of_database m s' d (there d lt)
        ∙ ap (λ (n : Names). contents (m.holds s'.card (file_named n d))) names
        ∙ committed_holds m s.names (files_of m s) s.stored.rows mach d lt (nonce_of s.mode) s.card s'.card left done lasts
        ∙ lands d lt

    all : left ≡ 0 → (d : ℕ) → d < how_many s.names → files_of m s' d ≡ current_of m s d
    all none d lt = holds d lt (all_deleted none)

    whole : left ≡ 0 → Stored (files_of m s') s'.stored.rows
    whole none =
        all_stored m s'
        (λ d lt'. let lt : d < how_many s.names = subst (λ (n : Names). d < how_many n) names lt' in
        ap length (sym (of_database m s' d lt') ∙ all none d lt) ∙ held_long (files_of m s) s.memory d ∙ ap (λ (rows : List ℕ). get_or rows d 0 * 512) (sym concluded.1))

    pub stores : Stores m s left s'
    stores = record {
      changed = λ d lt is. holds d lt (made_safe is);
      safe = λ d lt is. committed_safe m s.names (files_of m s) s.stored.rows mach d lt (nonce_of s.mode) s.card s'.card left done (inl is);
      all = all;
      shows = λ none. record { stored = whole none; machine = concluded.2.view (files_of m s') (subst (Stored (files_of m s')) concluded.1 (whole none)) };
    }

-- and so by the answer that is told
pub carried_stores : {C : Type 0} (m : Meaning C) (s : Set C) (r : Result ℕ Refusal) (s' : Set C) → CarriedOut m s r s' → IfOk r (λ left. Stored (files_of m s) s.stored.rows → Stores m s left s')
carried_stores m s r s' c = by c.answer c.told c.committed c.concluded
  where
    by :
        (a : Result ℕ SetFault) → r ≡ told a → Committed m (file_of s) (nonce_of s.mode) (changes (files_of m s) s.stored.rows (view (files_of m s) s.memory) (how_many s.names)) s.card a s'.card →
        Concluded a s.memory s.stored s'.mode s'.memory s'.stored → IfOk r (λ left. Stored (files_of m s) s.stored.rows → Stores m s left s')
    by (Ok left) is done ended = subst (λ (x : Result ℕ Refusal). IfOk x (λ left. Stored (files_of m s) s.stored.rows → Stores m s left s')) (sym is) (λ stored. stores m s s' stored left done c.names ended)
    by (Err f) is done ended = subst (λ (x : Result ℕ Refusal). IfOk x (λ left. Stored (files_of m s) s.stored.rows → Stores m s left s')) (sym is) tt

pub commit_stores :
    {C : Type 0} (m : Meaning C) (s : Set C) (r : Result ℕ Refusal) (s' : Set C) (says : Option Refusal) → Commits m s r s' says →
    IfOk r (λ left. Stored (files_of m s) s.stored.rows → Stores m s left s')
commit_stores m s r s' None c = carried_stores m s r s' c
commit_stores m s r s' (Some e) c = subst (λ (x : Result ℕ Refusal). IfOk x (λ left. Stored (files_of m s) s.stored.rows → Stores m s left s')) (sym c.0) tt
