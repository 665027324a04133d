-- A set that is ready after a recovery shows just what its files hold.
use Rattle.std.proofs.Common.{◌≡◌, ℕ, ◌*◌, List, length, get_or, Ok, Err, IfOk, Option, Result, sym, ap, ◌∙◌, subst}
use Rattle.card.specs.Meaning.{Meaning, Bytes}
use Rattle.names.specs.declared.names.Names.{Names}
use Rattle.names.specs.Files.{names_of, how_many}
use Rattle.names.specs.Names.{named}
use Rattle.refusal.specs.declared.refusals.Refusal.{Refusal}
use Rattle.pager.specs.View.{Stored}
use Rattle.journaling.specs.Changes.{contents}
use Rattle.recovery.specs.declared.report.Recovery.{Recovery}
use Rattle.recovery.specs.Measured.{HasPages}
use Rattle.recovery.proofs.Standing.{Standing, standing}
use Rattle.store.specs.declared.set.Set.{Set}
use Rattle.store.specs.Reads.{file_of, files_of}
use Rattle.store.specs.Recovers.{Restarted, Recovers}
use Rattle.store.specs.Standing.{AsFiles}
use Rattle.store.proofs.Filed.{all_stored}

-- a file of so many pages is so long
pages_long : (f : Option Bytes) (p : ℕ) → HasPages f p → length (contents f) ≡ p * 512
pages_long f p h = ap (λ (x : Option Bytes). length (contents x)) h.1 ∙ h.2.whole

module _ {C : Type 0} (m : Meaning C) (s s' : Set C) where
  as_files : (r : Result Recovery Refusal) → Standing m (file_of s') (how_many s'.names) s'.card r → Restarted r s.memory s.stored s'.mode s'.memory s'.stored → IfOk r (λ _. AsFiles m s')
  as_files (Ok found) has e =
      let same : (d : ℕ) → get_or found.sizes d 0 * 512 ≡ get_or s'.stored.rows d 0 * 512 = λ d. ap (λ (rows : List ℕ). get_or rows d 0 * 512) (sym e.1) in
      let stored : Stored (files_of m s') s'.stored.rows = all_stored m s' (λ d lt. pages_long _ _ (has d lt) ∙ same d) in
      record { stored = stored; machine = e.2.view (files_of m s') (subst (Stored (files_of m s')) e.1 stored) }
  as_files (Err f) has e = tt

  pub shows : (r : Result Recovery Refusal) → Recovers m s r s' → IfOk r (λ _. AsFiles m s')
  shows r a =
      as_files r
      (subst (λ (names : Names). Standing m (named (names_of names)) (how_many names) s'.card r) (sym a.names) (standing m (file_of s) (how_many s.names) s.card s'.card r a.recovered))
      a.restarted
