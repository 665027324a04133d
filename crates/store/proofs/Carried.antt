-- A commit that was carried out on the parts of a set is one of the set.
use Rattle.std.proofs.Common.{◌≡◌, ℕ, List, None, Result, sym, ap, ◌∙◌, subst}
use Rattle.card.specs.Meaning.{Meaning}
use Rattle.names.specs.Files.{how_many}
use Rattle.refusal.specs.declared.fault.SetFault.{SetFault}
use Rattle.refusal.specs.declared.refusals.Refusal.{Refusal}
use Rattle.pager.specs.View.{view}
use Rattle.journaling.specs.Changes.{changes, contents}
use Rattle.journaling.specs.Plan.{Change}
use Rattle.commit.specs.Ended.{Committed}
use Rattle.store.specs.declared.set.Set.{Set}
use Rattle.store.specs.declared.mode.Call.TheVariants.{Use}
use Rattle.store.specs.Modes.{says}
use Rattle.store.specs.Calls.{told}
use Rattle.store.specs.Reads.{file_of, files_of}
use Rattle.store.specs.Commits.{nonce_of, Concluded, CarriedOut, Commits}
use Rattle.store.proofs.Filed.{same_changes}

module _ {C : Type 0} (m : Meaning C) where
  of_set :
      (s s' : Set C) (nonce : ℕ) (card' : C) (answer : Result ℕ SetFault) (r : Result ℕ Refusal) → nonce ≡ nonce_of s.mode →
      Committed m (file_of s) nonce (changes (λ d. contents (m.holds s.card (file_of s d))) s.stored.rows (view (λ d. contents (m.holds s.card (file_of s d))) s.memory) (how_many s.names)) s.card answer card' →
      r ≡ told answer → Concluded answer s.memory s.stored s'.mode s'.memory s'.stored → s'.card ≡ card' → s'.names ≡ s.names → s'.begun ≡ s.begun →
      CarriedOut m s r s'
  of_set s s' nonce card' answer r nonce_is done is ended card names begun =
      let all = changes (files_of m s) s.stored.rows (view (files_of m s) s.memory) (how_many s.names) in
      record {
        answer = answer;
        committed =
            subst (λ (x : C). Committed m (file_of s) (nonce_of s.mode) all s.card answer x) (sym card)
            (subst (λ (x : ℕ). Committed m (file_of s) x all s.card answer card') nonce_is
            (subst (λ (x : List Change). Committed m (file_of s) nonce x s.card answer card') (same_changes m s s.stored.rows s.memory) done));
        told = is;
        concluded = ended;
        names = names;
        begun = begun;
      }

  -- the set is as it was where the test of the mode let the commit pass
  pub carried :
      (s at s' : Set C) (nonce : ℕ) (card' : C) (answer : Result ℕ SetFault) (r : Result ℕ Refusal) (asked number : ℕ) → None ≡ says s.mode s.begun (Use asked) → asked ≡ number →
      at ≡ s →
      nonce ≡ nonce_of s.mode →
      Committed m (file_of at) nonce (changes (λ d. contents (m.holds at.card (file_of at d))) at.stored.rows (view (λ d. contents (m.holds at.card (file_of at d))) at.memory) (how_many at.names)) at.card answer card' →
      r ≡ told answer → Concluded answer at.memory at.stored s'.mode s'.memory s'.stored → s'.card ≡ card' → s'.names ≡ at.names → s'.begun ≡ at.begun →
      Commits m s r s' (says s.mode s.begun (Use number))
  carried s at s' nonce card' answer r asked number passes taken same nonce_is done is ended card names begun =
      subst (λ (n : ℕ). Commits m s r s' (says s.mode s.begun (Use n))) taken
      (subst (Commits m s r s') passes
      (subst (λ (x : Set C). CarriedOut m x r s') same
      (of_set at s' nonce card' answer r (nonce_is ∙ ap (λ (x : Set C). nonce_of x.mode) (sym same)) done is ended card names begun)))
