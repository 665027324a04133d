use Rattle.std.proofs.Common.{◌≡◌, ℕ, ◌-◌, leb, List, [], length, take, sym, refl, ap, ◌∙◌, arith, length-take-le}
use mathlib.Core.Logic.{∥∥₁_map}
use Rattle.std.proofs.lemmas.Bool.{cond-true, and_parts, leb-true}
use Rattle.pager.specs.declared.saved_page.SavedPage.{SavedPage}
use Rattle.pager.specs.Sound.{Fields}
use Rattle.pager.specs.View.{fields, stack, held_now}
use Rattle.pager.proofs.Keeps.{none_above}
use Rattle.pager.proofs.Stack.{release_law}
use Rattle.pager.proofs.Stacks.{passed_fields, stack_released, sound_released}
use Rattle.pager.proofs.memory.Memory.release.Goals as goal

pub returns-then-not-stands-clause-law : goal.returns-then-not-stands-clause-law
returns-then-not-stands-clause-law c = release_law

pub invariant_of-self : goal.invariant_of-self
unfolding passed_fields
invariant_of-self c =
    let m = c.args.self.now in
    let s = c.args.s in
    let n = length m.levels.items in
    let is = sym c.stands.ensures ∙ c.if-not-stands.false in
    let low = leb-true 1 s (and_parts (leb 1 s) (leb s n) is).0 in
    let high = leb-true s n (and_parts (leb 1 s) (leb s n) is).1 in
    let long : length c.truncate.new.self.items ≡ s - 1 = ap length c.truncate.ensures ∙ length-take-le (s - 1) m.levels.items (omega arith) in
    record {
      few = m.few;
      low = omega (arith, m.low);
      sound = ∥∥₁_map m.sound (λ old. rw (c.passed_down-self.ensures, c.truncate.ensures) (sound_released (λ _. []) (fields m) s n low high (none_above m) m.count m.few refl old));
    }

pub returns : goal.returns
unfolding passed_fields
returns c =
    let m = c.args.self.now in
    let s = c.args.s in
    let n = length m.levels.items in
    let is = sym c.stands.ensures ∙ c.if-not-stands.false in
    let low = leb-true 1 s (and_parts (leb 1 s) (leb s n) is).0 in
    let high = leb-true s n (and_parts (leb 1 s) (leb s n) is).1 in
    let long : length c.truncate.new.self.items ≡ s - 1 = ap length c.truncate.ensures ∙ length-take-le (s - 1) m.levels.items (omega arith) in
    let with : List SavedPage → List (List ℕ) → Fields = λ l k. record { sizes = m.sizes; maps = m.maps; changed = (fields m).changed; saved = l; level_sizes = k } in
    record {
      refusal = sym (cond-true _ _ _ is);
      kept = λ some. absurd (some refl);
      count = refl;
      done = λ _ files.
          let st =
          ap (stack files (with c.passed_down-self.result.rows.items c.truncate.new.self.items)) long
          ∙ ap (λ (k : List (List ℕ)). stack files (with c.passed_down-self.result.rows.items k) (s - 1)) c.truncate.ensures
          ∙ ap (λ (l : List SavedPage). stack files (with l (take (s - 1) m.levels.items)) (s - 1)) c.passed_down-self.ensures
          ∙ stack_released files (fields m) s n low high (none_above m) in
          λ i. record { held = held_now files (fields m); savepoints = st i };
      saved = λ _. c.passed_down-self.ensures;
      changed = refl;
      law = release_law;
    }
