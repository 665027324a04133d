use Rattle.std.proofs.Common.{◌≡◌, ℕ, ◌+◌, suc, List, [], ◌∷◌, length, sym, refl, ap, ◌∙◌, add-one, arith, length-append}
use mathlib.Core.Logic.{∥∥₁_map}
use Rattle.std.proofs.lemmas.Bool.{cond-false, eq-eqb, both_ways}
use Rattle.pager.specs.Sound.{Fields}
use Rattle.pager.specs.View.{fields, stack, held_now}
use Rattle.pager.proofs.Keeps.{none_above}
use Rattle.pager.proofs.Stack.{back_law}
use Rattle.pager.proofs.Stacks.{with_sizes, stack_pushed, sound_pushed}
use Rattle.pager.proofs.memory.Memory.push.Goals as goal

pub returns-then-is_full-clause-back : goal.returns-then-is_full-clause-back
returns-then-is_full-clause-back c = back_law

pub invariant_of-self : goal.invariant_of-self
unfolding with_sizes
invariant_of-self c =
    let m = c.args.self.now in
    let n = length m.levels.items in
    let long : length c.push.new.self.items ≡ n + 1 = ap length c.push.ensures ∙ length-append m.levels.items (m.sizes ∷ []) in
    let room : (n ≡ 8 → ⊥) = λ e. both_ways _ (sym c.is_full.ensures ∙ c.if-is_full.false) (eq-eqb n 8 e) in
    record {
      few = m.few;
      low = omega arith;
      sound = ∥∥₁_map m.sound (λ s. rw c.push.ensures (sound_pushed (λ _. []) (fields m) n (none_above m) refl m.count s));
    }

pub returns : goal.returns
unfolding with_sizes
returns c =
    let m = c.args.self.now in
    let n = length m.levels.items in
    let long : length c.push.new.self.items ≡ n + 1 = ap length c.push.ensures ∙ length-append m.levels.items (m.sizes ∷ []) in
    let with : List (List ℕ) → Fields = λ l. record { sizes = m.sizes; maps = m.maps; changed = (fields m).changed; saved = (fields m).saved; level_sizes = l } in
    record {
      refusal = sym (cond-false _ _ _ (sym c.is_full.ensures ∙ c.if-is_full.false));
      kept = λ some. absurd (some refl);
      count = refl;
      number = (c.len.ensures.is ∙ long, sym c.len.ensures.is);
      done = λ _ files.
          let s =
          ap (stack files (with c.push.new.self.items)) (long ∙ add-one n) ∙ ap (λ (l : List (List ℕ)). stack files (with l) (suc n)) c.push.ensures
          ∙ stack_pushed files (fields m) n (none_above m) refl in
          λ i. record { held = held_now files (fields m); savepoints = s i };
      stores = (refl, refl);
      back = back_law;
    }
