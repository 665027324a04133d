use Rattle.std.proofs.Common.{ℕ, List, [], length, replicate, refl, ap, ◌∙◌, arith}
use Rattle.pager.specs.declared.changed_page.ChangedPage.{ChangedPage}
use Rattle.pager.specs.View.{held_now, stack}
use Rattle.pager.proofs.Fresh.{maps_empty, sound_fresh, view_fresh}
use Rattle.pager.proofs.memory.Memory.new.Goals as goal

pub invariant_of-result : goal.invariant_of-result
invariant_of-result c =
    let maps = replicate 4 c.new.result in
    let fresh = sound_fresh maps (maps_empty c.new.result c.new.ensures) c.min.result c.args.sizes in
    record { few = omega arith; low = omega (arith, ap length c.new-4.ensures); sound = ∣ rw (c.new-2.ensures, c.new-3.ensures, c.new-4.ensures) fresh ∣₁ }

pub returns : goal.returns
unfolding stack
returns c =
    let maps = replicate 4 c.new.result in
    record {
      count = omega arith;
      sizes = refl;
      empty = (c.new-2.ensures, c.new-3.ensures);
      view = λ files stored.
          let h =
          ap (λ (l : List ChangedPage). held_now files (record { sizes = c.args.sizes; maps = maps; changed = l; saved = []; level_sizes = [] })) c.new-2.ensures
          ∙ view_fresh maps (maps_empty c.new.result c.new.ensures) files c.args.sizes [] stored in
          let s = ap (λ (k : ℕ). stack files (record { sizes = c.args.sizes; maps = maps; changed = c.new-2.result.rows.items; saved = c.new-3.result.rows.items; level_sizes = c.new-4.result.items }) k) (ap length c.new-4.ensures) in
          λ i. record { held = h i; savepoints = s i };
    }
