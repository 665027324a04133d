-- The small runs of the machine, and of a store of saved pages, are as the examples say.
use Rattle.std.proofs.Common.{◌≡◌, refl}
use Rattle.page_map.specs.Sets.{counted, total}
use Rattle.pager.specs.Machine.{put, saving, saved_in_all, saved_by, pass_down, released, restored}
use Rattle.pager.specs.Saved.{has, first, gathered}
use Rattle.pager.specs.Examples.{Examples, twice}

all_twice : saved_in_all twice.savepoints ≡ 2
unfolding saved_in_all saving total counted
all_twice = refl

all_once : saved_in_all (released 2 twice).savepoints ≡ 1
unfolding saved_in_all saving saved_by pass_down total counted
all_once = refl

pub examples : Examples
unfolding put saving saved_by pass_down restored has first gathered
examples =
    record {
      now = refl;
      changed = refl;
      saved = refl;
      back_page = refl;
      back_changed = refl;
      back_saved = refl;
      back_upper = refl;
      back_lower = refl;
      release_held = refl;
      release_saved = refl;
      all_twice = all_twice;
      all_once = all_once;
      first_at = refl;
      has_not = refl;
      passed = refl;
      dropped = refl;
    }
