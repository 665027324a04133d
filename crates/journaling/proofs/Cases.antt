-- The small commits are as the examples say.
use Rattle.std.proofs.Common.{refl}
use Rattle.page_map.specs.Listed.{above}
use Rattle.page_map.specs.Sets.{counted}
use Rattle.journaling.specs.Plan.{for_each, read_tasks, write_tasks}
use Rattle.journaling.specs.Changes.{recorded, changed_list}
use Rattle.journaling.specs.Examples.{Examples}

pub examples : Examples
unfolding above counted for_each read_tasks write_tasks recorded changed_list
examples =
    record {
      listed = refl;
      within = refl;
      added = refl;
      nothing = refl;
      alone = refl;
      alone_left = refl;
      both = refl;
      named = refl;
      both_left = refl;
    }
