use Rattle.std.proofs.Common.{◌≡◌, ap, ◌∙◌, arith}
use Rattle.page_map.specs.Sets.{PageSet}
use Rattle.page_map.specs.Listed.{above}
use Rattle.page_map.specs.Walks.{left}
use Rattle.page_map.proofs.Once.{each_once}
use Rattle.pager.specs.Sound.{map_of}
use Rattle.pager.proofs.Walks.{pages_looked_up, walk_few, walk_held, walk_none}
use Rattle.pager.proofs.memory.Memory.changed_pages.Goals as goal

pub returns : goal.returns
returns c =
    let m = c.args.self.now in
    let d = c.args.database in
    let is : left c.new.result ≡ above (map_of m.maps d) 0 4096 = c.new.ensures.is ∙ ap (λ (s : PageSet). above s 0 4096) (pages_looked_up m.maps d c.get.result (c.get.ensures.lookup.4 (omega arith))) in
    record {
      is = is;
      few = rw is (walk_few m d);
      held = rw is (walk_held m d);
      once = rw is (each_once (map_of m.maps d));
      absent = λ past. is ∙ walk_none m d past;
    }
