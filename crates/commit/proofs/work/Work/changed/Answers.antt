use Rattle.std.proofs.Common.{◌≡◌, ◌∙◌}
use Rattle.commit.specs.Works.{listed}
use Rattle.commit.proofs.Listed.{listed_in}
use Rattle.commit.proofs.work.Work.changed.Goals as goal

pub returns : goal.returns
returns c =
    let is : c.as_slice.result.now ≡ listed c.args.self.now = c.as_slice.ensures.is ∙ c.args.self.now.listed in
    record {
      is = is;
      few = c.as_slice.ensures.few;
      named = λ i lt. listed_in _ _ _ is i lt;
    }
