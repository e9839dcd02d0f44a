use Rattle.std.proofs.Common.{ap, take}
use Rattle.mission_model.proofs.Places.{kept-same}
use Rattle.mission_model.proofs.counts.is_same_cells.Goals as goal

pub returns : goal.returns
returns c = (
  λ h. kept-same c.args.len c.args.left.now c.args.right.now c.requires.left c.requires.right c.requires.length ((c.is_same_pairs.ensures).0 h),
  λ h. (c.is_same_pairs.ensures).1 (ap (take c.args.len) h),
)
