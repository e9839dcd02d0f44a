use Rattle.std.proofs.Common.{◌-◌, ap, ◌∙◌}
use Rattle.std.specs.Prelude.{bit_and}
use Rattle.std.proofs.lemmas.Nat.{one_shl, and_mask}
use Rattle.fence_polygon.proofs.fence.lowest.Goals as goal

pub returns-then-size-lt64 : goal.returns-then-size-lt64
returns-then-size-lt64 c = ap (λ n. bit_and c.args.bits (n - 1)) (one_shl c.args.size 64 c.if-size-lt64.true) ∙ and_mask c.args.bits c.args.size
