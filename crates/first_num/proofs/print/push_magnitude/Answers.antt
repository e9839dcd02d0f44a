use Rattle.std.proofs.Common.{arith, lit<}
use Rattle.std.proofs.Math.Nat.{one-le-pow}
use Rattle.first_num.proofs.print.push_magnitude.Goals as goal

pub nonzero_div-magnitude : goal.nonzero_div-magnitude
nonzero_div-magnitude c = omega (arith, c.pow-unit.ensures, one-le-pow c.from.result 10 (lit< tt))

pub nonzero_rem-magnitude : goal.nonzero_rem-magnitude
nonzero_rem-magnitude c = omega (arith, c.pow-unit.ensures, one-le-pow c.from.result 10 (lit< tt))
