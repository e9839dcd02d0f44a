use Rattle.std.proofs.Common.{arith, ◌∙◌, inr}
use Rattle.first_num.proofs.Trimming.{zero_dropped, none_dropped}
use Rattle.first_num.proofs.print.without_zeros.Goals as goal

pub loop-count-preserved : goal.loop-count-preserved
loop-count-preserved c = zero_dropped c.loop-count.count c.loop-count.number (omega arith) (omega arith) ∙ c.loop-count.invariant

pub returns-else-number-eq0 : goal.returns-else-number-eq0
returns-else-number-eq0 c = none_dropped c.loop-count.count c.loop-count.number (inr c.if-number-eq0.false) ∙ c.loop-count.invariant
