use Rattle.std.proofs.Common.{◌≡◌}
use Rattle.first_num.specs.Decimal.{last_digits, without_last_zeros}
use Rattle.first_num.proofs.print.without_zeros.Given as goal

abbrev pub invariant-loop-count : goal.invariant-loop-count
invariant-loop-count l = without_last_zeros (last_digits l.count l.number) ≡ without_last_zeros (last_digits l.fn.count l.fn.number)

abbrev pub decreases-loop-count : goal.decreases-loop-count
decreases-loop-count l = l.count
