use Rattle.std.proofs.Common.{◌≡◌, ◌++◌, min}
use Rattle.nav_num.specs.Digits.{leading_number}
use Rattle.nav_num.proofs.number.leading_up_to.Given as goal

abbrev pub invariant-loop-place : goal.invariant-loop-place
invariant-loop-place l = l.number ≡ min (leading_number (l.whole ++ l.fraction) l.place) l.limit
