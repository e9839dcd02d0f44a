-- What is read so far goes on to the number of all digits.
use Rattle.std.proofs.Common.{◌≡◌, ◌-◌, ◌≤◌, length, drop}
use Rattle.record_text.specs.Numbers.{number_from}
use Rattle.record_text.proofs.cursor.number.Given as goal

abbrev pub invariant-loop-number : goal.invariant-loop-number
invariant-loop-number l = (l.place ≤ length l.bytes) × (number_from l.number (drop l.place l.bytes) ≡ number_from 0 l.bytes)

abbrev pub decreases-loop-number : goal.decreases-loop-number
decreases-loop-number l = length l.bytes - l.place
