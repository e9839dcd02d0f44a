-- The machine is one of the mission's number of items.
use Rattle.std.proofs.Common.{◌≡◌, length}
use Rattle.leg_machine.proofs.machine.tests.differs.Given as goal

abbrev pub invariant-loop-row : goal.invariant-loop-row
invariant-loop-row l = length l.items ≡ l.machine.count
