-- The first loiter that is not left is among those that remain.
use Rattle.std.proofs.Common.{◌≡◌, drop}
use Rattle.feasibility.specs.SoFar.{first_not_left}
use Rattle.feasibility.proofs.loiters.Loiters.first_not_left.Given as goal

abbrev pub invariant-loop-loiter : goal.invariant-loop-loiter
invariant-loop-loiter l = first_not_left l.jumps.list.items (drop l.loiter-index l.self.list.items) ≡ first_not_left l.jumps.list.items l.self.list.items
