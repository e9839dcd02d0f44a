-- The first jump to a jump is among those that are left.
use Rattle.std.proofs.Common.{◌≡◌, drop}
use Rattle.feasibility.specs.SoFar.{first_to_jump}
use Rattle.feasibility.proofs.jumps.Jumps.first_to_jump.Given as goal

abbrev pub invariant-loop-jump : goal.invariant-loop-jump
invariant-loop-jump l = first_to_jump l.jumps (drop l.jump-index l.jumps) ≡ first_to_jump l.jumps l.jumps
