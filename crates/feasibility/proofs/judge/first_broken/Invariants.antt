-- The first broken rule is among those that are left.
use Rattle.std.proofs.Common.{◌≡◌, ◌+◌, drop}
use Rattle.mission_model.specs.Feasible.{first_broken}
use Rattle.feasibility.proofs.judge.first_broken.Given as goal

abbrev pub invariant-loop-before : goal.invariant-loop-before
invariant-loop-before l = first_broken (l.before + 1) (drop l.before l.places) ≡ first_broken 1 l.places
