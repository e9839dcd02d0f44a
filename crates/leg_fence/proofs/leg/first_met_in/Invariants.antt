-- No edge so far is met.
use Rattle.mission_model.specs.Fence.{edges_of}
use Rattle.leg_fence.proofs.First.{MetNone}
use Rattle.leg_fence.proofs.leg.first_met_in.Given as goal

abbrev pub invariant-loop-at : goal.invariant-loop-at
invariant-loop-at l = MetNone (edges_of l.polygon) l.p l.q l.at
