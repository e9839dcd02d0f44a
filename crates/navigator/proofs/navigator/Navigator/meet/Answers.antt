use Rattle.std.proofs.Common.{arith}
use Rattle.mission_model.specs.declared.plan.PlanType.TheVariants.{Mission, Fence, Safe}
use Rattle.navigator.proofs.navigator.Navigator.meet.Goals as goal

pub meet-requires-clause-room : goal.meet-requires-clause-room
meet-requires-clause-room c = rw c.head_of-fence.ensures (c.requires.counts Fence)

pub meet-requires-2-clause-limit : goal.meet-requires-2-clause-limit
meet-requires-2-clause-limit c = rw c.head_of-mission.ensures (c.requires.counts Mission)

pub meet-requires-3-clause-room : goal.meet-requires-3-clause-room
meet-requires-3-clause-room c = rw c.head_of-safe.ensures (omega (arith, c.requires.counts Safe))
