use Rattle.std.proofs.Common.{arith}
use Rattle.mission_model.specs.declared.plan.PlanType.TheVariants.{Mission, Fence, Safe}
use Rattle.navigator.proofs.navigator.Navigator.new.Goals as goal

pub begin-requires-clause-limit : goal.begin-requires-clause-limit
begin-requires-clause-limit c = rw (c.in_ok-mission_window.ensures, c.head_of-mission.ensures) (c.requires.counts Mission)

pub begin-requires-2-clause-limit : goal.begin-requires-2-clause-limit
begin-requires-2-clause-limit c = rw (c.in_ok-fence_window.ensures, c.head_of-fence.ensures) (c.requires.counts Fence)

pub begin-requires-2-clause-room : goal.begin-requires-2-clause-room
begin-requires-2-clause-room c = rw (c.in_ok-fence_window.ensures, c.head_of-fence.ensures) (c.requires.counts Fence)

pub begin-requires-3-clause-limit : goal.begin-requires-3-clause-limit
begin-requires-3-clause-limit c = rw (c.in_ok-safe_window.ensures, c.head_of-safe.ensures) (c.requires.counts Safe)

pub begin-requires-3-clause-room : goal.begin-requires-3-clause-room
begin-requires-3-clause-room c = rw (c.in_ok-safe_window.ensures, c.head_of-safe.ensures) (omega (arith, c.requires.counts Safe))
