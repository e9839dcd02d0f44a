-- The power ends a run.
use Rattle.vehicle_core.proofs.PowerEnds.{off_comes, off_last, part_off}
use Rattle.vehicle_core.proofs.laws.the_power_ends_a_run.Goals as goal

pub returns-clause-comes : goal.returns-clause-comes
returns-clause-comes g c = off_comes

pub returns-clause-leaves : goal.returns-clause-leaves
returns-clause-leaves g c = off_last

pub returns-clause-last : goal.returns-clause-last
returns-clause-last g c = part_off
