use Rattle.gated_cell.specs.Beside.{settled_only}
use Rattle.gated_cell.proofs.tests.keep_long.Goals as goal

pub open-requires-clause-settled : goal.open-requires-clause-settled
open-requires-clause-settled g c κs within = settled_only (record { at = 0; slot_bytes = 200 }) (g.D.Disk.state c.args.disk.now) c.requires.only

pub open-requires-2-clause-settled : goal.open-requires-2-clause-settled
open-requires-2-clause-settled g c κs within = settled_only (record { at = 0; slot_bytes = 200 }) (g.D.Disk.state c.open_spare.new.disk) c.in_ok-open_spare.ensures.durable
