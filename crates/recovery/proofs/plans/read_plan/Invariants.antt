-- The items before the seq were read and checked.
use Rattle.recovery.proofs.Items.{SoFar}
use Rattle.recovery.proofs.plans.read_plan.Given as goal

abbrev pub invariant-loop-seq : goal.invariant-loop-seq
invariant-loop-seq g l = SoFar l.layout l.kind l.banks l.seq l.check l.jumps (g.D.Disk.state l.fn.disk) (g.D.Disk.state l.disk)
