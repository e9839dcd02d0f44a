use Rattle.recovery.proofs.Exactly.{exactly}
use Rattle.recovery.proofs.pass.no_fault_exactly.Goals as goal

pub returns : goal.returns
returns c = exactly
