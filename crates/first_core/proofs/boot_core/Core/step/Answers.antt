use Rattle.first_core.proofs.Readiness.{idle_exactly}
use Rattle.first_core.proofs.boot_core.Core.step.Goals as goal

pub returns-clause-idle : goal.returns-clause-idle
returns-clause-idle c = idle_exactly c.args.self.now c.args.actor c.args.input c.act-out.result c.act-out.new.self c.act-out.ensures.step
