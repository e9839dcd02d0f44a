use Rattle.run_script.proofs.InLimits.{read_in_limits}
use Rattle.run_script.proofs.read.read_script.Goals as goal

pub returns-clause-limits : goal.returns-clause-limits
returns-clause-limits c = read_in_limits c.args.bytes.now c.read_text.result c.read_text.ensures.good
