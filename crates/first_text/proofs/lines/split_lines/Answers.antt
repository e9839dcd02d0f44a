use Rattle.first_text.proofs.FaultSteps.{fault_high}
use Rattle.first_text.proofs.lines.split_lines.Goals as goal

pub returns-in-Some-clause-fault : goal.returns-in-Some-clause-fault
returns-in-Some-clause-fault c = fault_high c.args.text.now c.in-Some.place c.in-Some.ensures
