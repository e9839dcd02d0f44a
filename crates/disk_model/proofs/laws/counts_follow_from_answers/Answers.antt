use Rattle.disk_model.specs.CountLaws.{meter_after_calls, tallied}
use Rattle.disk_model.proofs.laws.counts_follow_from_answers.Goals as goal

pub returns-clause-after : goal.returns-clause-after
returns-clause-after c old new calls made = meter_after_calls calls old new made

pub returns-clause-tallied : goal.returns-clause-tallied
returns-clause-tallied c old new calls made = tallied calls old new made
