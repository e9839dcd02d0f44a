use Rattle.first_store.proofs.Failures.{same_after, doubt_after, unwritten_after}
use Rattle.first_store.proofs.laws.failures_change_no_plan.Goals as goal
use Rattle.std.proofs.Common.{refl}

pub returns-clause-in_force : goal.returns-clause-in_force
returns-clause-in_force c = same_after

pub returns-clause-doubt : goal.returns-clause-doubt
returns-clause-doubt c = doubt_after

pub returns-clause-unsettled : goal.returns-clause-unsettled
returns-clause-unsettled c = λ fault st asked. refl

pub returns-clause-unwritten : goal.returns-clause-unwritten
returns-clause-unwritten c = unwritten_after
