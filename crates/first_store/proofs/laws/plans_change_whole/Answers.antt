use Rattle.first_store.proofs.Wholes.{same_in_force, can_commit, plan_whole, others_stay}
use Rattle.first_store.proofs.laws.plans_change_whole.Goals as goal

pub returns-clause-written : goal.returns-clause-written
returns-clause-written c = λ st kind id seq items. same_in_force items st kind id seq

pub returns-clause-can : goal.returns-clause-can
returns-clause-can c = λ st kind id items. can_commit items st kind id

pub returns-clause-committed : goal.returns-clause-committed
returns-clause-committed c = λ st kind id items. plan_whole items st kind id

pub returns-clause-others : goal.returns-clause-others
returns-clause-others c = others_stay
