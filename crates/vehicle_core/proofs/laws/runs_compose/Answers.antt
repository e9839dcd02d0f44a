-- Runs compose.
use Rattle.vehicle_core.proofs.Runs.{runs_append, so_far_append, whole_so_far, so_far_begins}
use Rattle.vehicle_core.proofs.laws.runs_compose.Goals as goal

pub returns-clause-whole : goal.returns-clause-whole
returns-clause-whole g c rules boots more others watchers first second one two = runs_append rules boots others first more watchers second one two

pub returns-clause-so_far : goal.returns-clause-so_far
returns-clause-so_far g c rules boots more others watchers first second one two = so_far_append rules boots others first more watchers second one two

pub returns-clause-ends : goal.returns-clause-ends
returns-clause-ends g c = whole_so_far

pub returns-clause-begins : goal.returns-clause-begins
returns-clause-begins g c = so_far_begins
