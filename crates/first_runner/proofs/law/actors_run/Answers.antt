use Rattle.first_runner.proofs.ActorsRun.{whole_of_actors, so_far_of_actors}
use Rattle.first_runner.proofs.law.actors_run.Goals as goal

pub returns-clause-whole : goal.returns-clause-whole
returns-clause-whole c = whole_of_actors c.parts_fit.ensures.begin c.parts_fit.ensures.stay

pub returns-clause-so_far : goal.returns-clause-so_far
returns-clause-so_far c = so_far_of_actors c.parts_fit.ensures.begin c.parts_fit.ensures.stay
