use Rattle.first_runner.proofs.TiedBoot.{flight_run, so_far_run}
use Rattle.first_runner.proofs.law.one_vehicle.Goals as goal

pub returns-clause-whole : goal.returns-clause-whole
returns-clause-whole c = flight_run c.parts_fit.ensures.begin c.parts_fit.ensures.stay

pub returns-clause-so_far : goal.returns-clause-so_far
returns-clause-so_far c = so_far_run c.parts_fit.ensures.begin c.parts_fit.ensures.stay
