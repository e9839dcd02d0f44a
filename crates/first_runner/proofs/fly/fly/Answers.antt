use Rattle.std.proofs.Common.{◌∙◌, inr}
use Rattle.first_runner.proofs.Flown.{flown_boot, flown_part, flown_printable}
use Rattle.first_runner.proofs.Limits.{in_limits}
use Rattle.first_runner.proofs.OneRun.{flown_run}
use Rattle.first_runner.proofs.Results.{then_ok, then_err}
use Rattle.first_runner.proofs.Whole.{whole_flight, stopped_flight}
use Rattle.first_runner.proofs.fly.fly.Goals as goal

pub returns-clause-ok : goal.returns-clause-ok
returns-clause-ok c =
    then_ok _ _ _ (λ flew. flown_boot c.actors_run.ensures.whole c.args.boot _ (in_limits c.args.boot c.requires) (whole_flight c.args.boot _ _ _ _ _ _ c.in-Ok-begin.ensures.begun flew (c.as_slice-2.ensures.value ∙ (c.in-Ok-from_slice.ensures.items ∙ c.as_slice.ensures)) (c.as_slice-3.ensures.value ∙ c.in-Ok.ensures))) c.fly-flown.ensures.ok

pub returns-clause-err : goal.returns-clause-err
returns-clause-err c =
    then_err _ _ _ (λ so_far. inr (flown_part c.actors_run.ensures.so_far c.args.boot _ (in_limits c.args.boot c.requires) (stopped_flight c.args.boot _ _ _ _ _ _ _ _ c.in-Ok-begin.ensures.begun so_far (c.as_slice-2.ensures.value ∙ (c.in-Ok-from_slice.ensures.items ∙ c.as_slice.ensures)) (c.as_slice-3.ensures.value ∙ c.in-Ok.ensures)))) c.fly-flown.ensures.err

pub returns-clause-printable : goal.returns-clause-printable
returns-clause-printable c = then_ok _ _ _ (λ flown. flown_printable c.args.boot _ flown) (returns-clause-ok c)

pub returns-clause-vehicle : goal.returns-clause-vehicle
returns-clause-vehicle c = flown_run c.one_vehicle.ensures.whole c.one_vehicle.ensures.so_far c.args.boot _ _ (in_limits c.args.boot c.requires) (returns-clause-ok c) (returns-clause-err c)
