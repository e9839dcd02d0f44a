use Rattle.plan_vehicle.proofs.Returning.{shown, not_shown}
use Rattle.plan_vehicle.proofs.vehicle.Vehicle.shows.Goals as goal

pub returns-clause-yes : goal.returns-clause-yes
returns-clause-yes c = λ is_so. shown c.args.self.now c.sets_out.new.self c.next_is.new.self c.args.look c.args.out c.next_is.result (c.in_ok-sets_out.ensures.yes c.if-not-branch.false) c.next_is.ensures is_so

pub returns-clause-no : goal.returns-clause-no
returns-clause-no c = λ fails w h. not_shown c.args.self.now c.sets_out.new.self c.next_is.new.self w c.args.look c.args.out c.next_is.result (c.in_ok-sets_out.ensures.yes c.if-not-branch.false) c.next_is.ensures fails h
