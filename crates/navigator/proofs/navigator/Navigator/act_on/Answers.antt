use Rattle.std.proofs.Common.{List, refl, sym, subst}
use Rattle.mission_model.specs.declared.plan.Item.{Item}
use Rattle.mission_model.specs.declared.vehicle.VehicleLine.{VehicleLine}
use Rattle.mission_model.specs.declared.vehicle.NavWhat.TheVariants as what
use Rattle.navigator.specs.NavState.{HasShown, with_taken}
use Rattle.navigator.specs.EventLaw.{ActsOn}
use Rattle.navigator.proofs.navigator.Navigator.act_on.Goals as goal

pub returns-in-Mode-clause-acts : goal.returns-in-Mode-clause-acts
returns-in-Mode-clause-acts c = λ (items : List Item) (h : HasShown c.args.self.now items). record {
  items' = items;
  fed = c.enter_mode.ensures.shown items h;
  law = subst (λ (line : VehicleLine). ActsOn line (with_taken c.args.self.now items) c.args.board.now what.Taken (with_taken c.enter_mode.new.self items) c.args.board.now) (sym c.in-Mode.is) (refl, c.enter_mode.ensures.state items, refl);
}
