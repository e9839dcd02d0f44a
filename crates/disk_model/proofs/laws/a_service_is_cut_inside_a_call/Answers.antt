use Rattle.disk_model.specs.CountLaws.{service}
use Rattle.disk_model.proofs.laws.a_service_is_cut_inside_a_call.Goals as goal

pub returns : goal.returns
returns c old new calls on all made = service calls old new on all made
