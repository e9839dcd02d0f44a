use Rattle.disk_model.specs.CountLaws.{stays_on}
use Rattle.disk_model.proofs.laws.no_cut_comes_unarmed.Goals as goal

pub returns : goal.returns
returns c old new calls on unarmed none made = stays_on calls old new on unarmed none made
