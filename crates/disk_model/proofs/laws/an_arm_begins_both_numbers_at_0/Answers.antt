use Rattle.disk_model.specs.CountLaws.{begins_anew}
use Rattle.disk_model.proofs.laws.an_arm_begins_both_numbers_at_0.Goals as goal

pub returns : goal.returns
returns o c cut old new arms = begins_anew cut (o.D.Disk.state old) (o.D.Disk.state new) arms
