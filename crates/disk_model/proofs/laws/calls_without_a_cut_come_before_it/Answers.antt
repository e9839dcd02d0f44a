use Rattle.disk_model.specs.CountLaws.{uncut_is_past, cut_is_inside}
use Rattle.disk_model.proofs.laws.calls_without_a_cut_come_before_it.Goals as goal

pub returns-clause-uncut : goal.returns-clause-uncut
returns-clause-uncut c k r old new armed uncut = uncut_is_past k r old new armed uncut

pub returns-clause-cut : goal.returns-clause-cut
returns-clause-cut c k r old new armed within = cut_is_inside k r old new armed within
