use Rattle.disk_model.specs.CountLaws.{named_exactly}
use Rattle.disk_model.proofs.laws.a_cut_comes_inside_the_call_that_it_names.Goals as goal

pub returns : goal.returns
returns c old mid new calls call armed all made last = named_exactly calls call old mid new armed all made last
