use Rattle.std.proofs.Common.{refl}
use Rattle.feasibility.proofs.Begun.{Judged-begun}
use Rattle.feasibility.proofs.judge.Judge.restart.Goals as goal

pub returns : goal.returns
returns c = Judged-begun _ c.args.params c.args.home c.args.fence c.args.count refl refl refl refl refl c.new-self.ensures c.new-self-2.ensures c.new-self-3.ensures c.clear.ensures c.clear-2.ensures.list c.clear-2.ensures.last c.at_begin-self.ensures
