use Rattle.std.proofs.Common.{refl}
use Rattle.feasibility.proofs.Begun.{Judged-begun}
use Rattle.feasibility.proofs.judge.Judge.begin.Goals as goal

pub returns : goal.returns
returns c = Judged-begun _ c.args.params c.args.home c.args.fence.now c.args.count refl refl c.copied.ensures refl refl c.new.ensures c.new-2.ensures c.new-3.ensures c.new-4.ensures c.new-5.ensures.list c.new-5.ensures.last c.at_begin.ensures
