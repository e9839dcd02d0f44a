use Rattle.feasibility.proofs.Begun.{Judged-found}
use Rattle.feasibility.proofs.judge.Judge.feed.Goals as goal

pub returns : goal.returns
returns c = Judged-found c.args.self.now c.args.item.now c.take.new.self c.found-self.result c.take.ensures c.found-self.ensures
