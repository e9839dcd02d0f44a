use Rattle.std.proofs.Common.{rules}
use Rattle.breach_watch.specs.Laws.{is_allowed-nil}
use Rattle.breach_watch.proofs.watch.BreachWatch.verdict_on.Goals as goal

pub returns-then-head-eq0 : goal.returns-then-head-eq0
returns-then-head-eq0 c = let empty = is_allowed-nil c.args.self.now.x c.args.self.now.y in search rules
