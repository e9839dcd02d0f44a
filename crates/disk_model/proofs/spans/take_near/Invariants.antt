use Rattle.disk_model.specs.Spans.{Takes}
use Rattle.disk_model.proofs.spans.take_near.Given as goal

abbrev pub invariant-loop-i : goal.invariant-loop-i
invariant-loop-i l = Takes l.fn.spans l.spans l.fn.span l.hull
