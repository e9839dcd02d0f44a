-- The place is pushed behind its words, and so with them.
use Rattle.std.proofs.Common.{codes}
use Rattle.record_text.specs.Vehicle.{at_text}
use Rattle.record_text.proofs.Joined.{pushed_after}
use Rattle.record_text.proofs.vehicle.push_return.Goals as goal

pub returns-in_ok-push_word-in-ReturnSkip : goal.returns-in_ok-push_word-in-ReturnSkip
returns-in_ok-push_word-in-ReturnSkip c =
    rw c.in-ReturnSkip.is
    (pushed_after c.push_at.result c.args.out.now.items c.push_word-in-ReturnSkip.new.out.items c.push_at.new.out.items (codes "return skip ")
    (at_text c.in-ReturnSkip.seq c.in-ReturnSkip.mission c.in-ReturnSkip.fence) c.in_ok-push_word-in-ReturnSkip.ensures c.push_at.ensures)
