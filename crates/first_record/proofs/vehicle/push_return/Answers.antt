-- The place is pushed behind its words, and so with them.
use Rattle.std.proofs.Common.{codes}
use Rattle.first_record.specs.Vehicle.{at_text}
use Rattle.first_record.proofs.Joined.{pushed_after}
use Rattle.first_record.proofs.vehicle.push_return.Goals as goal

pub returns-in_ok-push-in-ReturnSkip : goal.returns-in_ok-push-in-ReturnSkip
returns-in_ok-push-in-ReturnSkip c =
    rw c.in-ReturnSkip.is
    (pushed_after c.push_at.result c.args.out.now c.push-in-ReturnSkip.new.self c.push_at.new.out (codes "return skip ")
    (at_text c.in-ReturnSkip.seq c.in-ReturnSkip.mission c.in-ReturnSkip.fence) c.in_ok-push-in-ReturnSkip.ensures c.push_at.ensures)
