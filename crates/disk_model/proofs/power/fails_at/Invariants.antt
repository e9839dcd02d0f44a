use Rattle.std.proofs.Common.{◌≡◌, false, take}
use Rattle.disk_model.specs.Power.{fails_at}
use Rattle.disk_model.proofs.power.fails_at.Given as goal

abbrev pub invariant-loop-fail : goal.invariant-loop-fail
invariant-loop-fail l = fails_at l.life l.call (take l.fail-index l.fails) ≡ false
