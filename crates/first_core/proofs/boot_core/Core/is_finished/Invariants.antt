-- The schedules of the links before this place are finished.
use Rattle.std.proofs.Common.{take}
use Rattle.std.specs.List.{All}
use Rattle.first_core.specs.CoreState.{LinkFinished}
use Rattle.first_core.proofs.boot_core.Core.is_finished.Given as goal

abbrev pub invariant-loop-link : goal.invariant-loop-link
invariant-loop-link l = All LinkFinished (take l.link-index l.link-items)
