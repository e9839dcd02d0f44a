-- The locals before the index are finished.
use Rattle.std.proofs.Common.{◌≡◌, ℕ, ◌<◌, true}
use Rattle.std.specs.Prelude.{slice_index_or}
use Rattle.vehicle_core.specs.LocalState.{finished_of}
use Rattle.vehicle_core.proofs.boot_core.Core.is_finished.Given as goal

abbrev pub invariant-loop-local : goal.invariant-loop-local
invariant-loop-local g l = (k : ℕ) (d : _) → k < l.local-index → finished_of (slice_index_or l.local-items k d) ≡ true
