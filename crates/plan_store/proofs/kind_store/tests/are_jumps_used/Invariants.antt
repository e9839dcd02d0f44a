-- The pairs before this place are of jumps that repeat so often.
use Rattle.std.proofs.Common.{ℕ, ◌<◌}
use Rattle.std.specs.Prelude.{slice_index_or}
use Rattle.mission_model.specs.CountsList.{pairs_of}
use Rattle.plan_store.specs.CanServe.{IsJumpUsed}
use Rattle.plan_store.specs.MapStore.{held_of}
use Rattle.plan_store.proofs.kind_store.tests.are_jumps_used.Given as goal

abbrev pub invariant-loop-place : goal.invariant-loop-place
invariant-loop-place l = (k : ℕ) (d : ℕ × ℕ) → k < l.place → IsJumpUsed (held_of l.fn.kind).plan.items (slice_index_or (pairs_of l.fn.counts) k d)
