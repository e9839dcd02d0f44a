-- The pairs so far go on to all pairs, and there is a place for one more.
use Rattle.std.proofs.Common.{◌≡◌, ◌-◌, ◌≤◌, length}
use Rattle.mission_model.specs.CountsList.{pairs_of}
use Rattle.mission_model.specs.declared.limits.TheConstants.{MAX_JUMPS}
use Rattle.record_text.specs.PlanReading.{pairs_from, pairs_at}
use Rattle.record_text.proofs.plan_cursor.read_pairs.Given as goal

abbrev pub invariant-loop : goal.invariant-loop
invariant-loop l = (length (pairs_of l.counts) ≤ l.counter) × (pairs_from (MAX_JUMPS - l.counter) (pairs_of l.counts) l.rest ≡ pairs_at l.bytes)
