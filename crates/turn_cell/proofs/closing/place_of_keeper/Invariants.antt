use Rattle.std.proofs.Common.{◌≡◌, ◌≤◌, ◌-◌, ℕ, length, Some}
use Rattle.std.specs.Prelude.{slice_get}
use Rattle.turn_cell.proofs.closing.place_of_keeper.Given as goal

abbrev pub invariant-loop-place : goal.invariant-loop-place
invariant-loop-place g l = (l.place ≤ length l.passes) × ((i : ℕ) (p : _) → slice_get l.passes i ≡ Some p → p.seat.me.0.number ≡ 0 → l.place ≤ i)

abbrev pub decreases-loop-place : goal.decreases-loop-place
decreases-loop-place g l = length l.passes - l.place
