use Rattle.std.proofs.Common.{◌≡◌}
use Rattle.turn_cell.proofs.tests.run_out.Given as goal

abbrev pub invariant-loop : goal.invariant-loop
invariant-loop g l = (l.pass.seat.table_id ≡ l.cell.table.shared.table_id) × (l.pass.seat.me.0.number ≡ l.fn.pass.seat.me.0.number)
