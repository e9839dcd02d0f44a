use Rattle.std.proofs.Common.{◌≡◌, []}
use Rattle.turn_cell.specs.TableRuled.{waiting_with}
use Rattle.turn_cell.proofs.cell.TurnCell.await_turn.Given as goal

abbrev pub invariant-loop : goal.invariant-loop
invariant-loop g l = (l.seat.table_id ≡ l.fn.seat.table_id) × (l.seat.me ≡ (waiting_with l.ticket l.fn.seat.me.0, []))
