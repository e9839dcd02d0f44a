use Rattle.std.proofs.Common.{◌≡◌, ◌+◌, ◌≤◌, [], ℕ, length, vec_capacity, Some}
use Rattle.std.specs.Prelude.{slice_get}
use Rattle.turn_cell.specs.TableRuled.{opening_view}
use Rattle.turn_cell.specs.Seats.{IsSeated}
use Rattle.turn_cell.proofs.cell.hand_out_rest.Given as goal

abbrev pub invariant-loop-local : goal.invariant-loop-local
invariant-loop-local g l = (l.first.table_id ≡ l.table.table_id) × (l.first.id ≡ 0) × (l.first.me ≡ (opening_view l.table.key.shared.value l.table.key.locals.value.items (l.number + 1), []))
    × (length l.passes.items ≡ l.number) × (length l.table.key.locals.value.items ≡ l.number + 1 + length l.local-iterator.rest.items) × (length l.table.key.locals.value.items ≤ vec_capacity l.passes)
    × ((k : ℕ) → slice_get l.table.key.locals.value.items (l.number + 1 + k) ≡ slice_get l.local-iterator.rest.items k)
    × ((k : ℕ) (p : _) → slice_get l.passes.items k ≡ Some p → (p.seat.table_id ≡ l.table.table_id) × IsSeated l.table.key.shared.value l.table.key.locals.value.items (k + 1) p.seat.me.0 p.local)
