-- What may cross threads.
use denote.RattleType.{RattleType}
use denote.Param.Send.{IsSend, IsSync, sendable}
use Rattle.atomic_table.proofs.shared.Seat.TheSendSync as seat
use Rattle.std.proofs.Crossing.{crosses}
use Rattle.atomic_table.proofs.shared.Shared.TheSendSync as shared
use Rattle.atomic_table.proofs.send_lease.SendLease.TheSendSync as lease
use Rattle.std_heap.proofs.Global.TheSendSync as handle
use Rattle.turn_cell.specs.contracts.cell.TurnCell as Cell
use Rattle.core.proofs.snapshot.Sent.{snapshot_send}
use Rattle.turn_cell.specs.contracts.seat_view.Chest as Chest
use Rattle.turn_cell.specs.contracts.pass.Pass as Pass

pub shelf_send : (S L I N : RattleType) → IsSend S → IsSend N → IsSend (Chest.the_row S L I N)
shelf_send S L I N s n = search (sendable, crosses, snapshot_send) depth 20

pub pass_send : (M S L I N : RattleType) (k : _) → IsSend S → IsSend L → IsSend N → IsSend (Pass.the_row M S L I N k)
pass_send M S L I N k s l n = search (sendable, seat.the_send, shelf_send) depth 20

pub cell_sync : (M S L I N : RattleType) (k : _) (c : _) → IsSend S → IsSend L → IsSend N → IsSync (Cell.the_row M S L I N k c)
cell_sync M S L I N k c s l n = search (sendable, crosses, shared.the_sync, lease.the_sync, shelf_send, handle.the_sync) depth 20
