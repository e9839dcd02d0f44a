use denote.Param.Send.{IsSend, sendable}
use Rattle.turn_cell.specs.contracts.tests.Adder as Adder
use Rattle.turn_cell.proofs.Sends.{cell_sync, pass_send}
use Rattle.turn_cell.proofs.tests.run_all.Goals as goal

adder_send : IsSend Adder.the_row
adder_send = search sendable depth 20

pub for_each_mut-requires-send-T : goal.for_each_mut-requires-send-T
for_each_mut-requires-send-T g c κs within = search (sendable, pass_send, adder_send) depth 12

pub for_each_mut-requires-sync-F : goal.for_each_mut-requires-sync-F
for_each_mut-requires-sync-F g c κs within = search (sendable, cell_sync, adder_send) depth 14
