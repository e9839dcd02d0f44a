-- Nothing is in service between the rows, and the board has its links and its watcher.
use Rattle.std.proofs.Common.{◌≡◌, None}
use Rattle.mission_model.specs.declared.request.Client.TheVariants.{Link, Watch}
use Rattle.request_board.specs.BoardState.{HasClient}
use Rattle.request_board.proofs.tests.clients_up_to_each_limit.Given as goal

abbrev pub invariant-loop-who : goal.invariant-loop-who
invariant-loop-who g l = (l.board.service ≡ None) × HasClient l.board (Link 0) × HasClient l.board (Link 1) × HasClient l.board (Watch 0)
