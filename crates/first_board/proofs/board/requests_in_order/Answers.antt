-- The law holds of a new board.
use Rattle.first_board.proofs.Order.{in_order}
use Rattle.first_board.proofs.board.requests_in_order.Goals as goal

pub returns : goal.returns
returns c links watchers heads events last three calls = in_order links watchers heads events last three calls
