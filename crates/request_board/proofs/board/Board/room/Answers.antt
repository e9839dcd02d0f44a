-- The client has a seat, and its count there is of its outstanding requests.
use Rattle.std.proofs.Common.{sym, subst}
use Rattle.request_board.specs.BoardState.{BoardState, HasClient}
use Rattle.request_board.specs.Kept.{view_of}
use Rattle.request_board.proofs.Seats.{seated}
use Rattle.request_board.proofs.board.Board.room.Goals as goal

pub seat_of-requires : goal.seat_of-requires
seat_of-requires c =
    let b : BoardState = view_of c.self.inside in
    let has : HasClient b c.args.client = subst (λ (s : BoardState). HasClient s c.args.client) (sym c.self.view_is) c.requires in
    seated b c.args.client has c.self.invariant.links c.self.invariant.watchers
