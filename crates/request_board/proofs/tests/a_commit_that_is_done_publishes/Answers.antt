-- The board has its last link after each call.
use Rattle.std.proofs.Common.{subst, sym, arith, []}
use Rattle.mission_model.specs.declared.request.Client.TheVariants.{Link}
use Rattle.request_board.specs.BoardState.{BoardState, HasClient}
use Rattle.request_board.specs.BoardLaw.{ask_event}
use Rattle.request_board.specs.Frames.{clients_after, opened_clients}
use Rattle.request_board.proofs.tests.a_commit_that_is_done_publishes.Goals as goal

pub take_reply-requires : goal.take_reply-requires
take_reply-requires g c =
    let start : HasClient c.in_ok-board.board (Link 7) = subst (λ (b : BoardState). HasClient b (Link 7)) (sym c.in_ok-board.ensures) (opened_clients 8 4 [] (Link 7) (omega arith)) in
    c.serve.ensures.clients (Link 7) (clients_after (ask_event _ _ c.ask.result) c.in_ok-board.board c.ask.new.self c.ask.ensures.call (Link 7) start)
