-- What was counted and what is left make the whole.
use Rattle.std.proofs.Common.{◌≡◌, ◌+◌, ◌≤◌, length}
use Rattle.first_board.specs.BoardState.{asks_of}
use Rattle.first_board.proofs.board.waiting_of.Given as goal

abbrev pub invariant-loop-ask : goal.invariant-loop-ask
invariant-loop-ask l =
    (goal.iterator-loop-ask).can_next l.ask-iterator ×
    (goal.iterator-loop-ask).is_finite l.ask-iterator ×
    (l.count + asks_of l.client l.ask-iterator ≡ asks_of l.client l.fn.waiting.items) ×
    (l.count + length l.ask-iterator ≤ length l.fn.waiting.items)
