-- So many empty lists were made.
use Rattle.std.proofs.Common.{◌≡◌, [], replicate}
use Rattle.first_board.proofs.board.empty_replies.Given as goal

abbrev pub invariant-loop : goal.invariant-loop
invariant-loop l = l.all.items ≡ replicate l.counter []
