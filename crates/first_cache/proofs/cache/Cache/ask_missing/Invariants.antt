-- The seqs before this place were looked at, and what was missing there was asked; it was within the room, and all
-- there is known or in flight.
use Rattle.std.proofs.Common.{◌+◌, ◌-◌, ◌≤◌, length}
use Rattle.first_board.specs.BoardState.{limit, outstanding}
use Rattle.first_cache.specs.Wants.{missing, Asks}
use Rattle.first_cache.specs.Settled.{Settled}
use Rattle.first_cache.proofs.cache.Cache.ask_missing.Given as goal

abbrev pub invariant-loop-place : goal.invariant-loop-place
invariant-loop-place l = Asks l.fn.self l.fn.board (missing l.fn.self l.fn.seq l.place) l.self l.board × (length (missing l.fn.self l.fn.seq l.place) ≤ limit l.fn.self.client - outstanding l.fn.board l.fn.self.client - 1) × (l.place ≤ l.fn.places) × Settled l.self l.fn.seq (l.fn.seq + l.place)
