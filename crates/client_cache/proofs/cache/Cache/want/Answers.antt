use Rattle.std.proofs.Common.{◌≡◌, ℕ, ◌+◌, ◌-◌, ◌≤◌, take, min}
use Rattle.request_board.specs.BoardState.{BoardState, limit, outstanding}
use Rattle.client_cache.specs.CacheState.{CacheState, window_end, count_of}
use Rattle.client_cache.specs.Settled.{Settled}
use Rattle.client_cache.specs.Wants.{missing, wanted, Asks}
use Rattle.client_cache.proofs.Settling.{Settled-on, missing-from}
use Rattle.client_cache.proofs.cache.Cache.want.Goals as goal

-- what is missing behind what is settled is all that is missing
asks-wanted : (c : CacheState) (b : BoardState) (seq start end : ℕ) (c1 : CacheState) (b1 : BoardState) (c2 : CacheState) → end ≡ min (count_of c.head) (window_end c) → seq ≤ start → start ≤ end → Settled c seq start → Asks c b (take (limit c.client - outstanding b c.client - 1) (missing c start (end - start))) c1 b1 → c2 ≡ c1 → Asks c b (wanted c b seq) c2 b1
asks-wanted c b seq start end c1 b1 c2 is le le' settled asks same = rw (same, ← is, missing-from c seq start end le le' settled) asks

pub settle-requires : goal.settle-requires
settle-requires c = Settled-on c.args.self.now c.ask_missing-places.new.self (take (limit c.args.self.now.client - outstanding c.args.board.now c.args.self.now.client - 1) (missing c.args.self.now c.settled_end-start.result (c.end-end.result - c.settled_end-start.result))) c.args.seq c.settled_end-start.result (c.settled_end-start.result + c.ask_missing-places.result) c.ask_missing-places.ensures.asks.cache c.settled_end-start.ensures.settled c.ask_missing-places.ensures.settled

pub returns-clause-asks : goal.returns-clause-asks
returns-clause-asks c = asks-wanted c.args.self.now c.args.board.now c.args.seq c.settled_end-start.result c.end-end.result c.ask_missing-places.new.self c.ask_missing-places.new.board c.settle.new.self c.end-end.ensures c.settled_end-start.ensures.seq c.settled_end-start.ensures.end c.settled_end-start.ensures.settled c.ask_missing-places.ensures.asks c.settle.ensures
