use Rattle.std.proofs.Common.{◌≡◌, ◌+◌, ◌-◌, ◌<◌, ◌≤◌, ℕ, suc, length, take, arith, ap, add-one, length-append, is_some, ◌||◌}
use Rattle.request_board.specs.BoardState.{BoardState, outstanding, limit}
use Rattle.client_cache.specs.CacheState.{CacheState, known_at, is_in_flight}
use Rattle.client_cache.specs.Wants.{missing, missing_at, Asks}
use Rattle.client_cache.proofs.Asking.{Asks-trans, missing-more, missing-below, missing_at-flying, missing_if-one, outstanding-asks}
use Rattle.client_cache.specs.Settled.{Settled}
use Rattle.client_cache.proofs.Settling.{Settled-on, Settled-one}
use Rattle.client_cache.proofs.cache.Cache.ask_missing.Goals as goal

-- the room says how many more may be asked
full : (c : CacheState) (b : BoardState) (seq n places : ℕ) (c' : CacheState) (b' : BoardState) (room : ℕ) → Asks c b (missing c seq n) c' b' → length (missing c seq n) ≤ limit c.client - outstanding b c.client - 1 → n ≤ places → room + outstanding b' c'.client ≡ limit c'.client → room ≤ 1 → Asks c b (take (limit c.client - outstanding b c.client - 1) (missing c seq places)) c' b'
full c b seq n places c' b' room asks fits within is few =
    let same : c'.client ≡ c.client = ap (λ (x : CacheState). x.client) asks.cache in
    let is' : room + outstanding b' c.client ≡ limit c.client = rw (← same) is in
    let r : limit c.client - outstanding b c.client - 1 ≡ length (missing c seq n) = omega (arith, is', few, fits, outstanding-asks c b (missing c seq n) c' b' asks) in
    let whole : n + (places - n) ≡ places = omega (arith, within) in
    let more : take (limit c.client - outstanding b c.client - 1) (missing c seq places) ≡ missing c seq n = rw (← whole) (missing-more c seq n (places - n) _ r) in
    rw more asks

-- one more place looked at
one : (c : CacheState) (b : BoardState) (seq n : ℕ) (c1 c2 : CacheState) (b1 b2 : BoardState) (room : ℕ) → Asks c b (missing c seq n) c1 b1 → length (missing c seq n) ≤ limit c.client - outstanding b c.client - 1 → room + outstanding b1 c1.client ≡ limit c1.client → 1 < room → Asks c1 b1 (missing_at c1 (seq + n)) c2 b2 → Asks c b (missing c seq (suc n)) c2 b2 × (length (missing c seq (suc n)) ≤ limit c.client - outstanding b c.client - 1)
one c b seq n c1 c2 b1 b2 room asks fits is more next =
    let same : c1.client ≡ c.client = ap (λ (x : CacheState). x.client) asks.cache in
    let is' : room + outstanding b1 c.client ≡ limit c.client = rw (← same) is in
    let at : missing_at c1 (seq + n) ≡ missing_at c (seq + n) = rw asks.cache (missing_at-flying c (missing c seq n) (seq + n) (missing-below c seq n)) in
    let next' : Asks c1 b1 (missing_at c (seq + n)) c2 b2 = rw (← at) next in
    (Asks-trans c b (missing c seq n) c1 b1 (missing_at c (seq + n)) c2 b2 asks next', omega (arith, is', more, fits, outstanding-asks c b (missing c seq n) c1 b1 asks, length-append (missing c seq n) (missing_at c (seq + n)), missing_if-one (is_some (known_at c (seq + n)) || is_in_flight c (seq + n)) (seq + n)))

pub returns-then-room-le-SPARED : goal.returns-then-room-le-SPARED
returns-then-room-le-SPARED c = let i = c.loop-place.invariant in record { asks = full c.args.self.now c.args.board.now c.args.seq c.loop-place.place c.args.places c.loop-place.self c.loop-place.board c.room.result i.0 i.1 i.2 (rw (← ap (λ (x : CacheState). x.client) c.self.view_is) c.room.ensures) c.if-room-le-SPARED.true; places = i.2; settled = i.3 }

pub loop-place-preserved : goal.loop-place-preserved
loop-place-preserved c =
    let i = c.loop-place.invariant in
    let s = one c.args.self.now c.args.board.now c.args.seq c.loop-place.place c.loop-place.self c.ask.new.self c.loop-place.board c.ask.new.board c.room.result i.0 i.1 (rw (← ap (λ (x : CacheState). x.client) c.self.view_is) c.room.ensures) (grind (arith, c.if-room-le-SPARED.false)) c.ask.ensures.asks in
    let more : c.args.seq + (c.loop-place.place + 1) ≡ c.args.seq + c.loop-place.place + 1 = omega arith in
    let t : Settled c.ask.new.self c.args.seq (c.args.seq + (c.loop-place.place + 1)) = Settled-on c.loop-place.self c.ask.new.self (missing_at c.loop-place.self (c.args.seq + c.loop-place.place)) c.args.seq (c.args.seq + c.loop-place.place) (c.args.seq + (c.loop-place.place + 1)) c.ask.ensures.asks.cache i.3 (Settled-one c.ask.new.self (c.args.seq + c.loop-place.place) (c.args.seq + (c.loop-place.place + 1)) more c.ask.ensures.settled) in
    rw (add-one c.loop-place.place) (s.0, s.1, grind (arith, c.loop-place-test.true, i.2), rw (← add-one c.loop-place.place) t)
