-- Below the limit the queue has a place, and the request waits behind all others.
use Rattle.std.proofs.Common.{◌≡◌, ◌∙◌, ℕ, ◌+◌, ◌<◌, ◌++◌, [], ◌∷◌, length, ap, sym, subst, arith, set, get_or, length-set}
use Rattle.std.proofs.lemmas.Grind.{common_steps}
use Rattle.circular_buffer.specs.Buffer.{Buffer, buffer}
use Rattle.mission_model.specs.declared.request.Client.{Client}
use Rattle.mission_model.specs.declared.request.Request.{Request}
use Rattle.mission_model.specs.Shown.{asked_of}
use Rattle.request_board.specs.BoardState.{BoardState, open_asks, outstanding, limit, HasClient}
use Rattle.request_board.specs.Frames.{asked_own}
use Rattle.request_board.specs.Kept.{view_of, Sound, Counted, seat_of}
use Rattle.request_board.proofs.Sound.{room_left}
use Rattle.request_board.proofs.Seats.{seated, counted_asked}
use Rattle.request_board.proofs.board.Board.ask.Goals as goal

pub returns-then-is_err-clause-full : goal.returns-then-is_err-clause-full
returns-then-is_err-clause-full c =
    let b : BoardState = view_of c.self.inside in
    let has : HasClient b c.args.client = subst (λ (s : BoardState). HasClient s c.args.client) (sym c.self.view_is) c.requires in
    let is : c.room.result + outstanding b c.args.client ≡ limit c.args.client = subst (λ (s : BoardState). c.room.result + outstanding s c.args.client ≡ limit c.args.client) (sym c.self.view_is) c.room.ensures in
    let left = room_left b c.args.client c.args.request c.room.result c.self.invariant.sound has is c.if-room-eq0.false in
    let room : length b.waiting < c.self.inside.waiting.capacity = omega (arith, left.1, c.self.invariant.room) in
    grind (arith, common_steps, room)

pub seat_of-requires : goal.seat_of-requires
seat_of-requires c =
    let b : BoardState = view_of c.self.inside in
    let has : HasClient b c.args.client = subst (λ (s : BoardState). HasClient s c.args.client) (sym c.self.view_is) c.requires in
    seated b c.args.client has c.self.invariant.links c.self.invariant.watchers

pub invariant_of-self-2 : goal.invariant_of-self-2
invariant_of-self-2 c =
    let b : BoardState = view_of c.self.inside in
    let has : HasClient b c.args.client = subst (λ (s : BoardState). HasClient s c.args.client) (sym c.self.view_is) c.requires in
    let is : c.room.result + outstanding b c.args.client ≡ limit c.args.client = subst (λ (s : BoardState). c.room.result + outstanding s c.args.client ≡ limit c.args.client) (sym c.self.view_is) c.room.ensures in
    let left = room_left b c.args.client c.args.request c.room.result c.self.invariant.sound has is c.if-room-eq0.false in
    let pushed : c.try_push_back.new.self ≡ buffer (b.waiting ++ (c.args.client, c.args.request) ∷ []) c.self.inside.waiting.capacity = grind (arith, common_steps) in
    let counted = counted_asked c.self.inside.counts b c.args.client c.args.request c.self.invariant.seats c.self.invariant.links c.self.invariant.watchers has c.self.invariant.counts in
    record {
      sound = subst (λ (w : Buffer (Client × Request)). Sound (record b { waiting = w.items })) (sym pushed) left.0;
      room = ap (λ (w : Buffer (Client × Request)). w.capacity) pushed ∙ c.self.invariant.room;
      links = c.self.invariant.links;
      watchers = c.self.invariant.watchers;
      seats = length-set c.self.inside.counts c.seat_of.result (get_or c.self.inside.counts c.seat_of.result 0 + 1) ∙ c.self.invariant.seats;
      counts = subst (λ (n : ℕ). Counted (set c.self.inside.counts n (get_or c.self.inside.counts n 0 + 1)) (record b { waiting = c.try_push_back.new.self.items })) (sym c.seat_of.ensures.seat)
          (subst (λ (w : Buffer (Client × Request)). Counted (set c.self.inside.counts (seat_of c.args.client) (get_or c.self.inside.counts (seat_of c.args.client) 0 + 1)) (record b { waiting = w.items })) (sym pushed) counted);
    }

pub returns-clause-asks : goal.returns-clause-asks
returns-clause-asks c =
    let b : BoardState = view_of c.self.inside in
    let pushed : c.try_push_back.new.self ≡ buffer (b.waiting ++ (c.args.client, c.args.request) ∷ []) c.self.inside.waiting.capacity = grind (arith, common_steps) in
    subst (λ (s : BoardState). open_asks (record b { waiting = c.try_push_back.new.self.items }) c.args.client ≡ open_asks s c.args.client ++ asked_of c.args.request ∷ []) c.self.view_is
    (subst (λ (w : Buffer (Client × Request)). open_asks (record b { waiting = w.items }) c.args.client ≡ open_asks b c.args.client ++ asked_of c.args.request ∷ []) (sym pushed) (asked_own b c.args.client c.args.request))
