-- Below the limit the queue has a place, and the request waits behind all others.
use Rattle.std.proofs.Common.{◌≡◌, ◌∙◌, ◌+◌, ◌<◌, ◌++◌, [], ◌∷◌, length, ap, sym, subst, arith}
use Rattle.std.proofs.lemmas.Grind.{common_steps}
use Rattle.circular_buffer.specs.Buffer.{Buffer, buffer}
use Rattle.first_model.specs.declared.request.Client.{Client}
use Rattle.first_model.specs.declared.request.Request.{Request}
use Rattle.first_board.specs.BoardState.{BoardState, outstanding, limit, HasClient, OthersStay}
use Rattle.first_board.specs.Kept.{view_of, Sound}
use Rattle.first_board.proofs.Effects.{asked_own, asked_others}
use Rattle.first_board.proofs.Sound.{room_left}
use Rattle.first_board.proofs.board.Board.ask.Goals as goal

pub returns-then-is_err-clause-full : goal.returns-then-is_err-clause-full
returns-then-is_err-clause-full c =
    let b : BoardState = view_of c.self.inside in
    let has : HasClient b c.args.client = subst (λ (s : BoardState). HasClient s c.args.client) (sym c.self.view_is) c.requires in
    let is : c.room.result + outstanding b c.args.client ≡ limit c.args.client = subst (λ (s : BoardState). c.room.result + outstanding s c.args.client ≡ limit c.args.client) (sym c.self.view_is) c.room.ensures in
    let left = room_left b c.args.client c.args.request c.room.result c.self.invariant.sound has is c.if-room-eq0.false in
    let room : length b.waiting < c.self.inside.waiting.capacity = omega (arith, left.1, c.self.invariant.room) in
    grind (arith, common_steps, room)

pub invariant_of-self-2 : goal.invariant_of-self-2
invariant_of-self-2 c =
    let b : BoardState = view_of c.self.inside in
    let has : HasClient b c.args.client = subst (λ (s : BoardState). HasClient s c.args.client) (sym c.self.view_is) c.requires in
    let is : c.room.result + outstanding b c.args.client ≡ limit c.args.client = subst (λ (s : BoardState). c.room.result + outstanding s c.args.client ≡ limit c.args.client) (sym c.self.view_is) c.room.ensures in
    let left = room_left b c.args.client c.args.request c.room.result c.self.invariant.sound has is c.if-room-eq0.false in
    let pushed : c.try_push_back.new.self ≡ buffer (b.waiting ++ (c.args.client, c.args.request) ∷ []) c.self.inside.waiting.capacity = grind (arith, common_steps) in
    record {
      sound = subst (λ (w : Buffer (Client × Request)). Sound (record b { waiting = w.items })) (sym pushed) left.0;
      room = ap (λ (w : Buffer (Client × Request)). w.capacity) pushed ∙ c.self.invariant.room;
    }

pub returns-clause-one_more : goal.returns-clause-one_more
returns-clause-one_more c =
    let b : BoardState = view_of c.self.inside in
    let pushed : c.try_push_back.new.self ≡ buffer (b.waiting ++ (c.args.client, c.args.request) ∷ []) c.self.inside.waiting.capacity = grind (arith, common_steps) in
    subst (λ (s : BoardState). outstanding (record b { waiting = c.try_push_back.new.self.items }) c.args.client ≡ outstanding s c.args.client + 1) c.self.view_is
    (subst (λ (w : Buffer (Client × Request)). outstanding (record b { waiting = w.items }) c.args.client ≡ outstanding b c.args.client + 1) (sym pushed) (asked_own b c.args.client c.args.request))

pub returns-clause-others : goal.returns-clause-others
returns-clause-others c =
    let b : BoardState = view_of c.self.inside in
    let pushed : c.try_push_back.new.self ≡ buffer (b.waiting ++ (c.args.client, c.args.request) ∷ []) c.self.inside.waiting.capacity = grind (arith, common_steps) in
    subst (λ (s : BoardState). OthersStay c.args.client s (record b { waiting = c.try_push_back.new.self.items })) c.self.view_is
    (subst (λ (w : Buffer (Client × Request)). OthersStay c.args.client b (record b { waiting = w.items })) (sym pushed) (asked_others b c.args.client c.args.request))
