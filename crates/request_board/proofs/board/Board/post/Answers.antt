-- The reply is posted behind the client's others; there is a place for it, since its request was outstanding.
use Rattle.std.proofs.Common.{◌≡◌, ◌∙◌, ap, subst, refl, rules, None, arith, length, ◌<◌}
use Rattle.std.proofs.lemmas.Grind.{common_steps}
use Rattle.mission_model.specs.declared.limits.TheConstants.{NAV_ROOM}
use Rattle.std.specs.Vec.{with_item}
use Rattle.request_board.specs.declared.board.Board.TheInside.{Inside}
use Rattle.request_board.specs.BoardCalls.{answered}
use Rattle.request_board.specs.Asks.{in_service}
use Rattle.request_board.specs.BoardState.{BoardState, posted}
use Rattle.request_board.specs.Kept.{view_of}
use Rattle.request_board.proofs.Keeping.{posted_room, kept_answered, open_answered}
use Rattle.request_board.proofs.board.Board.post.Goals as goal

pub push-requires : goal.push-requires
push-requires c =
    let room = posted_room (view_of c.self.inside) c.args.client c.args.asked c.self.invariant.sound (ap (λ (s : BoardState). in_service s.service) c.self.view_is ∙ c.requires) in
    subst (λ k. length (posted (view_of c.self.inside) k) < NAV_ROOM) c.in-Nav.is room

pub push-requires-in-Link : goal.push-requires-in-Link
push-requires-in-Link c =
    let room = posted_room (view_of c.self.inside) c.args.client c.args.asked c.self.invariant.sound (ap (λ (s : BoardState). in_service s.service) c.self.view_is ∙ c.requires) in
    grind (arith, common_steps, room)

pub push-requires-in-Watch : goal.push-requires-in-Watch
push-requires-in-Watch c =
    let room = posted_room (view_of c.self.inside) c.args.client c.args.asked c.self.invariant.sound (ap (λ (s : BoardState). in_service s.service) c.self.view_is ∙ c.requires) in
    grind (arith, common_steps, room)

pub invariant_of-self : goal.invariant_of-self
invariant_of-self c = kept_answered c.self.inside _ c.args.client c.args.asked c.args.reply c.self.invariant (ap (λ (s : BoardState). in_service s.service) c.self.view_is ∙ c.requires) (search rules) refl refl

pub invariant_of-self-in-Link : goal.invariant_of-self-in-Link
invariant_of-self-in-Link c =
    let a : Inside = record { waiting = c.self.inside.waiting; service = None; nav = c.self.inside.nav; links = with_item c.self.inside.links c.in-Link.number c.push-in-Link.new.self; watchers = c.self.inside.watchers; counts = c.self.inside.counts; heads = c.heads_after-self-inside.result; index = c.self.inside.index } in
    let now : view_of a ≡ answered (view_of c.self.inside) c.args.client c.args.asked c.args.reply = grind (arith, common_steps) in
    kept_answered c.self.inside a c.args.client c.args.asked c.args.reply c.self.invariant (ap (λ (s : BoardState). in_service s.service) c.self.view_is ∙ c.requires) now refl refl

pub invariant_of-self-in-Watch : goal.invariant_of-self-in-Watch
invariant_of-self-in-Watch c =
    let a : Inside = record { waiting = c.self.inside.waiting; service = None; nav = c.self.inside.nav; links = c.self.inside.links; watchers = with_item c.self.inside.watchers c.in-Watch.number c.push-in-Watch.new.self; counts = c.self.inside.counts; heads = c.heads_after-self-inside.result; index = c.self.inside.index } in
    let now : view_of a ≡ answered (view_of c.self.inside) c.args.client c.args.asked c.args.reply = grind (arith, common_steps) in
    kept_answered c.self.inside a c.args.client c.args.asked c.args.reply c.self.invariant (ap (λ (s : BoardState). in_service s.service) c.self.view_is ∙ c.requires) now refl refl

pub returns-in-Nav-clause-asks : goal.returns-in-Nav-clause-asks
returns-in-Nav-clause-asks c =
    let a : Inside = record { waiting = c.self.inside.waiting; service = None; nav = c.push.new.self; links = c.self.inside.links; watchers = c.self.inside.watchers; counts = c.self.inside.counts; heads = c.heads_after-self-inside.result; index = c.self.inside.index } in
    let now : view_of a ≡ answered (view_of c.self.inside) c.args.client c.args.asked c.args.reply = grind (arith, common_steps) in
    open_answered c.args.self.now (view_of c.self.inside) (view_of a) c.args.client c.args.asked c.args.reply c.self.view_is c.self.invariant.sound (ap (λ (s : BoardState). in_service s.service) c.self.view_is ∙ c.requires) now

pub returns-in-Link-clause-asks : goal.returns-in-Link-clause-asks
returns-in-Link-clause-asks c =
    let a : Inside = record { waiting = c.self.inside.waiting; service = None; nav = c.self.inside.nav; links = with_item c.self.inside.links c.in-Link.number c.push-in-Link.new.self; watchers = c.self.inside.watchers; counts = c.self.inside.counts; heads = c.heads_after-self-inside.result; index = c.self.inside.index } in
    let now : view_of a ≡ answered (view_of c.self.inside) c.args.client c.args.asked c.args.reply = grind (arith, common_steps) in
    open_answered c.args.self.now (view_of c.self.inside) (view_of a) c.args.client c.args.asked c.args.reply c.self.view_is c.self.invariant.sound (ap (λ (s : BoardState). in_service s.service) c.self.view_is ∙ c.requires) now

pub returns-in-Watch-clause-asks : goal.returns-in-Watch-clause-asks
returns-in-Watch-clause-asks c =
    let a : Inside = record { waiting = c.self.inside.waiting; service = None; nav = c.self.inside.nav; links = c.self.inside.links; watchers = with_item c.self.inside.watchers c.in-Watch.number c.push-in-Watch.new.self; counts = c.self.inside.counts; heads = c.heads_after-self-inside.result; index = c.self.inside.index } in
    let now : view_of a ≡ answered (view_of c.self.inside) c.args.client c.args.asked c.args.reply = grind (arith, common_steps) in
    open_answered c.args.self.now (view_of c.self.inside) (view_of a) c.args.client c.args.asked c.args.reply c.self.view_is c.self.invariant.sound (ap (λ (s : BoardState). in_service s.service) c.self.view_is ∙ c.requires) now
