-- The first reply is taken, and its request is outstanding no more.
use Rattle.std.proofs.Common.{◌≡◌, ◌-◌, ◌∷◌, ℕ, List, sym, subst, arith, set, get_or, ap, ◌∙◌}
use Rattle.std.proofs.lemmas.Grind.{common_steps}
use Rattle.request_board.specs.declared.board.Board.TheInside.{Inside}
use Rattle.request_board.specs.BoardState.{BoardState, HasClient, posted}
use Rattle.request_board.specs.BoardCalls.{heard}
use Rattle.request_board.specs.Kept.{view_of, seat_of}
use Rattle.request_board.proofs.Keeping.{kept_heard}
use Rattle.request_board.proofs.board.Board.take_reply.Goals.{in-Nav, in-Link, in-Watch}
use Rattle.request_board.proofs.board.Board.take_reply.Goals as goal

pub invariant_of-self-2 : goal.invariant_of-self-2
invariant_of-self-2 c =
    let m = c.match-client.self-inside in
    let counts : List ℕ = set m.counts c.seat_of.result (get_or m.counts c.seat_of.result 0 - 1) in
    let a : Inside = record { waiting = m.waiting; service = m.service; nav = m.nav; links = m.links; watchers = m.watchers; counts = counts; heads = m.heads; index = m.index } in
    let has : HasClient (view_of c.self.inside) c.args.client = subst (λ (s : BoardState). HasClient s c.args.client) (sym c.self.view_is) c.requires in
    let is : posted (view_of c.self.inside) c.args.client ≡ c.in_ok-first.first ∷ posted (view_of a) c.args.client = elim c.match-client.branch [
      | in-Nav w ↦ grind (arith, common_steps)
      | in-Link w ↦ grind (arith, common_steps)
      | in-Watch w ↦ grind (arith, common_steps)
    ] in
    let now : view_of a ≡ heard (view_of c.self.inside) c.args.client (posted (view_of a) c.args.client) = elim c.match-client.branch [
      | in-Nav w ↦ grind (arith, common_steps)
      | in-Link w ↦ grind (arith, common_steps)
      | in-Watch w ↦ grind (arith, common_steps)
    ] in
    let room : m.waiting.capacity ≡ c.self.inside.waiting.capacity = elim c.match-client.branch [
      | in-Nav w ↦ ap (λ (x : Inside). x.waiting.capacity) w.self-inside-is
      | in-Link w ↦ ap (λ (x : Inside). x.waiting.capacity) w.self-inside-is
      | in-Watch w ↦ ap (λ (x : Inside). x.waiting.capacity) w.self-inside-is
    ] in
    let same : m.counts ≡ c.self.inside.counts = elim c.match-client.branch [
      | in-Nav w ↦ ap (λ (x : Inside). x.counts) w.self-inside-is
      | in-Link w ↦ ap (λ (x : Inside). x.counts) w.self-inside-is
      | in-Watch w ↦ ap (λ (x : Inside). x.counts) w.self-inside-is
    ] in
    let client : c.match-client.client ≡ c.args.client = elim c.match-client.branch [
      | in-Nav w ↦ cc
      | in-Link w ↦ cc
      | in-Watch w ↦ cc
    ] in
    kept_heard c.self.inside a c.args.client c.in_ok-first.first c.seat_of.result c.self.invariant has is now room (c.seat_of.ensures.seat ∙ ap seat_of client) (ap (λ n. set n c.seat_of.result (get_or n c.seat_of.result 0 - 1)) same)
