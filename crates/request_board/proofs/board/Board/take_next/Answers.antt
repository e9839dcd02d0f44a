-- The first request leaves the queue, and is in service.
use Rattle.std.proofs.Common.{◌≡◌, sym, ◌∙◌, List, ◌∷◌, drop, ap, None, length, subst}
use Rattle.circular_buffer.specs.Buffer.{Buffer, buffer}
use Rattle.mission_model.specs.declared.request.Client.{Client}
use Rattle.mission_model.specs.declared.request.Request.{Request}
use Rattle.request_board.proofs.Sound.{sound_taken, first_rest}
use Rattle.request_board.specs.Frames.{taken_open}
use Rattle.request_board.specs.Kept.{view_of}
use Rattle.request_board.specs.BoardState.{BoardState, OpenStays}
use Rattle.request_board.specs.BoardCalls.{taken}
use Rattle.request_board.proofs.board.Board.take_next.Goals as goal

pub invariant_of-self-2 : goal.invariant_of-self-2
invariant_of-self-2 c =
    let a = c.self.inside in
    let first = c.in_ok-first.first in
    let rest : List (Client × Request) = c.pop_front.new.self.items in
    let popped : c.pop_front.new.self ≡ buffer (drop 1 a.waiting.items) a.waiting.capacity = c.pop_front.ensures.items in
    let waits : a.waiting.items ≡ first ∷ rest = first_rest a.waiting.items first (sym c.pop_front.ensures.value ∙ c.in_ok-first.was) ∙ sym (ap (λ (b : Buffer (Client × Request)). first ∷ b.items) popped) in
    let idle : (view_of a).service ≡ None = ap (λ (b : BoardState). b.service) c.self.view_is ∙ c.requires in
    record {
      sound = sound_taken (view_of a) first rest c.self.invariant.sound idle waits;
      room = ap (λ (b : Buffer (Client × Request)). b.capacity) popped ∙ c.self.invariant.room;
      links = c.self.invariant.links;
      watchers = c.self.invariant.watchers;
      seats = c.self.invariant.seats;
      counts = λ client has. c.self.invariant.counts client has ∙ sym (ap length (taken_open (view_of a) first rest idle waits client));
    }

pub returns-clause-asks : goal.returns-clause-asks
returns-clause-asks c =
    let a = c.self.inside in
    let first = c.in_ok-first.first in
    let rest : List (Client × Request) = c.pop_front.new.self.items in
    let popped : c.pop_front.new.self ≡ buffer (drop 1 a.waiting.items) a.waiting.capacity = c.pop_front.ensures.items in
    let waits : a.waiting.items ≡ first ∷ rest = first_rest a.waiting.items first (sym c.pop_front.ensures.value ∙ c.in_ok-first.was) ∙ sym (ap (λ (b : Buffer (Client × Request)). first ∷ b.items) popped) in
    let idle : (view_of a).service ≡ None = ap (λ (b : BoardState). b.service) c.self.view_is ∙ c.requires in
    subst (λ (s : BoardState). OpenStays s (taken (view_of a) first rest)) c.self.view_is (taken_open (view_of a) first rest idle waits)
