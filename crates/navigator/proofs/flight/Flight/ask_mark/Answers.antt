use Rattle.std.proofs.Common.{◌≡◌, ◌<◌, arith, sym, ◌∙◌, inr, refl}
use Rattle.mission_model.specs.declared.counts.Mark.{Mark}
use Rattle.mission_model.specs.declared.request.Asked.TheVariants as about
use Rattle.mission_model.specs.declared.request.Client.TheVariants.{Nav}
use Rattle.mission_model.specs.declared.request.Request.TheVariants as request
use Rattle.mission_model.specs.PlainMark.{plain_mark}
use Rattle.request_board.specs.BoardState.{outstanding, limit}
use Rattle.navigator.specs.Meeting.{place_of}
use Rattle.navigator.specs.contracts.flight.Flight.{the_view}
use Rattle.navigator.proofs.Marking.{asked-let_in, outstanding-let_in}
use Rattle.navigator.proofs.flight.Flight.ask_mark.Goals as goal

pub returns : goal.returns
returns c =
    let mark : Mark = record { id = c.args.id; index = c.index.result; counts = c.counts.result } in
    let room : outstanding c.args.board.now Nav < limit Nav = omega (arith, c.room.ensures, c.if-room-eq0.false) in
    let place : plain_mark mark ≡ place_of c.args.id (the_view c.self.inside) = rw (c.index.ensures.index, c.counts.ensures) refl in
    rw (← c.self.view_is) (inr (record {
      mark = mark;
      room = room;
      place = place;
      other = λ e. cc (c.is_same_place.ensures.1 (rw c.last.ensures (e ∙ sym place)), c.if-is_same_place.false);
      flight = rw c.push.ensures refl;
      board = asked-let_in c.ask.result c.args.board.now c.ask.new.self (request.SetMark mark) c.ask.ensures.full c.ask.ensures.ok room;
      outstanding = outstanding-let_in c.ask.result c.args.board.now c.ask.new.self (about.SetMark mark) c.ask.ensures.full c.ask.ensures.asks room;
    }))
