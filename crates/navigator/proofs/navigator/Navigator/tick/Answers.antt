use Rattle.std.proofs.Common.{List}
use Rattle.mission_model.specs.declared.plan.Item.{Item}
use Rattle.navigator.specs.NavState.{HasShown}
use Rattle.navigator.proofs.Events.{Obeys-steps}
use Rattle.navigator.proofs.navigator.Navigator.tick.Goals as goal

pub returns : goal.returns
returns c = λ (items : List Item) (h : HasShown c.args.self.now items).
    Obeys-steps c.args.self.now c.meet.new.self c.take_index.new.self c.act_on-what.new.self c.ask_mark.new.self items c.args.board.now c.take_index.new.board c.act_on-what.new.board c.ask_mark.new.board c.args.line.now c.act_on-what.result c.room-before.result c.room.result
    h (rw (← c.published.ensures) c.meet.ensures.meets) c.take_index.ensures.board c.take_index.ensures.state c.act_on-what.ensures.acts c.act_on-what.ensures.grows c.ask_mark.ensures.mark c.ask_mark.ensures.rest c.room-before.ensures c.room.ensures
