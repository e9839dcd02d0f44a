-- The schedule goes on: a message, or a meeting or a wait.
use Rattle.std.proofs.Common.{◌≡◌, true, None, Some, sym, ◌∙◌, subst}
use Rattle.mission_model.specs.declared.request.Client.TheVariants.{Link}
use Rattle.mission_model.specs.declared.flight_line.Line.TheVariants as line
use Rattle.mission_model.specs.declared.message.Said.{Said}
use Rattle.vehicle_core.specs.Ready.{is_free}
use Rattle.vehicle_core.specs.ActorStep.{message_of}
use Rattle.vehicle_core.specs.LinkActs.{LinkMade}
use Rattle.vehicle_core.proofs.LinkLines.{said_made, rests_acts}
use Rattle.vehicle_core.proofs.link.go_on.Goals as goal

pub returns-in-Some : goal.returns-in-Some
returns-in-Some c =
    let free : is_free c.args.shared.now.board (Link c.args.link.now.number) ≡ true = sym c.is_free.ensures ∙ c.if-not-is_free.false in
    let sends : message_of c.args.link.now.schedule.inputs c.args.link.now.schedule.begun c.args.link.now.schedule.requested ≡ Some c.in-Some.message = sym c.next_message.ensures ∙ c.in-Some.is in
    subst (λ (said : Said). LinkMade c.args.shared.now c.args.link.now (line.Sent c.say-answer.new.link.number said c.say-answer.result) c.say-answer.new.shared c.say-answer.new.link) (sym c.said_of.ensures)
    (said_made c.args.shared.now c.args.link.now c.in-Some.message c.say-answer.result c.say-answer.new.shared c.say-answer.new.link
    c.requires.fits c.requires.power c.requires.none free sends c.say-answer.ensures.answers c.say-answer.ensures.called c.say-answer.ensures.schedule)

pub returns-in-None : goal.returns-in-None
returns-in-None c =
    let free : is_free c.args.shared.now.board (Link c.args.link.now.number) ≡ true = sym c.is_free.ensures ∙ c.if-not-is_free.false in
    let none : message_of c.args.link.now.schedule.inputs c.args.link.now.schedule.begun c.args.link.now.schedule.requested ≡ None = sym c.next_message.ensures ∙ c.in-None.is in
    rests_acts c.args.shared.now c.args.link.now c.step.result c.step.new.shared c.step.new.schedule c.requires.fits c.requires.power c.requires.none free none c.step.ensures
