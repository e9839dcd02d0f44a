-- A reply is answered.
use Rattle.std.proofs.Common.{subst}
use Rattle.mission_model.specs.declared.request.Asked.{Asked}
use Rattle.mission_model.specs.declared.request.Client.TheVariants.{Link}
use Rattle.mission_model.specs.declared.request.Reply.{Reply}
use Rattle.mission_model.specs.Replies.{CanHear}
use Rattle.request_board.specs.BoardState.{posted}
use Rattle.vehicle_core.specs.LinkActs.{CanHearAll}
use Rattle.vehicle_core.proofs.Lists.{first_of}
use Rattle.vehicle_core.proofs.LinkLines.{heard_made}
use Rattle.vehicle_core.proofs.link.step.Goals as goal

pub hear-answer-requires-clause-hears : goal.hear-answer-requires-clause-hears
hear-answer-requires-clause-hears c =
    first_of (λ (said : Asked × Reply). CanHear said.0 said.1) (c.in-Some.asked, c.in-Some.reply) (posted c.take_reply.new.self (Link c.args.link.now.number))
    (subst CanHearAll c.in-Some.ensures.some.0 (c.requires.replies c.if-not-shared.false))

pub returns-in-Some : goal.returns-in-Some
returns-in-Some c =
    heard_made c.args.shared.now c.args.link.now c.in-Some.asked c.in-Some.reply c.take_reply.new.self c.hear-answer.result c.hear-answer.new.shared c.hear-answer.new.link
    c.requires c.if-not-shared.false c.in-Some.ensures.some.0 c.in-Some.ensures.some.1 c.hear-answer.ensures.answers c.hear-answer.ensures.called c.hear-answer.ensures.schedule
