-- A reply is taken; else the schedule goes on over the same board.
use Rattle.std.proofs.Common.{subst}
use Rattle.request_board.specs.BoardState.{BoardState}
use Rattle.vehicle_core.specs.NavActs.{NavActs}
use Rattle.vehicle_core.proofs.NavLines.{got_made}
use Rattle.vehicle_core.proofs.nav.step.Goals as goal

pub returns-in-Some : goal.returns-in-Some
returns-in-Some c =
    got_made c.args.shared.now c.args.nav.now c.in-Some.asked c.in-Some.reply c.take_reply.new.self c.got.new.self
    c.if-not-shared.false c.in-Some.ensures.some.0 c.in-Some.ensures.some.1 c.got.ensures.told c.got.ensures.shown

pub returns-in-None : goal.returns-in-None
returns-in-None c =
    subst (λ (b : BoardState). NavActs (record c.args.shared.now { board = b }) c.args.nav.now c.go_on.result c.go_on.new.shared c.go_on.new.nav) c.in-None.ensures.none.1
    c.go_on.ensures
