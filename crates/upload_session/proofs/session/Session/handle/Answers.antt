-- A SetCurrent leaves the session as it is.
use Rattle.std.proofs.Common.{sym, subst}
use Rattle.mission_model.specs.declared.message.Message.{Message}
use Rattle.upload_session.specs.SessionLaw.{message_law}
use Rattle.upload_session.specs.SessionState.{Obeys, link_of}
use Rattle.upload_session.proofs.Fitting.{ready_keeps}
use Rattle.upload_session.proofs.session.Session.handle.Goals as goal

pub returns-in-SetCurrent-clause-obeys : goal.returns-in-SetCurrent-clause-obeys
returns-in-SetCurrent-clause-obeys c = λ heard h.
    subst (λ (m : Message). Obeys (message_law c.args.self.now.link (link_of c.args.self.now.stage heard) m c.args.transfer.now c.args.board.now) c.set_current.result c.args.self.now c.args.transfer.now c.set_current.new.board) (sym c.in-SetCurrent.is)
    (c.set_current.ensures.obeys c.args.self.now.link c.args.self.now.stage heard c.args.transfer.now c.requires.ready h)

pub returns-in-SetCurrent-clause-keeps : goal.returns-in-SetCurrent-clause-keeps
returns-in-SetCurrent-clause-keeps c =
    ready_keeps c.args.self.now c.args.transfer.now c.args.board.now c.set_current.new.board c.requires.ready c.requires.grant c.requires.asks c.set_current.ensures.asks (c.set_current.ensures.keeps c.args.self.now.link)
