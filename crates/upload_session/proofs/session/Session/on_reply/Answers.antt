-- What a commit that is done leaves is what the law says.
use Rattle.std.proofs.Common.{◌≡◌, sym, subst, ap, ◌∙◌}
use Rattle.mission_model.specs.declared.request.Reply.{Reply}
use Rattle.mission_model.specs.declared.request.Reply.TheVariants.{Done}
use Rattle.upload_session.specs.declared.session.Stage.{Stage}
use Rattle.upload_session.specs.declared.session.Stage.TheVariants.{Committing}
use Rattle.upload_session.specs.SessionLaw.{reply_law}
use Rattle.upload_session.specs.SessionState.{SessionState, Obeys, link_of}
use Rattle.upload_session.proofs.session.Session.on_reply.Goals as goal

pub returns-in-Committing-clause-obeys : goal.returns-in-Committing-clause-obeys
returns-in-Committing-clause-obeys c = λ heard h.
    let was : c.args.self.now.stage ≡ Committing c.in-Committing.next = ap (λ (s : SessionState). s.stage) (sym c.self.view_is) ∙ c.in-Committing.is in
    let done : c.args.reply.now ≡ Done = c.in-Done.is in
    subst (λ (r : Reply). Obeys (reply_law c.args.self.now.link (link_of c.args.self.now.stage heard) r c.args.transfer.now c.args.board.now) c.committed.result c.committed.new.self c.committed.new.transfer c.committed.new.board) (sym done)
    (subst (λ (s : Stage). Obeys (reply_law c.args.self.now.link (link_of s heard) Done c.args.transfer.now c.args.board.now) c.committed.result c.committed.new.self c.committed.new.transfer c.committed.new.board) (sym was)
    (c.committed.ensures.obeys heard))
