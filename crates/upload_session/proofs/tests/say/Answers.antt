-- After a message the session fits, and so does any other.
use Rattle.std.proofs.Common.{◌≢◌, ◌∙◌}
use Rattle.upload_session.specs.Sessions.{SessionFits-own, SessionFits-other}
use Rattle.upload_session.proofs.tests.say.Goals as goal

pub returns-clause-fits : goal.returns-clause-fits
returns-clause-fits c = SessionFits-own c.args.session.now c.handle.new.self c.args.transfer.now c.handle.new.transfer c.args.board.now c.handle.new.board c.requires.fits.client c.handle.ensures.keeps

pub returns-clause-others : goal.returns-clause-others
returns-clause-others c = λ other differs fits.
    let differs : other.link ≢ c.args.session.now.link = λ same. differs (same ∙ c.requires.link) in
    SessionFits-other other c.args.session.now c.handle.new.self c.args.transfer.now c.handle.new.transfer c.args.board.now c.handle.new.board differs c.handle.ensures.keeps fits
