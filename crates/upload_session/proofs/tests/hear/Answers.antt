-- After a reply the session fits, and so does any other.
use Rattle.std.proofs.Common.{◌≡◌, ◌≢◌, ℕ, List, [], ◌∷◌, ◌∙◌, sym, subst}
use Rattle.mission_model.specs.declared.request.Asked.{Asked}
use Rattle.mission_model.specs.declared.request.Client.TheVariants.{Link}
use Rattle.request_board.specs.BoardState.{BoardState, open_asks}
use Rattle.upload_session.specs.declared.session.Stage.{Stage}
use Rattle.upload_session.specs.SessionState.{Awaits, AwaitsOnly}
use Rattle.upload_session.specs.Sessions.{AwaitsOnly-first, SessionFits-own, SessionFits-other}
use Rattle.upload_session.proofs.Fitting.{SessionFits-moved}
use Rattle.upload_session.proofs.tests.hear.Goals as goal

pub on_reply-requires-clause-client : goal.on_reply-requires-clause-client
on_reply-requires-clause-client c = c.serve.ensures.clients (Link c.args.session.now.link) c.requires.fits.client

pub returns-in-Some-clause-fits : goal.returns-in-Some-clause-fits
returns-in-Some-clause-fits c =
    SessionFits-own c.args.session.now c.on_reply.new.self c.args.transfer.now c.on_reply.new.transfer c.serve.new.board c.on_reply.new.board
    (c.serve.ensures.clients (Link c.args.session.now.link) c.requires.fits.client)
    c.on_reply.ensures.keeps

pub returns-in-Some-clause-others : goal.returns-in-Some-clause-others
returns-in-Some-clause-others c = λ other differs fits.
    let from_session : other.link ≢ c.args.session.now.link = λ same. differs (same ∙ c.requires.link) in
    SessionFits-other other c.args.session.now c.on_reply.new.self c.args.transfer.now c.on_reply.new.transfer c.serve.new.board c.on_reply.new.board from_session c.on_reply.ensures.keeps
    (SessionFits-moved other c.args.transfer.now c.args.board.now c.serve.new.board c.serve.ensures.clients (c.serve.ensures.others other.link differs) fits)

pub returns-in-None-clause-fits : goal.returns-in-None-clause-fits
returns-in-None-clause-fits c =
    SessionFits-moved c.args.session.now c.args.transfer.now c.args.board.now c.serve.new.board c.serve.ensures.clients
    (subst (λ (link : ℕ). open_asks c.serve.new.board (Link link) ≡ open_asks c.args.board.now (Link link)) (sym c.requires.link) c.in-None.ensures.none)
    c.requires.fits

pub returns-in-None-clause-others : goal.returns-in-None-clause-others
returns-in-None-clause-others c = λ other differs fits.
    SessionFits-moved other c.args.transfer.now c.args.board.now c.serve.new.board c.serve.ensures.clients (c.serve.ensures.others other.link differs) fits

-- of the link's one request the reply was taken
served_one : (link number : ℕ) (at : Stage) (b b' : BoardState) (asked : Asked) → link ≡ number → AwaitsOnly at (open_asks b (Link link)) → open_asks b (Link number) ≡ asked ∷ open_asks b' (Link number) → Awaits at asked × (open_asks b' (Link link) ≡ [])
served_one link number at b b' asked same only is =
    let one : AwaitsOnly at (asked ∷ open_asks b' (Link link)) = subst (AwaitsOnly at) (subst (λ (n : ℕ). open_asks b (Link n) ≡ asked ∷ open_asks b' (Link n)) (sym same) is) only in
    AwaitsOnly-first at asked (open_asks b' (Link link)) one

pub on_reply-requires-clause-awaits : goal.on_reply-requires-clause-awaits
on_reply-requires-clause-awaits c =
    (served_one c.args.session.now.link c.args.link c.args.session.now.stage c.args.board.now c.serve.new.board c.in-Some.asked c.requires.link c.requires.fits.asks c.in-Some.ensures.some).0

pub on_reply-requires-clause-asks : goal.on_reply-requires-clause-asks
on_reply-requires-clause-asks c =
    (served_one c.args.session.now.link c.args.link c.args.session.now.stage c.args.board.now c.serve.new.board c.in-Some.asked c.requires.link c.requires.fits.asks c.in-Some.ensures.some).1

pub on_reply-requires-clause-hears : goal.on_reply-requires-clause-hears
on_reply-requires-clause-hears c =
    c.fitting-reply.ensures c.args.session.now.stage (served_one c.args.session.now.link c.args.link c.args.session.now.stage c.args.board.now c.serve.new.board c.in-Some.asked c.requires.link c.requires.fits.asks c.in-Some.ensures.some).0
