-- The link had nothing outstanding, so its request is let in.
use Rattle.std.proofs.Common.{◌≡◌, [], ◌∷◌, sym, subst, rules}
use Rattle.mission_model.specs.declared.request.Client.TheVariants.{Link}
use Rattle.mission_model.specs.Shown.{asked_of}
use Rattle.request_board.specs.BoardState.{BoardState, open_asks}
use Rattle.request_board.specs.BoardCalls.{asked}
use Rattle.upload_session.specs.SessionState.{BoardKeeps}
use Rattle.upload_session.proofs.Fitting.{asked_keeps, asked_only}
use Rattle.upload_session.proofs.session.ask.Goals as goal

pub returns-clause-keeps : goal.returns-clause-keeps
returns-clause-keeps c =
    let is : c.ask.new.self ≡ asked c.args.board.now (Link c.args.link) c.args.request = search rules in
    subst (λ (b : BoardState). BoardKeeps c.args.link c.args.board.now b) (sym is) (asked_keeps c.args.board.now c.args.link c.args.request)

pub returns-clause-asks : goal.returns-clause-asks
returns-clause-asks c =
    let is : c.ask.new.self ≡ asked c.args.board.now (Link c.args.link) c.args.request = search rules in
    subst (λ (b : BoardState). open_asks b (Link c.args.link) ≡ asked_of c.args.request ∷ []) (sym is) (asked_only c.args.board.now c.args.link c.args.request c.requires.asks)
