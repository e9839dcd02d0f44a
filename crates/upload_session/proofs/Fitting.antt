-- A session whose requests stay fits another board; what a request that is asked leaves.
use Rattle.std.proofs.Common.{◌≡◌, ◌∙◌, ℕ, [], ◌∷◌, ◌++◌, ap, refl, subst, sym}
use Rattle.mission_model.specs.declared.request.Client.TheVariants.{Link}
use Rattle.mission_model.specs.declared.request.Request.{Request}
use Rattle.mission_model.specs.Shown.{asked_of}
use Rattle.request_board.specs.BoardState.{BoardState, ClientsStay, OpenStays, open_asks}
use Rattle.request_board.specs.BoardCalls.{asked}
use Rattle.request_board.specs.Frames.{asked_own, asked_others, asked_posted}
use Rattle.transfer_lock.specs.TransferState.{TransferState}
use Rattle.upload_session.specs.declared.session.Stage.{Stage}
use Rattle.upload_session.specs.declared.session.Stage.TheVariants as stage
use Rattle.upload_session.specs.SessionState.{SessionState, SessionFits, BoardKeeps, Keeps, GrantFits, AwaitsOnly, IsReady, HaveIds, types_left}

pub SessionFits-moved : (s : SessionState) (t : TransferState) (b b' : BoardState) → ClientsStay b b' → open_asks b' (Link s.link) ≡ open_asks b (Link s.link) → SessionFits s t b → SessionFits s t b'
SessionFits-moved s t b b' clients same fits = record {
  grant = fits.grant;
  ids = fits.ids;
  client = clients (Link s.link) fits.client;
  asks = subst (AwaitsOnly s.stage) (sym same) fits.asks;
}

-- a session that is ready waits for nothing, and so it keeps all where only the kept index changes
ready_ids : (at : Stage) (t : TransferState) → IsReady at → HaveIds t (types_left at)
ready_ids stage.Free t ready = tt
ready_ids (stage.Receiving draft) t ready = tt
ready_ids (stage.Writing draft) t ready = absurd ready
ready_ids (stage.Committing next) t ready = absurd ready

pub ready_keeps : (s : SessionState) (t : TransferState) (b b' : BoardState) → IsReady s.stage → GrantFits s t → open_asks b (Link s.link) ≡ [] → OpenStays b b' → BoardKeeps s.link b b' → Keeps s t b s t b'
ready_keeps s t b b' ready grant none stays keeps = record {
  number = refl;
  grant = grant;
  ids = ready_ids s.stage t ready;
  held = λ other apart is. refl;
  no_other = λ other apart is. is;
  asks = subst (AwaitsOnly s.stage) (sym (stays (Link s.link) ∙ none)) ready;
  board = keeps;
}

-- a link that had no request outstanding asked one
pub asked_only : (b : BoardState) (number : ℕ) (request : Request) → open_asks b (Link number) ≡ [] → open_asks (asked b (Link number) request) (Link number) ≡ asked_of request ∷ []
asked_only b number request none = asked_own b (Link number) request ∙ ap (λ l. l ++ asked_of request ∷ []) none

pub asked_keeps : (b : BoardState) (number : ℕ) (request : Request) → BoardKeeps number b (asked b (Link number) request)
asked_keeps b number request = record {
  others = asked_others b (Link number) request;
  posted = asked_posted b (Link number) request;
  clients = λ client has. has;
  same = refl;
}
