-- Sessions of several links over one transfer and one board: a call of one leaves each of them fitting.
use Rattle.std.specs.Prelude.{◌≡◌, ◌≢◌, ℕ, List, [], ◌∷◌, Some, refl}
use Rattle.std.proofs.Common.{sym, subst, ap, ◌∙◌}
use Rattle.mission_model.specs.declared.request.Asked.{Asked}
use Rattle.mission_model.specs.declared.request.Client.TheVariants.{Link}
use Rattle.request_board.specs.BoardState.{BoardState, HasClient, open_asks}
use Rattle.transfer_lock.specs.TransferState.{TransferState}
use Rattle.upload_session.specs.declared.session.Stage.{Stage}
use Rattle.upload_session.specs.declared.session.Stage.TheVariants as stage
use Rattle.upload_session.specs.SessionState.{SessionState, SessionFits, Keeps, IsHolder, HaveIds, Awaits, AwaitsOnly, types_left, types_from}

-- the session that was called fits
pub SessionFits-own : (s s' : SessionState) (t t' : TransferState) (b b' : BoardState) → HasClient b (Link s.link) → Keeps s t b s' t' b' → SessionFits s' t' b'
SessionFits-own s s' t t' b b' has keeps = record {
  grant = keeps.grant;
  ids = keeps.ids;
  client = subst (λ (n : ℕ). HasClient b' (Link n)) (sym keeps.number) (keeps.board.clients (Link s.link) has);
  asks = subst (λ (n : ℕ). AwaitsOnly s'.stage (open_asks b' (Link n))) (sym keeps.number) keeps.asks;
}

-- the grant of a link fits still
held_still : (st : Stage) (link : ℕ) (t t' : TransferState) → (t.holder ≡ Some link → t' ≡ t) → (t'.holder ≡ Some link → t.holder ≡ Some link) → IsHolder st link t.holder → IsHolder st link t'.holder
held_still stage.Free link t t' held no_other h = λ e. h (no_other e)
held_still (stage.Receiving draft) link t t' held no_other h = ap (λ (x : TransferState). x.holder) (held h) ∙ h
held_still (stage.Writing draft) link t t' held no_other h = ap (λ (x : TransferState). x.holder) (held h) ∙ h
held_still (stage.Committing next) link t t' held no_other h = ap (λ (x : TransferState). x.holder) (held h) ∙ h

-- the ids that its clearing will take are left still
ids_still : (st : Stage) (link : ℕ) (t t' : TransferState) → (t.holder ≡ Some link → t' ≡ t) → IsHolder st link t.holder → HaveIds t (types_left st) → HaveIds t' (types_left st)
ids_still stage.Free link t t' held h ids = tt
ids_still (stage.Receiving draft) link t t' held h ids = tt
ids_still (stage.Writing draft) link t t' held h ids = tt
ids_still (stage.Committing next) link t t' held h ids = subst (λ (x : TransferState). HaveIds x (types_from next)) (sym (held h)) ids

-- the first of its outstanding requests is the one that it waits for, and there is no other
pub AwaitsOnly-first : (at : Stage) (asked : Asked) (rest : List Asked) → AwaitsOnly at (asked ∷ rest) → Awaits at asked × (rest ≡ [])
AwaitsOnly-first at asked [] h = (h, refl)
AwaitsOnly-first at asked (second ∷ rest) h = elim h [ ]

other_link : (link number : ℕ) → link ≢ number → Link link ≢ Link number
other_link link number ne e = ne cc

-- so does the session of another link
pub SessionFits-other : (other s s' : SessionState) (t t' : TransferState) (b b' : BoardState) → other.link ≢ s.link → Keeps s t b s' t' b' → SessionFits other t b → SessionFits other t' b'
SessionFits-other other s s' t t' b b' ne keeps fits = record {
  grant = held_still other.stage other.link t t' (keeps.held other.link ne) (keeps.no_other other.link ne) fits.grant;
  ids = ids_still other.stage other.link t t' (keeps.held other.link ne) fits.grant fits.ids;
  client = keeps.board.clients (Link other.link) fits.client;
  asks = subst (AwaitsOnly other.stage) (sym (keeps.board.others (Link other.link) (other_link other.link s.link ne)).1) fits.asks;
}
