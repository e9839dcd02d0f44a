-- What a step leaves to all other clients, and that it is enough for them to fit still.
use Rattle.std.proofs.Common.{◌≡◌, ◌≢◌, ◌⊎◌, inl, inr, ℕ, ◌<◌, Bool, true, false, List, Some, sym, subst, ap, ◌∙◌, arith}
use Rattle.mission_model.specs.declared.plan.Item.{Item}
use Rattle.mission_model.specs.declared.plan.PlanHead.{PlanHead}
use Rattle.mission_model.specs.declared.plan.PlanType.{PlanType}
use Rattle.mission_model.specs.declared.request.Asked.{Asked}
use Rattle.mission_model.specs.declared.request.Client.{Client}
use Rattle.mission_model.specs.declared.request.Client.TheVariants.{Nav, Link, Watch}
use Rattle.mission_model.specs.PlanTypes.{head_of}
use Rattle.request_board.specs.BoardState.{BoardState, HasClient, posted, open_asks, ClientsStay, OthersStay}
use Rattle.request_board.specs.Watching.{Awaited, HeadsFit}
use Rattle.transfer_lock.specs.TransferState.{TransferState}
use Rattle.upload_session.specs.declared.session.Stage.{Stage}
use Rattle.upload_session.specs.declared.session.Stage.TheVariants as stage
use Rattle.upload_session.specs.SessionState.{SessionState, SessionFits, AwaitsOnly, IsHolder, link_of}
use Rattle.vehicle_core.specs.declared.shared.Shared.{Shared}
use Rattle.vehicle_core.specs.declared.link.Link.{Link as LinkState}
use Rattle.vehicle_core.specs.declared.watch.WatchActor.{WatchActor}
use Rattle.vehicle_core.specs.Told.{SharedTold}
use Rattle.vehicle_core.specs.SharedState.{shared_told}
use Rattle.vehicle_core.specs.LinkActs.{CanHearAll, LinkFits, LinkKeeps}
use Rattle.vehicle_core.specs.WatchActs.{WatchAsks, WatchFits}
use Rattle.vehicle_core.specs.UploadFits.{DraftFits}
use Rattle.vehicle_core.specs.UploadLaws.{SameClients}
use Rattle.vehicle_core.specs.Fits.{LinkKnows}

-- a published head stays, or another of a later id takes its place
abbrev pub HeadRises : PlanHead → PlanHead → Type 0
HeadRises old new = (new ≡ old) ⊎ (old.id < new.id)

-- What a step leaves to the clients that are apart from its own.
-- same: the board has as many clients; asks: the same requests are outstanding; replies: while the power is on each posted reply
-- may be heard; heads: published heads rise; sessions: each session that fitted fits; drafts: each plan that is brought is new.
pub record Leaves (Apart : Client → Type 0) (t t' : SharedTold) : Type 0 where
  pub same : SameClients t.board t'.board
  pub asks : (client : Client) → Apart client → open_asks t'.board client ≡ open_asks t.board client
  pub replies : (client : Client) → Apart client → HasClient t.board client → (t.power ≡ true → CanHearAll (posted t.board client)) → t'.power ≡ true → CanHearAll (posted t'.board client)
  pub heads : (kind : PlanType) → HeadRises (head_of t.board.published kind) (head_of t'.board.published kind)
  pub sessions : (other : SessionState) → Apart (Link other.link) → SessionFits other t.transfer t.board → SessionFits other t'.transfer t'.board
  pub drafts : (other : SessionState) (heard : List Item) → Apart (Link other.link) → SessionFits other t.transfer t.board → DraftFits t.transfer t.board.published (link_of other.stage heard) → DraftFits t'.transfer t'.board.published (link_of other.stage heard)

pub clients_stay : (b b' : BoardState) → SameClients b b' → ClientsStay b b'
clients_stay b b' same Nav has = tt
clients_stay b b' same (Link n) has = omega (arith, same.links, has)
clients_stay b b' same (Watch n) has = omega (arith, same.watchers, has)

-- a session fits a board on which its link has the same requests
pub session_moved : (other : SessionState) (t : TransferState) (b b' : BoardState) → ClientsStay b b' → open_asks b' (Link other.link) ≡ open_asks b (Link other.link) → SessionFits other t b → SessionFits other t b'
session_moved other t b b' clients same fits = record {
  grant = fits.grant;
  ids = fits.ids;
  client = clients (Link other.link) fits.client;
  asks = subst (AwaitsOnly other.stage) (sym same) fits.asks;
}

-- What a client's own step leaves to the others.

-- of the board only what is the client's own changes
pub record ClientKeeps (client : Client) (t t' : SharedTold) : Type 0 where
  pub same : SameClients t.board t'.board
  pub others : OthersStay client t.board t'.board
  pub published : t'.board.published ≡ t.board.published
  pub service : t'.board.service ≡ t.board.service
  pub power : t'.power ≡ t.power

replies_kept : (client : Client) (t t' : SharedTold) → ClientKeeps client t t' → (other : Client) → other ≢ client → (t.power ≡ true → CanHearAll (posted t.board other)) → t'.power ≡ true → CanHearAll (posted t'.board other)
replies_kept client t t' keeps other apart can on = subst CanHearAll (sym (keeps.others other apart).0) (can (sym keeps.power ∙ on))

heads_kept : (client : Client) (t t' : SharedTold) → ClientKeeps client t t' → (kind : PlanType) → HeadRises (head_of t.board.published kind) (head_of t'.board.published kind)
heads_kept client t t' keeps kind = inl (ap (λ (heads : List PlanHead). head_of heads kind) keeps.published)

pub client_leaves : (client : Client) (t t' : SharedTold) → ClientKeeps client t t' → t'.transfer ≡ t.transfer → Leaves (λ other. other ≢ client) t t'
client_leaves client t t' keeps transfer = record {
  same = keeps.same;
  asks = λ other apart. (keeps.others other apart).1;
  replies = λ other apart has can on. replies_kept client t t' keeps other apart can on;
  heads = λ kind. heads_kept client t t' keeps kind;
  sessions = λ other apart fits. subst (λ (x : TransferState). SessionFits other x t'.board) (sym transfer) (session_moved other t.transfer t.board t'.board (clients_stay t.board t'.board keeps.same) (keeps.others (Link other.link) apart).1 fits);
  drafts = λ other heard apart fits draft. subst (λ (x : TransferState × List PlanHead). DraftFits x.0 x.1 (link_of other.stage heard)) (λ k. (sym transfer k, sym keeps.published k)) draft;
}

-- the plan that another link brings is as new as it was: it holds the grant, and so the transfer stays
draft_held : (st : Stage) (heard : List Item) (link : ℕ) (t t' : TransferState) (heads heads' : List PlanHead) → IsHolder st link t.holder → (t.holder ≡ Some link → t' ≡ t) → heads' ≡ heads → DraftFits t heads (link_of st heard) → DraftFits t' heads' (link_of st heard)
draft_held stage.Free heard link t t' heads heads' grant held same draft = tt
draft_held (stage.Receiving d) heard link t t' heads heads' grant held same draft = subst (λ (x : TransferState × List PlanHead). DraftFits x.0 x.1 (link_of (stage.Receiving d) heard)) (λ k. (sym (held grant) k, sym same k)) draft
draft_held (stage.Writing d) heard link t t' heads heads' grant held same draft = subst (λ (x : TransferState × List PlanHead). DraftFits x.0 x.1 (link_of (stage.Writing d) heard)) (λ k. (sym (held grant) k, sym same k)) draft
draft_held (stage.Committing next) heard link t t' heads heads' grant held same draft = tt

number_apart : (a b : ℕ) → Link a ≢ Link b → a ≢ b
number_apart a b ne same = ne (ap (λ (n : ℕ). Link n) same)

link_keeps : (s : Shared) (l : LinkState) (s' : Shared) (l' : LinkState) (arrived arrived' : List ℕ) → LinkKeeps s l s' l' → SameClients s.board s'.board → ClientKeeps (Link l.number) (shared_told s arrived) (shared_told s' arrived')
link_keeps s l s' l' arrived arrived' keeps same = record { same = same; others = keeps.board; published = keeps.published; service = keeps.service; power = keeps.power }

pub link_leaves : (s : Shared) (l : LinkState) (s' : Shared) (l' : LinkState) (arrived arrived' : List ℕ) → LinkKeeps s l s' l' → SameClients s.board s'.board → Leaves (λ other. other ≢ Link l.number) (shared_told s arrived) (shared_told s' arrived')
link_leaves s l s' l' arrived arrived' keeps same =
    let t : SharedTold = shared_told s arrived in
    let t' : SharedTold = shared_told s' arrived' in
    let own : ClientKeeps (Link l.number) t t' = link_keeps s l s' l' arrived arrived' keeps same in
    record {
      same = same;
      asks = λ other apart. (keeps.board other apart).1;
      replies = λ other apart has can on. replies_kept (Link l.number) t t' own other apart can on;
      heads = λ kind. heads_kept (Link l.number) t t' own kind;
      sessions = λ other apart fits. keeps.others other (number_apart other.link l.number apart) fits;
      drafts = λ other heard apart fits draft.
          draft_held other.stage heard other.link s.transfer s'.transfer s.board.published s'.board.published fits.grant (keeps.held other.link (number_apart other.link l.number apart)) keeps.published draft;
    }

-- Who fits still.

module _ (Apart : Client → Type 0) (s s' : Shared) (arrived arrived' : List ℕ) (leaves : Leaves Apart (shared_told s arrived) (shared_told s' arrived')) where
  pub link_left : (l : LinkState) → Apart (Link l.number) → LinkFits s l → LinkFits s' l
  link_left l apart fits =
      let own : Apart (Link l.session.link) = subst (λ (n : ℕ). Apart (Link n)) (sym fits.number) apart in
      record {
        number = fits.number;
        session = leaves.sessions l.session own fits.session;
        replies = leaves.replies (Link l.number) apart (subst (λ (n : ℕ). HasClient s.board (Link n)) fits.number fits.session.client) fits.replies;
        inputs = fits.inputs;
      }

  pub draft_left : (l : LinkState) → Apart (Link l.number) → LinkFits s l → LinkKnows s l → LinkKnows s' l
  draft_left l apart fits knows = record {
    heard = knows.heard;
    hears = knows.hears;
    draft = leaves.drafts l.session knows.heard (subst (λ (n : ℕ). Apart (Link n)) (sym fits.number) apart) fits.session knows.draft;
  }

-- what a watcher waits for is still what it has outstanding
asks_left : (busy : Bool) (read : Awaited) (heads heads' : List PlanHead) (asks asks' : List Asked) → asks' ≡ asks → HeadRises (head_of heads read.kind) (head_of heads' read.kind) → WatchAsks busy read heads asks → WatchAsks busy read heads' asks'
asks_left false read heads heads' asks asks' same rises h = same ∙ h
asks_left true read heads heads' asks asks' same (inl stays) h = (same ∙ h.0, h.1, omega (arith, ap (λ (x : PlanHead). x.id) stays, h.2), λ is. stays ∙ h.3 (sym (ap (λ (x : PlanHead). x.id) stays) ∙ is))
asks_left true read heads heads' asks asks' same (inr later) h = (same ∙ h.0, h.1, omega (arith, later, h.2), λ is. absurd (omega (arith, later, h.2, is)))

module _ {W : Type 0} where
  pub watch_left : (waits : W → Awaited) (Apart : Client → Type 0) (s s' : Shared) (arrived arrived' : List ℕ) (w : WatchActor W) → Leaves Apart (shared_told s arrived) (shared_told s' arrived') → HeadsFit s'.board.published → Apart (Watch w.number) → WatchFits waits s w → WatchFits waits s' w
  watch_left waits Apart s s' arrived arrived' w leaves heads apart fits = record {
    client = clients_stay s.board s'.board leaves.same (Watch w.number) fits.client;
    heads = heads;
    replies = leaves.replies (Watch w.number) apart fits.client fits.replies;
    inputs = fits.inputs;
    asks = asks_left w.busy (waits w.watcher) s.board.published s'.board.published (open_asks s.board (Watch w.number)) (open_asks s'.board (Watch w.number)) (leaves.asks (Watch w.number) apart) (leaves.heads (waits w.watcher).kind) fits.asks;
  }
