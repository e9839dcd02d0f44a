-- The laws of the actors' steps: a local keeps its number; what a step leaves fits it, and each other local that it fitted; an idle
-- step changes nothing.
use Rattle.std.specs.Prelude.{if◌then◌else◌}
use Rattle.std.proofs.Common.{◌≡◌, ◌≢◌, inl, ℕ, Bool, true, false, List, [], ◌∷◌, length, Option, Some, None, is_some, refl, sym, subst, ap, ◌∙◌}
use Rattle.mission_model.specs.declared.flight_line.Actor.{Actor}
use Rattle.mission_model.specs.declared.flight_line.Actor.TheVariants as actor
use Rattle.mission_model.specs.declared.flight_line.Line.{Line}
use Rattle.mission_model.specs.declared.flight_line.Line.TheVariants as line
use Rattle.mission_model.specs.declared.plan.PlanType.TheVariants.{Mission}
use Rattle.mission_model.specs.declared.request.Asked.{Asked}
use Rattle.mission_model.specs.declared.request.Client.{Client}
use Rattle.mission_model.specs.declared.request.Client.TheVariants as client
use Rattle.mission_model.specs.declared.request.Request.{Request}
use Rattle.mission_model.specs.declared.request.Reply.{Reply}
use Rattle.request_board.specs.BoardState.{HasClient, open_asks}
use Rattle.request_board.specs.Watching.{Awaited}
use Rattle.request_board.specs.WatchLaw.{WatchRules}
use Rattle.upload_session.specs.SessionState.{IsHolder}
use Rattle.navigator.specs.NavState.{with_taken}
use Rattle.turn_cell.specs.declared.machine.StepOut.{StepOut}
use Rattle.turn_cell.specs.declared.machine.StepOut.TheVariants.{Made, Idle}
use Rattle.vehicle_core.specs.declared.shared.Shared.{Shared}
use Rattle.vehicle_core.specs.declared.link.Link.{Link as LinkState}
use Rattle.vehicle_core.specs.declared.nav.NavActor.{NavActor}
use Rattle.vehicle_core.specs.declared.watch.WatchActor.{WatchActor}
use Rattle.vehicle_core.specs.declared.local.Local.{Local}
use Rattle.vehicle_core.specs.declared.local.Role.{Role}
use Rattle.vehicle_core.specs.declared.local.Role.TheVariants as role
use Rattle.vehicle_core.specs.Told.{SharedTold}
use Rattle.vehicle_core.specs.SharedState.{shared_told, arrived_after, Counted}
use Rattle.vehicle_core.specs.ActorStep.{Takes, Serves}
use Rattle.vehicle_core.specs.Ready.{has_first, Goes, Replies, Rests}
use Rattle.vehicle_core.specs.WorkerActs.{WorkerMade}
use Rattle.vehicle_core.specs.LinkActs.{LinkFits, LinkMade, link_told}
use Rattle.vehicle_core.specs.NavActs.{NavFits, NavMade, nav_told}
use Rattle.vehicle_core.specs.Steps.{WorkerFits, number_of, RoleFits, RoleActs, Steps}
use Rattle.vehicle_core.specs.UploadFits.{BoardFits}
use Rattle.vehicle_core.specs.UploadLaws.{SameClients}
use Rattle.vehicle_core.specs.Leaves.{Leaves, client_leaves, link_leaves, link_left, draft_left, watch_left}
use Rattle.vehicle_core.specs.WorkerKept.{AnyClient, idle_service, taken_leaves, taken_fits, served_leaves, served_fits}
use Rattle.vehicle_core.specs.LinkKept.{link_step_leaves, grant_told, waits_one}
use Rattle.vehicle_core.specs.WatchKept.{AnswersWell, watch_step_leaves}
use Rattle.vehicle_core.specs.NavKept.{may_tick, adopts_left, nav_step_leaves}
use Rattle.vehicle_core.specs.Fits.{SharedFits, LinkKnows, NavKnows, number_among, role_name, RoleKnows, LocalFits, LocalSuits}

-- what is in service and the power stay
pub record WorkerStays (s s' : Shared) : Type 0 where
  pub service : s'.board.service ≡ s.board.service
  pub power : s'.power ≡ s.power

pub counted_same : (arrived : List ℕ) (s s' : Shared) → s'.arrivals ≡ s.arrivals → Counted arrived s → Counted arrived s'
counted_same arrived s s' same counted = λ place below. ap (λ (xs : List ℕ). Rattle.std.specs.Prelude.slice_index_or xs place 0) same ∙ counted place below

-- The worker.

goes_idle : (served waits : Bool) → (if served then Replies else (if waits then Goes else Rests)) ≡ Goes → served ≡ false
goes_idle true waits is = absurd cc
goes_idle false waits is = refl

off_never : (s s' : Shared) (taken : Option (Client × Request)) → s.power ≡ true → s'.power ≡ s.power → s'.power ≡ false → taken ≡ None
off_never s s' taken on same off = absurd (let e : true ≡ false = sym on ∙ sym same ∙ off in cc)

-- what a line of the worker leaves
pub record WorkerLeaves (s s' : Shared) (taken' : Option (Client × Request)) : Type 0 where
  pub arrived : List ℕ
  pub shared : SharedFits s'
  pub leaves : Leaves AnyClient (shared_told s arrived) (shared_told s' arrived)
  pub own : WorkerFits s' taken'

took_leaves : (s : Shared) (who : Client) (about : Asked) (s' : Shared) (taken' : Option (Client × Request)) (f : SharedFits s) → s.power ≡ true → Takes (shared_told s f.arrived) who about (shared_told s' f.arrived) → s'.board.service ≡ taken' → s'.arrivals ≡ s.arrivals → WorkerLeaves s s' taken'
took_leaves s who about s' taken' f on takes service counts =
    let t : SharedTold = shared_told s f.arrived in
    let idle : s.board.service ≡ None = idle_service s.board.service (goes_idle (is_some s.board.service) (has_first s.board.waiting) takes.turn) in
    record {
      arrived = f.arrived;
      shared = record {
        arrived = f.arrived;
        counted = counted_same f.arrived s s' counts f.counted;
        board = subst (λ (x : SharedTold). BoardFits x.transfer x.board) (sym takes.shared) (taken_fits s.transfer s.board (who, takes.request) takes.rest idle takes.first f.board);
      };
      leaves = taken_leaves t (who, takes.request) takes.rest (shared_told s' f.arrived) idle takes.first takes.shared;
      own = record { service = service; power = off_never s s' taken' on (ap (λ (x : SharedTold). x.power) takes.shared) };
    }

gave_leaves : (s : Shared) (who : Client) (given : Reply) (s' : Shared) (taken' : Option (Client × Request)) (f : SharedFits s) → s.power ≡ true → HasClient s.board who → Serves (shared_told s f.arrived) who given (shared_told s' f.arrived) → s'.board.service ≡ taken' → s'.arrivals ≡ s.arrivals → WorkerLeaves s s' taken'
gave_leaves s who given s' taken' f on has serves service counts =
    let t : SharedTold = shared_told s f.arrived in
    record {
      arrived = f.arrived;
      shared = record {
        arrived = f.arrived;
        counted = counted_same f.arrived s s' counts f.counted;
        board = subst (λ (x : SharedTold). BoardFits x.transfer x.board) (sym serves.shared) (served_fits s.transfer s.board who serves.request given serves.service f.board);
      };
      leaves = served_leaves t who serves.request given (shared_told s' f.arrived) on serves.service has serves.suits f.board serves.shared;
      own = record { service = service; power = λ off. sym service ∙ ap (λ (x : SharedTold). x.board.service) serves.shared };
    }

pub worker_leaves : (s : Shared) (given : Option Reply) (made : Line) (s' : Shared) (taken' : Option (Client × Request)) → SharedFits s → WorkerMade s given made s' taken' → WorkerLeaves s s' taken'
worker_leaves s None (line.Took who about) s' taken' f h = took_leaves s who about s' taken' f h.power (h.line f.arrived) h.service h.counts
worker_leaves s (Some given) (line.Served who reply) s' taken' f h = let l = h.line f.arrived in gave_leaves s who reply s' taken' f h.power l.1 l.2 h.service h.counts
worker_leaves s None (line.Boot number heads mark) s' taken' f h = elim (h.line f.arrived) [ ]
worker_leaves s None (line.BootCut number) s' taken' f h = elim (h.line f.arrived) [ ]
worker_leaves s None (line.Sent number said reply) s' taken' f h = elim (h.line f.arrived) [ ]
worker_leaves s None (line.Heard number reply said) s' taken' f h = elim (h.line f.arrived) [ ]
worker_leaves s None (line.Served who reply) s' taken' f h = elim (h.line f.arrived) [ ]
worker_leaves s None (line.Got about reply) s' taken' f h = elim (h.line f.arrived) [ ]
worker_leaves s None (line.Nav event entry) s' taken' f h = elim (h.line f.arrived) [ ]
worker_leaves s None (line.Dropped kind seq) s' taken' f h = elim (h.line f.arrived) [ ]
worker_leaves s None (line.Arrived who place) s' taken' f h = elim (h.line f.arrived) [ ]
worker_leaves s None (line.Met who place) s' taken' f h = elim (h.line f.arrived) [ ]
worker_leaves s None (line.Waited who) s' taken' f h = elim (h.line f.arrived) [ ]
worker_leaves s None (line.WatchDid number event note asks) s' taken' f h = elim (h.line f.arrived) [ ]
worker_leaves s None (line.WatchGot number about reply note asks) s' taken' f h = elim (h.line f.arrived) [ ]
worker_leaves s None line.End s' taken' f h = elim (h.line f.arrived) [ ]
worker_leaves s None line.Stuck s' taken' f h = elim (h.line f.arrived) [ ]
worker_leaves s (Some given) (line.Boot number heads mark) s' taken' f h = elim (h.line f.arrived) [ ]
worker_leaves s (Some given) (line.BootCut number) s' taken' f h = elim (h.line f.arrived) [ ]
worker_leaves s (Some given) (line.Sent number said reply) s' taken' f h = elim (h.line f.arrived) [ ]
worker_leaves s (Some given) (line.Heard number reply said) s' taken' f h = elim (h.line f.arrived) [ ]
worker_leaves s (Some given) (line.Took who about) s' taken' f h = elim (h.line f.arrived) [ ]
worker_leaves s (Some given) (line.Got about reply) s' taken' f h = elim (h.line f.arrived) [ ]
worker_leaves s (Some given) (line.Nav event entry) s' taken' f h = elim (h.line f.arrived) [ ]
worker_leaves s (Some given) (line.Dropped kind seq) s' taken' f h = elim (h.line f.arrived) [ ]
worker_leaves s (Some given) (line.Arrived who place) s' taken' f h = elim (h.line f.arrived) [ ]
worker_leaves s (Some given) (line.Met who place) s' taken' f h = elim (h.line f.arrived) [ ]
worker_leaves s (Some given) (line.Waited who) s' taken' f h = elim (h.line f.arrived) [ ]
worker_leaves s (Some given) (line.WatchDid number event note asks) s' taken' f h = elim (h.line f.arrived) [ ]
worker_leaves s (Some given) (line.WatchGot number about reply note asks) s' taken' f h = elim (h.line f.arrived) [ ]
worker_leaves s (Some given) line.End s' taken' f h = elim (h.line f.arrived) [ ]
worker_leaves s (Some given) line.Stuck s' taken' f h = elim (h.line f.arrived) [ ]

-- A link.

-- what a line of a link leaves
pub record LinkLeft (s : Shared) (l : LinkState) (s' : Shared) (l' : LinkState) : Type 0 where
  pub arrived : List ℕ
  pub arrived' : List ℕ
  pub shared : SharedFits s'
  pub leaves : Leaves (λ other. other ≢ client.Link l.number) (shared_told s arrived) (shared_told s' arrived')
  pub stays : WorkerStays s s'
  pub fits : LinkFits s' l'
  pub knows : LinkKnows s' l'

waits_at : (l : LinkState) (s : Shared) (n : ℕ) (asked : Asked) (rest : List Asked) → l.session.link ≡ n → LinkFits s l → open_asks s.board (client.Link n) ≡ asked ∷ rest → (rest ≡ []) × (s.transfer.holder ≡ Some n)
waits_at l s n asked rest same fits is =
    let one = waits_one l.session s.transfer s.board asked rest fits.session (ap (λ (k : ℕ). open_asks s.board (client.Link k)) same ∙ is) in
    (one.0, one.1 ∙ ap (λ (k : ℕ). Some k) same)

pub link_made_leaves : (s : Shared) (l : LinkState) (made : Line) (s' : Shared) (l' : LinkState) → SharedFits s → LinkFits s l → LinkKnows s l → LinkMade s l made s' l' → LinkLeft s l s' l'
link_made_leaves s l made s' l' f fits k h =
    let led = h.led f.arrived k.heard f.counted k.hears in
    let later : List ℕ = arrived_after made f.arrived in
    let grant = subst (λ (n : ℕ). IsHolder l.session.stage n s.transfer.holder) fits.number fits.session.grant in
    let left = link_step_leaves (shared_told s f.arrived) (link_told l k.heard) made (shared_told s' later) (link_told l' led.heard')
    (subst (λ (n : ℕ). HasClient s.board (client.Link n)) fits.number fits.session.client) f.board
    (grant_told l.session.stage k.heard l.number s.transfer.holder grant) k.draft (λ asked rest is. waits_at l s l.number asked rest fits.number fits is) led.step in
    record {
      arrived = f.arrived;
      arrived' = later;
      shared = record { arrived = later; counted = led.counted; board = left.board };
      leaves = link_leaves s l s' l' f.arrived later h.keeps left.clients;
      stays = record { service = h.keeps.service; power = h.keeps.power };
      fits = h.keeps.fits;
      knows = record { heard = led.heard'; hears = led.hears; draft = left.draft };
    }

-- The Navigator.

-- what a line of the Navigator leaves
pub record NavLeft (s : Shared) (s' : Shared) (n' : NavActor) : Type 0 where
  pub arrived : List ℕ
  pub arrived' : List ℕ
  pub shared : SharedFits s'
  pub leaves : Leaves (λ other. other ≢ client.Nav) (shared_told s arrived) (shared_told s' arrived')
  pub stays : WorkerStays s s'
  pub fits : NavFits s' n'
  pub knows : NavKnows s' n'

pub nav_made_leaves : (s : Shared) (n : NavActor) (made : Line) (s' : Shared) (n' : NavActor) → SharedFits s → NavFits s n → NavKnows s n → NavMade s n made s' n' → NavLeft s s' n'
nav_made_leaves s n made s' n' f fits k h =
    let led = h.led f.arrived k.items f.counted k.shown in
    let later : List ℕ = arrived_after made f.arrived in
    let t : SharedTold = shared_told s f.arrived in
    let t' : SharedTold = shared_told s' later in
    let left = nav_step_leaves t (nav_told n k.items) made t' (nav_told n' led.items') f.board k.adopts led.step in
    record {
      arrived = f.arrived;
      arrived' = later;
      shared = record { arrived = later; counted = led.counted; board = left.board };
      leaves = client_leaves client.Nav t t' left.keeps left.transfer;
      stays = record { service = left.keeps.service; power = left.keeps.power };
      fits = record { tick = may_tick n'.navigator led.items' s'.transfer s'.board left.board left.adopts; replies = left.replies fits.replies; inputs = left.inputs fits.inputs };
      knows = record { items = led.items'; shown = led.shown; adopts = left.adopts };
    }

-- Any actor.

-- the clients that a step of this actor is not of
abbrev pub ApartOf : Actor → Client → Type 0
ApartOf actor.Worker other = Unit {0}
ApartOf (actor.Link number) other = other ≢ client.Link number
ApartOf actor.Nav other = other ≢ client.Nav
ApartOf (actor.Watch number) other = other ≢ client.Watch number

-- but for the worker, what is in service and the power stay
abbrev pub StaysBut : Actor → Shared → Shared → Type 0
StaysBut actor.Worker s s' = Unit {0}
StaysBut other s s' = WorkerStays s s'

pub leaves_itself : (Apart : Client → Type 0) (t : SharedTold) → Leaves Apart t t
leaves_itself Apart t = record {
  same = record { links = refl; watchers = refl };
  asks = λ other apart. refl;
  replies = λ other apart has can on. can on;
  heads = λ kind. inl refl;
  sessions = λ other apart fits. fits;
  drafts = λ other heard apart fits draft. draft;
}

stays_itself : (who : Actor) (s : Shared) → StaysBut who s s
stays_itself actor.Worker s = tt
stays_itself (actor.Link n) s = record { service = refl; power = refl }
stays_itself actor.Nav s = record { service = refl; power = refl }
stays_itself (actor.Watch n) s = record { service = refl; power = refl }

link_apart : (who : Actor) (n : ℕ) → actor.Link n ≢ who → ApartOf who (client.Link n)
link_apart actor.Worker n apart = tt
link_apart (actor.Link m) n apart = λ e. apart cc
link_apart actor.Nav n apart = λ e. cc
link_apart (actor.Watch m) n apart = λ e. cc

nav_apart : (who : Actor) → actor.Nav ≢ who → ApartOf who client.Nav
nav_apart actor.Worker apart = tt
nav_apart (actor.Link m) apart = λ e. cc
nav_apart actor.Nav apart = λ e. apart refl
nav_apart (actor.Watch m) apart = λ e. cc

watch_apart : (who : Actor) (n : ℕ) → actor.Watch n ≢ who → ApartOf who (client.Watch n)
watch_apart actor.Worker n apart = tt
watch_apart (actor.Link m) n apart = λ e. cc
watch_apart actor.Nav n apart = λ e. cc
watch_apart (actor.Watch m) n apart = λ e. apart cc

module _ {W : Type 0} where
  -- what a step of an actor leaves
  pub record RoleLeaves (waits : W → Awaited) (s : Shared) (r : Role W) (s' : Shared) (r' : Role W) : Type 0 where
    pub arrived : List ℕ
    pub arrived' : List ℕ
    pub shared : SharedFits s'
    pub leaves : Leaves (ApartOf (role_name r)) (shared_told s arrived) (shared_told s' arrived')
    pub stays : StaysBut (role_name r) s s'
    pub fits : RoleFits waits s' r'
    pub knows : RoleKnows s' r'
    pub name : role_name r' ≡ role_name r

  idle_leaves : (waits : W → Awaited) (s : Shared) (r : Role W) (s' : Shared) (r' : Role W) → SharedFits s → RoleFits waits s r → RoleKnows s r → s' ≡ s → r' ≡ r → RoleLeaves waits s r s' r'
  idle_leaves waits s r s' r' f fits knows shared role =
      let start : RoleLeaves waits s r s r = record {
        arrived = f.arrived;
        arrived' = f.arrived;
        shared = f;
        leaves = leaves_itself (ApartOf (role_name r)) (shared_told s f.arrived);
        stays = stays_itself (role_name r) s;
        fits = fits;
        knows = knows;
        name = refl;
      } in
      subst (λ (x : Shared × Role W). RoleLeaves waits s r x.0 x.1) (λ k. (sym shared k, sym role k)) start

  pub role_leaves : (rules : WatchRules W) (waits : W → Awaited) (s : Shared) (r : Role W) (given : Option Reply) (out : StepOut Line) (s' : Shared) (r' : Role W) → AnswersWell rules waits → SharedFits s → RoleFits waits s r → RoleKnows s r → RoleActs rules s r given out s' r' → RoleLeaves waits s r s' r'
  role_leaves rules waits s (role.Worker taken) given Idle s' (role.Worker taken') well f fits knows h = idle_leaves waits s (role.Worker taken) s' (role.Worker taken') f fits knows h.shared (ap (λ (x : Option (Client × Request)). role.Worker x) h.rest)
  role_leaves rules waits s (role.Worker taken) given (Made made) s' (role.Worker taken') well f fits knows h =
      let left = worker_leaves s given made s' taken' f h in
      record { arrived = left.arrived; arrived' = left.arrived; shared = left.shared; leaves = left.leaves; stays = tt; fits = left.own; knows = tt; name = refl }
  role_leaves rules waits s (role.Link l) given Idle s' (role.Link l') well f fits knows h = idle_leaves waits s (role.Link l) s' (role.Link l') f fits knows h.shared (ap (λ (x : LinkState). role.Link x) h.link)
  role_leaves rules waits s (role.Link l) given (Made made) s' (role.Link l') well f fits knows h =
      let left = link_made_leaves s l made s' l' f fits knows h in
      record { arrived = left.arrived; arrived' = left.arrived'; shared = left.shared; leaves = left.leaves; stays = left.stays; fits = left.fits; knows = left.knows; name = ap (λ (n : ℕ). actor.Link n) h.keeps.number }
  role_leaves rules waits s (role.Nav n) given Idle s' (role.Nav n') well f fits knows h = idle_leaves waits s (role.Nav n) s' (role.Nav n') f fits knows h.shared (ap (λ (x : NavActor). role.Nav x) h.nav)
  role_leaves rules waits s (role.Nav n) given (Made made) s' (role.Nav n') well f fits knows h =
      let left = nav_made_leaves s n made s' n' f fits knows h in
      record { arrived = left.arrived; arrived' = left.arrived'; shared = left.shared; leaves = left.leaves; stays = left.stays; fits = left.fits; knows = left.knows; name = refl }
  role_leaves rules waits s (role.Watch w) given Idle s' (role.Watch w') well f fits knows h = idle_leaves waits s (role.Watch w) s' (role.Watch w') f fits knows h.shared (ap (λ (x : WatchActor W). role.Watch x) h.watch)
  role_leaves rules waits s (role.Watch w) given (Made made) s' (role.Watch w') well f fits knows h =
      let left = watch_step_leaves rules waits s w made s' w' f.arrived well f.board fits h.power (h.led f.arrived) in
      record {
        arrived = f.arrived;
        arrived' = f.arrived;
        shared = record { arrived = f.arrived; counted = counted_same f.arrived s s' h.counts f.counted; board = left.board };
        leaves = client_leaves (client.Watch w.number) (shared_told s f.arrived) (shared_told s' f.arrived) left.keeps left.transfer;
        stays = record { service = left.keeps.service; power = left.keeps.power };
        fits = left.fits;
        knows = tt;
        name = ap (λ (n : ℕ). actor.Watch n) h.number;
      }
  role_leaves rules waits s (role.Worker taken) given out s' (role.Link l') well f fits knows h = elim h [ ]
  role_leaves rules waits s (role.Worker taken) given out s' (role.Nav n') well f fits knows h = elim h [ ]
  role_leaves rules waits s (role.Worker taken) given out s' (role.Watch w') well f fits knows h = elim h [ ]
  role_leaves rules waits s (role.Link l) given out s' (role.Worker taken') well f fits knows h = elim h [ ]
  role_leaves rules waits s (role.Link l) given out s' (role.Nav n') well f fits knows h = elim h [ ]
  role_leaves rules waits s (role.Link l) given out s' (role.Watch w') well f fits knows h = elim h [ ]
  role_leaves rules waits s (role.Nav n) given out s' (role.Worker taken') well f fits knows h = elim h [ ]
  role_leaves rules waits s (role.Nav n) given out s' (role.Link l') well f fits knows h = elim h [ ]
  role_leaves rules waits s (role.Nav n) given out s' (role.Watch w') well f fits knows h = elim h [ ]
  role_leaves rules waits s (role.Watch w) given out s' (role.Worker taken') well f fits knows h = elim h [ ]
  role_leaves rules waits s (role.Watch w) given out s' (role.Link l') well f fits knows h = elim h [ ]
  role_leaves rules waits s (role.Watch w) given out s' (role.Nav n') well f fits knows h = elim h [ ]

  -- Another actor fits still.

  other_worker : (waits : W → Awaited) (s : Shared) (r : Role W) (s' : Shared) (r' : Role W) (taken : Option (Client × Request)) → actor.Worker ≢ role_name r → RoleLeaves waits s r s' r' → WorkerFits s taken → WorkerFits s' taken
  other_worker waits s (role.Worker held) s' r' taken apart left fits = absurd (apart refl)
  other_worker waits s (role.Link l) s' r' taken apart left fits = record { service = left.stays.service ∙ fits.service; power = λ off. fits.power (sym left.stays.power ∙ off) }
  other_worker waits s (role.Nav n) s' r' taken apart left fits = record { service = left.stays.service ∙ fits.service; power = λ off. fits.power (sym left.stays.power ∙ off) }
  other_worker waits s (role.Watch w) s' r' taken apart left fits = record { service = left.stays.service ∙ fits.service; power = λ off. fits.power (sym left.stays.power ∙ off) }

  pub other_role : (waits : W → Awaited) (s : Shared) (r : Role W) (s' : Shared) (r' : Role W) (other : Role W) → role_name other ≢ role_name r → RoleLeaves waits s r s' r' → RoleFits waits s other → RoleKnows s other → RoleFits waits s' other × RoleKnows s' other
  other_role waits s r s' r' (role.Worker taken) apart left fits knows = (other_worker waits s r s' r' taken apart left fits, tt)
  other_role waits s r s' r' (role.Link l) apart left fits knows =
      let away = link_apart (role_name r) l.number apart in
      (link_left (ApartOf (role_name r)) s s' left.arrived left.arrived' left.leaves l away fits, draft_left (ApartOf (role_name r)) s s' left.arrived left.arrived' left.leaves l away fits knows)
  other_role waits s r s' r' (role.Nav n) apart left fits knows =
      let away = nav_apart (role_name r) apart in
      let adopts = adopts_left (with_taken n.navigator knows.items) s.board s'.board (left.leaves.asks client.Nav away) (left.leaves.heads Mission) knows.adopts in (
        record { tick = may_tick n.navigator knows.items s'.transfer s'.board left.shared.board adopts; replies = left.leaves.replies client.Nav away tt fits.replies; inputs = fits.inputs },
        record { items = knows.items; shown = knows.shown; adopts = adopts },
      )
  other_role waits s r s' r' (role.Watch w) apart left fits knows =
      (watch_left waits (ApartOf (role_name r)) s s' left.arrived left.arrived' w left.leaves left.shared.board.heads (watch_apart (role_name r) w.number apart) fits, tt)

  -- The four laws.

  pub same_number : (rules : WatchRules W) (s : Shared) (l : Local W) (given : Option Reply) (out : StepOut Line) (s' : Shared) (l' : Local W) → Steps rules s l given out s' l' → number_of l' ≡ number_of l
  same_number rules s l given out s' l' steps = steps.number

  -- what the step leaves, of a local that the shared part fits
  pub local_leaves : (rules : WatchRules W) (waits : W → Awaited) (s : Shared) (l : Local W) (given : Option Reply) (out : StepOut Line) (s' : Shared) (l' : Local W) → AnswersWell rules waits → LocalFits waits s l → Steps rules s l given out s' l' → RoleLeaves waits s l.role s' l'.role
  local_leaves rules waits s l given out s' l' well fits steps = role_leaves rules waits s l.role given out s' l'.role well fits.shared fits.role fits.knows steps.acts

  -- the board has as many links and watchers as before
  pub lengths_stay : (rules : WatchRules W) (waits : W → Awaited) → AnswersWell rules waits → (s : Shared) (l : Local W) (given : Option Reply) (out : StepOut Line) (s' : Shared) (l' : Local W) → LocalFits waits s l → Steps rules s l given out s' l' → SameClients s.board s'.board
  lengths_stay rules waits well s l given out s' l' fits steps = (local_leaves rules waits s l given out s' l' well fits steps).leaves.same

  pub still_fits : (rules : WatchRules W) (waits : W → Awaited) → AnswersWell rules waits → (s : Shared) (l : Local W) (given : Option Reply) (out : StepOut Line) (s' : Shared) (l' : Local W) → LocalFits waits s l → LocalSuits l given → Steps rules s l given out s' l' → LocalFits waits s' l'
  still_fits rules waits well s l given out s' l' fits suits steps =
      let left = local_leaves rules waits s l given out s' l' well fits steps in
      record {
        shared = left.shared;
        number = steps.number ∙ fits.number ∙ ap (λ (n : ℕ). number_among n (role_name l.role)) (sym left.leaves.same.links) ∙ ap (number_among (length s'.board.link_posted)) (sym left.name);
        role = left.fits;
        knows = left.knows;
      }

  pub others_fit : (rules : WatchRules W) (waits : W → Awaited) → AnswersWell rules waits → (s : Shared) (l : Local W) (given : Option Reply) (out : StepOut Line) (s' : Shared) (l' : Local W) (other : Local W) → number_of other ≢ number_of l → LocalFits waits s l → LocalSuits l given → Steps rules s l given out s' l' → LocalFits waits s other → LocalFits waits s' other
  others_fit rules waits well s l given out s' l' other apart fits suits steps theirs =
      let left = local_leaves rules waits s l given out s' l' well fits steps in
      let named : role_name other.role ≢ role_name l.role = λ same. apart (theirs.number ∙ ap (number_among (length s.board.link_posted)) same ∙ sym fits.number) in
      let still = other_role waits s l.role s' l'.role other.role named left theirs.role theirs.knows in
      record {
        shared = left.shared;
        number = theirs.number ∙ ap (λ (n : ℕ). number_among n (role_name other.role)) (sym left.leaves.same.links);
        role = still.0;
        knows = still.1;
      }

  role_idles : (rules : WatchRules W) (s : Shared) (r : Role W) (given : Option Reply) (s' : Shared) (r' : Role W) → RoleActs rules s r given Idle s' r' → (s' ≡ s) × (r' ≡ r)
  role_idles rules s (role.Worker taken) given s' (role.Worker taken') h = (h.shared, ap (λ (x : Option (Client × Request)). role.Worker x) h.rest)
  role_idles rules s (role.Link l) given s' (role.Link l') h = (h.shared, ap (λ (x : LinkState). role.Link x) h.link)
  role_idles rules s (role.Nav n) given s' (role.Nav n') h = (h.shared, ap (λ (x : NavActor). role.Nav x) h.nav)
  role_idles rules s (role.Watch w) given s' (role.Watch w') h = (h.shared, ap (λ (x : WatchActor W). role.Watch x) h.watch)
  role_idles rules s (role.Worker taken) given s' (role.Link l') h = elim h [ ]
  role_idles rules s (role.Worker taken) given s' (role.Nav n') h = elim h [ ]
  role_idles rules s (role.Worker taken) given s' (role.Watch w') h = elim h [ ]
  role_idles rules s (role.Link l) given s' (role.Worker taken') h = elim h [ ]
  role_idles rules s (role.Link l) given s' (role.Nav n') h = elim h [ ]
  role_idles rules s (role.Link l) given s' (role.Watch w') h = elim h [ ]
  role_idles rules s (role.Nav n) given s' (role.Worker taken') h = elim h [ ]
  role_idles rules s (role.Nav n) given s' (role.Link l') h = elim h [ ]
  role_idles rules s (role.Nav n) given s' (role.Watch w') h = elim h [ ]
  role_idles rules s (role.Watch w) given s' (role.Worker taken') h = elim h [ ]
  role_idles rules s (role.Watch w) given s' (role.Link l') h = elim h [ ]
  role_idles rules s (role.Watch w) given s' (role.Nav n') h = elim h [ ]

  pub idle_changes_nothing : (rules : WatchRules W) (s : Shared) (l : Local W) (given : Option Reply) (s' : Shared) (l' : Local W) → Steps rules s l given Idle s' l' → (s' ≡ s) × (l' ≡ l)
  idle_changes_nothing rules s l given s' l' steps = let e = role_idles rules s l.role given s' l'.role steps.acts in (e.0, λ k. record { number = steps.number k; role = e.1 k })
