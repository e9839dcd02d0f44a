-- What holds between two steps of the shared part and one local: so each step may rest on it, and a step of another actor leaves it.
use Rattle.std.specs.Prelude.{◌≡◌, ℕ, ◌+◌, ◌≤◌, true, List, length, Option}
use Rattle.mission_model.specs.declared.flight_line.Actor.{Actor}
use Rattle.mission_model.specs.declared.flight_line.Actor.TheVariants as actor
use Rattle.mission_model.specs.declared.plan.Item.{Item}
use Rattle.mission_model.specs.declared.plan.PlanType.TheVariants.{Mission}
use Rattle.mission_model.specs.declared.request.Reply.{Reply}
use Rattle.mission_model.specs.PlanTypes.{head_of}
use Rattle.request_board.specs.BoardState.{BoardState}
use Rattle.request_board.specs.Watching.{Awaited}
use Rattle.client_cache.specs.CacheState.{has_id, id_of, count_of}
use Rattle.upload_session.specs.SessionState.{Heard, link_of}
use Rattle.navigator.specs.NavState.{NavTaken, with_taken, HasShown}
use Rattle.navigator.specs.Asking.{HasAsked}
use Rattle.vehicle_core.specs.declared.shared.Shared.{Shared}
use Rattle.vehicle_core.specs.declared.link.Link.{Link as LinkState}
use Rattle.vehicle_core.specs.declared.nav.NavActor.{NavActor}
use Rattle.vehicle_core.specs.declared.local.Local.{Local}
use Rattle.vehicle_core.specs.declared.local.Role.{Role}
use Rattle.vehicle_core.specs.declared.local.Role.TheVariants as role
use Rattle.vehicle_core.specs.SharedState.{Counted}
use Rattle.vehicle_core.specs.Steps.{RoleFits, RoleSuits}
use Rattle.vehicle_core.specs.UploadFits.{BoardFits, DraftFits}

-- the shared part: some arrivals were counted, and the board and the transfer fit one another
pub record SharedFits (s : Shared) : Type 0 where
  pub arrived : List ℕ
  pub counted : Counted arrived s
  pub board : BoardFits s.transfer s.board

-- of the plan that a link brings some items were heard, and it has a new id
pub record LinkKnows (s : Shared) (l : LinkState) : Type 0 where
  pub heard : List Item
  pub hears : Heard l.session.stage heard
  pub draft : DraftFits s.transfer s.board.published (link_of l.session.stage heard)

-- the adopted mission is no later one than the published, and the same where its id is the same; the requests that the
-- Navigator has outstanding are those that it asked
pub record NavAdopts (v : NavTaken) (b : BoardState) : Type 0 where
  pub earlier : id_of v.mission.cache.head ≤ (head_of b.published Mission).id
  pub same : has_id v.mission.cache.head (head_of b.published Mission).id ≡ true → (head_of b.published Mission).count ≡ count_of v.mission.cache.head
  pub asked : HasAsked v b

-- of the mission some items were taken
pub record NavKnows (s : Shared) (n : NavActor) : Type 0 where
  pub items : List Item
  pub shown : HasShown n.navigator items
  pub adopts : NavAdopts (with_taken n.navigator items) s.board

-- an actor's number among all, where there are so many links: the worker is the first, then come links, Navigator and watchers
abbrev pub number_among : ℕ → Actor → ℕ
number_among links actor.Worker = 0
number_among links (actor.Link number) = 1 + number
number_among links actor.Nav = 1 + links
number_among links (actor.Watch number) = 2 + links + number

module _ {W : Type 0} where
  abbrev pub role_name : Role W → Actor
  role_name (role.Worker taken) = actor.Worker
  role_name (role.Link l) = actor.Link l.number
  role_name (role.Nav n) = actor.Nav
  role_name (role.Watch w) = actor.Watch w.number

  abbrev pub RoleKnows : Shared → Role W → Type 0
  RoleKnows s (role.Link l) = LinkKnows s l
  RoleKnows s (role.Nav n) = NavKnows s n
  RoleKnows s other = Unit {0}

  -- The shared part fits a local: it fits itself, the local has its actor's number, and it is what that actor's step rests on.
  pub record LocalFits (waits : W → Awaited) (s : Shared) (l : Local W) : Type 0 where
    pub shared : SharedFits s
    pub number : l.number ≡ number_among (length s.board.link_posted) (role_name l.role)
    pub role : RoleFits waits s l.role
    pub knows : RoleKnows s l.role

  -- an input suits a local: a reply exactly where it is the worker's and a request is taken, in a form that such a request can have
  abbrev pub LocalSuits : Local W → Option Reply → Type 0
  LocalSuits l given = RoleSuits l.role given
