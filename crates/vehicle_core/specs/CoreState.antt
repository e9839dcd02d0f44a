-- The core of one boot, what the lines tell of it, and what a step of it does.
use Rattle.std.specs.Prelude.{◌≡◌, ℕ, ◌+◌, ◌≤◌, ◌&&◌, Bool, true, false, List, [], ◌∷◌, length, Option, Some, None}
use Rattle.mission_model.specs.declared.limits.TheConstants.{MAX_LINKS, MAX_WATCHERS}
use Rattle.mission_model.specs.declared.flight_line.Actor.{Actor}
use Rattle.mission_model.specs.declared.flight_line.Actor.TheVariants as actor
use Rattle.mission_model.specs.declared.flight_line.Line.{Line}
use Rattle.mission_model.specs.declared.plan.Item.{Item}
use Rattle.mission_model.specs.declared.request.Reply.{Reply}
use Rattle.mission_model.specs.declared.request.Request.{Request}
use Rattle.mission_model.specs.Replies.{Suits}
use Rattle.mission_model.specs.Shown.{asked_of}
use Rattle.request_board.specs.Watching.{Awaited}
use Rattle.request_board.specs.WatchLaw.{WatchRules}
use Rattle.upload_session.specs.SessionState.{Heard}
use Rattle.navigator.specs.NavState.{HasShown}
use Rattle.turn_cell.specs.Legal.{EachFits}
use Rattle.turn_cell.specs.declared.machine.StepOut.{StepOut}
use Rattle.turn_cell.specs.declared.machine.StepOut.TheVariants.{Made, Idle}
use Rattle.vehicle_core.specs.declared.shared.Shared.{Shared}
use Rattle.vehicle_core.specs.declared.local.Local.{Local}
use Rattle.vehicle_core.specs.declared.local.Role.{Role}
use Rattle.vehicle_core.specs.declared.local.Role.TheVariants as role
use Rattle.vehicle_core.specs.SharedState.{shared_told, Counted}
use Rattle.vehicle_core.specs.Told.{ActorTold, BootTold}
use Rattle.vehicle_core.specs.LocalState.{local_told, taken_of, finished_of}
use Rattle.vehicle_core.specs.Ready.{has_ready}
use Rattle.vehicle_core.specs.Order.{LineBy}
use Rattle.vehicle_core.specs.Steps.{number_of}
use Rattle.vehicle_core.specs.Fits.{LocalFits}

module _ {W : Type 0} where
  -- some items of its plan were heard by a link, or taken by the Navigator
  abbrev pub RoleHolds : Role W → List Item → Type 0
  RoleHolds (role.Link l) items = Heard l.session.stage items
  RoleHolds (role.Nav n) items = HasShown n.navigator items
  RoleHolds other items = Unit {0}

  -- the lines tell this of a local
  pub record IsTold (l : Local W) (a : ActorTold W) : Type 0 where
    pub items : List Item
    pub holds : RoleHolds l.role items
    pub told : a ≡ local_told l items

  -- the lines tell these of the locals, in their order
  abbrev pub AreTold : List (Local W) → List (ActorTold W) → Type 0
  AreTold [] [] = Unit {0}
  AreTold (l ∷ ls) (a ∷ actors) = IsTold l a × AreTold ls actors
  AreTold ls actors = ⊥

  -- the lines tell this of a shared part and the locals of all actors
  pub record Tells (s : Shared) (ls : List (Local W)) (t : BootTold W) : Type 0 where
    pub shared : t.shared ≡ shared_told s t.shared.arrived
    pub counted : Counted t.shared.arrived s
    pub actors : AreTold ls t.actors

  -- the request that the worker has taken and not answered
  abbrev pub taken_among : List (Local W) → Option Request
  taken_among [] = None
  taken_among (l ∷ ls) = taken_of l

  -- each schedule is finished
  abbrev pub finished_among : List (Local W) → Bool
  finished_among [] = true
  finished_among (l ∷ ls) = finished_of l && finished_among ls

-- the shared part, the locals of all actors in the order of their numbers, and how many links there are
pub record CoreState (W : Type 0) : Type 0 where
  pub shared : Shared
  pub locals : List (Local W)
  pub links : ℕ

-- an input is a reply exactly where a request is taken, in a form that such a request can have, and is given to the worker
abbrev pub ReplyTo : Option Request → Option Reply → Type 0
ReplyTo None None = Unit {0}
ReplyTo (Some request) (Some given) = Suits (asked_of request) given
ReplyTo taken given = ⊥

-- the input suits the actor, beside this request that the worker has taken
abbrev pub InputSuits : Option Request → Actor → Option Reply → Type 0
InputSuits taken actor.Worker given = ReplyTo taken given
InputSuits taken other given = given ≡ None

module _ {W : Type 0} where
  abbrev pub core_taken : CoreState W → Option Request
  core_taken c = taken_among c.locals

  -- The core is sound: each local has its place as its number and fits the shared part, and there is a local for each actor of a
  -- boot in limits.
  pub record CoreFits (waits : W → Awaited) (c : CoreState W) : Type 0 where
    pub each : EachFits number_of (LocalFits waits) c.shared c.locals
    pub named : c.links ≡ length c.shared.board.link_posted
    pub count : length c.locals ≡ 2 + length c.shared.board.link_posted + length c.shared.board.watch_posted
    pub links : length c.shared.board.link_posted ≤ MAX_LINKS
    pub watchers : length c.shared.board.watch_posted ≤ MAX_WATCHERS

  -- What a turn of this actor makes, whatever was told before it: a line that the actor, which was ready, leads on by its law; or
  -- nothing, and then it was not ready and nothing changes.
  abbrev pub CoreSteps : WatchRules W → CoreState W → Actor → StepOut Line → CoreState W → Type 0
  CoreSteps rules c who (Made made) c' = (t : BootTold W) → Tells c.shared c.locals t → (t' : BootTold W) × LineBy rules t who made t' × Tells c'.shared c'.locals t'
  CoreSteps rules c who Idle c' = (c' ≡ c) × ((t : BootTold W) → Tells c.shared c.locals t → has_ready t.shared who t.actors ≡ false)
