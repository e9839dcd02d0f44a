-- One step of a local: which shared part fits it, which input suits it, and what the step does. A line leads on what was told
-- by its law; an idle step changes nothing, and comes only where the actor is not ready.
use Rattle.std.specs.Prelude.{◌≡◌, ℕ, false, Option, None}
use Rattle.mission_model.specs.declared.request.Client.{Client}
use Rattle.mission_model.specs.declared.request.Request.{Request}
use Rattle.mission_model.specs.declared.request.Reply.{Reply}
use Rattle.mission_model.specs.declared.flight_line.Line.{Line}
use Rattle.request_board.specs.Watching.{Awaited}
use Rattle.request_board.specs.WatchLaw.{WatchRules}
use Rattle.turn_cell.specs.declared.machine.StepOut.{StepOut}
use Rattle.vehicle_core.specs.declared.shared.Shared.{Shared}
use Rattle.vehicle_core.specs.declared.local.Local.{Local}
use Rattle.vehicle_core.specs.declared.local.Role.{Role}
use Rattle.vehicle_core.specs.declared.local.Role.TheVariants as role
use Rattle.vehicle_core.specs.WorkerActs.{ReplySuits, WorkerActs}
use Rattle.vehicle_core.specs.LinkActs.{LinkFits, LinkActs}
use Rattle.vehicle_core.specs.NavActs.{NavFits, NavActs}
use Rattle.vehicle_core.specs.WatchActs.{WatchFits, WatchActs}

-- the board has in service what the worker has taken, and after the power went it has nothing
pub record WorkerFits (s : Shared) (taken : Option (Client × Request)) : Type 0 where
  pub service : s.board.service ≡ taken
  pub power : s.power ≡ false → taken ≡ None

module _ {W : Type 0} where
  abbrev pub number_of : Local W → ℕ
  number_of l = l.number

  -- an actor of a kind fits the shared part
  abbrev pub RoleFits : (W → Awaited) → Shared → Role W → Type 0
  RoleFits waits s (role.Worker taken) = WorkerFits s taken
  RoleFits waits s (role.Link l) = LinkFits s l
  RoleFits waits s (role.Nav n) = NavFits s n
  RoleFits waits s (role.Watch w) = WatchFits waits s w

  -- a reply is given exactly to a worker that has taken a request, in a form that such a request can have
  abbrev pub RoleSuits : Role W → Option Reply → Type 0
  RoleSuits (role.Worker taken) given = ReplySuits taken given
  RoleSuits other given = given ≡ None

  -- what an actor does is by its law, and it stays of its kind
  abbrev pub RoleActs : WatchRules W → Shared → Role W → Option Reply → StepOut Line → Shared → Role W → Type 0
  RoleActs rules s (role.Worker taken) given out s' (role.Worker taken') = WorkerActs s taken given out s' taken'
  RoleActs rules s (role.Link l) given out s' (role.Link l') = LinkActs s l out s' l'
  RoleActs rules s (role.Nav n) given out s' (role.Nav n') = NavActs s n out s' n'
  RoleActs rules s (role.Watch w) given out s' (role.Watch w') = WatchActs rules s w out s' w'
  RoleActs rules s old given out s' new = ⊥

  pub record Steps (rules : WatchRules W) (s : Shared) (l : Local W) (given : Option Reply) (out : StepOut Line) (s' : Shared) (l' : Local W) : Type 0 where
    pub number : l'.number ≡ l.number
    pub acts : RoleActs rules s l.role given out s' l'.role
