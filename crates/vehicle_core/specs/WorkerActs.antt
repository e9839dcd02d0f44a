-- What the code of the worker does, told by what the lines tell.
use Rattle.std.specs.Prelude.{◌≡◌, ℕ, true, List, Option, Some, None}
use Rattle.mission_model.specs.declared.request.Client.{Client}
use Rattle.mission_model.specs.declared.request.Request.{Request}
use Rattle.mission_model.specs.declared.request.Reply.{Reply}
use Rattle.mission_model.specs.declared.flight_line.Line.{Line}
use Rattle.mission_model.specs.declared.flight_line.Line.TheVariants as line
use Rattle.mission_model.specs.Replies.{Suits}
use Rattle.mission_model.specs.Shown.{asked_of}
use Rattle.request_board.specs.BoardState.{HasClient}
use Rattle.turn_cell.specs.declared.machine.StepOut.{StepOut}
use Rattle.turn_cell.specs.declared.machine.StepOut.TheVariants.{Made, Idle}
use Rattle.vehicle_core.specs.declared.shared.Shared.{Shared}
use Rattle.vehicle_core.specs.SharedState.{shared_told}
use Rattle.vehicle_core.specs.Ready.{Rests, worker_turn}
use Rattle.vehicle_core.specs.ActorStep.{Takes, Serves}

-- a reply is given exactly to a worker that has taken a request, and in a form that such a request can have
abbrev pub ReplySuits : Option (Client × Request) → Option Reply → Type 0
ReplySuits None None = Unit {0}
ReplySuits (Some (client, request)) (Some given) = Suits (asked_of request) given
ReplySuits taken given = ⊥

-- the worker's line, whatever clients came to the meeting places; the one that is served is a client of the board
abbrev pub WorkerLine : Shared → List ℕ → Option Reply → Line → Shared → Type 0
WorkerLine s arrived None (line.Took client about) s' = Takes (shared_told s arrived) client about (shared_told s' arrived)
WorkerLine s arrived (Some given) (line.Served client reply) s' = (reply ≡ given) × HasClient s.board client × Serves (shared_told s arrived) client reply (shared_told s' arrived)
WorkerLine s arrived given made s' = ⊥

-- a line is made while the power is on, and the board has in service what the worker has taken
pub record WorkerMade (s : Shared) (given : Option Reply) (made : Line) (s' : Shared) (taken' : Option (Client × Request)) : Type 0 where
  pub power : s.power ≡ true
  pub line : (arrived : List ℕ) → WorkerLine s arrived given made s'
  pub service : s'.board.service ≡ taken'
  pub counts : s'.arrivals ≡ s.arrivals

pub record WorkerIdle (s : Shared) (taken : Option (Client × Request)) (s' : Shared) (taken' : Option (Client × Request)) : Type 0 where
  pub shared : s' ≡ s
  pub rest : taken' ≡ taken
  pub turn : s.power ≡ true → worker_turn s.board ≡ Rests

abbrev pub WorkerActs : Shared → Option (Client × Request) → Option Reply → StepOut Line → Shared → Option (Client × Request) → Type 0
WorkerActs s taken given (Made made) s' taken' = WorkerMade s given made s' taken'
WorkerActs s taken given Idle s' taken' = WorkerIdle s taken s' taken'
