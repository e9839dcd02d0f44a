-- What the worker does, from the board and the request that it has taken alone.
use Rattle.std.specs.Prelude.{◌≡◌, [], ◌∷◌, Option, Some, None}
use Rattle.first_model.specs.declared.request.Client.{Client}
use Rattle.first_model.specs.declared.request.Request.{Request}
use Rattle.first_model.specs.declared.request.Request.TheVariants as request
use Rattle.first_model.specs.declared.request.Asked.{Asked}
use Rattle.first_model.specs.declared.request.Reply.{Reply}
use Rattle.first_model.specs.declared.request.Reply.TheVariants as reply
use Rattle.first_model.specs.declared.flight_line.Line.{Line}
use Rattle.first_model.specs.declared.flight_line.Line.TheVariants.{Took, Served}
use Rattle.first_board.specs.BoardCalls.{taken, answered, asked_of}
use Rattle.first_core.specs.declared.StepOut.{StepOut}
use Rattle.first_core.specs.declared.StepOut.TheVariants.{Made, Idle}
use Rattle.first_core.specs.SharedState.{SharedState, with_board}

-- a reply of a form that the worker may give to the request
abbrev pub ReplySuits : Request → Reply → Type 0
ReplySuits (request.Read kind id seq) (reply.Item item) = Unit {0}
ReplySuits (request.Read kind id seq) (reply.Stale now) = Unit {0}
ReplySuits (request.Write kind id seq item) reply.Done = Unit {0}
ReplySuits (request.Commit kind id count) reply.Done = Unit {0}
ReplySuits (request.Commit kind id count) (reply.Spent last) = Unit {0}
ReplySuits (request.SetMark mark) reply.Done = Unit {0}
ReplySuits (request.SetMark mark) (reply.Stale now) = Unit {0}
ReplySuits (request.SetMark mark) (reply.Spent last) = Unit {0}
ReplySuits asked given = ⊥

-- the request that is taken, without its client
abbrev pub request_of : Option (Client × Request) → Option Request
request_of None = None
request_of (Some (client, request)) = Some request

-- a reply is given exactly where a request is taken, and it suits
abbrev pub InputSuits : Option Request → Option Reply → Type 0
InputSuits None None = Unit {0}
InputSuits (Some request) (Some reply) = ReplySuits request reply
InputSuits taken reply = ⊥

-- the first request that waits is taken
pub record Takes (s : SharedState) (w : Option (Client × Request)) (client : Client) (asked : Asked) (s' : SharedState) (w' : Option (Client × Request)) : Type 0 where
  pub request : Request
  pub free : w ≡ None
  pub first : s.board.waiting ≡ (client, request) ∷ s'.board.waiting
  pub line : asked ≡ asked_of request
  pub shared : s' ≡ with_board s (taken s.board (client, request) s'.board.waiting)
  pub worker : w' ≡ Some (client, request)

-- the reply to the request that is taken is posted
pub record Serves (s : SharedState) (w : Option (Client × Request)) (reply : Reply) (client : Client) (given : Reply) (s' : SharedState) (w' : Option (Client × Request)) : Type 0 where
  pub request : Request
  pub had : w ≡ Some (client, request)
  pub line : given ≡ reply
  pub shared : s' ≡ with_board s (answered s.board client (asked_of request) reply)
  pub worker : w' ≡ None

-- nothing waits, and nothing is taken
pub record Rests (s : SharedState) (w : Option (Client × Request)) (s' : SharedState) (w' : Option (Client × Request)) : Type 0 where
  pub free : w ≡ None
  pub none : s.board.waiting ≡ []
  pub shared : s' ≡ s
  pub worker : w' ≡ w

abbrev pub WorkerStep : SharedState → Option (Client × Request) → Option Reply → StepOut Line → SharedState → Option (Client × Request) → Type 0
WorkerStep s w None (Made (Took client asked)) s' w' = Takes s w client asked s' w'
WorkerStep s w (Some reply) (Made (Served client given)) s' w' = Serves s w reply client given s' w'
WorkerStep s w None Idle s' w' = Rests s w s' w'
WorkerStep s w input out s' w' = ⊥
