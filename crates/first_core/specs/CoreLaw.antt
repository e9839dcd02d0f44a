-- What a step of the core does, by the law of its actor; all else stays. When an actor is ready.
use Rattle.std.specs.Prelude.{◌≡◌, ◌⊎◌, ℕ, ◌<◌, length, Option, Some, None, IsSome, slice_get, slice_set}
use Rattle.first_model.specs.declared.request.Client.TheVariants as client
use Rattle.first_model.specs.declared.request.Reply.{Reply}
use Rattle.first_model.specs.declared.flight_line.Actor.{Actor}
use Rattle.first_model.specs.declared.flight_line.Actor.TheVariants as actor
use Rattle.first_model.specs.declared.flight_line.Line.{Line}
use Rattle.first_board.specs.BoardState.{posted, outstanding}
use Rattle.first_core.specs.declared.StepOut.{StepOut}
use Rattle.first_core.specs.declared.StepOut.TheVariants.{Idle}
use Rattle.first_core.specs.SharedState.{SharedState}
use Rattle.first_core.specs.LinkState.{LinkState}
use Rattle.first_core.specs.NavState.{NavState}
use Rattle.first_core.specs.Ready.{InputReady}
use Rattle.first_core.specs.WorkerLaw.{WorkerStep, InputSuits, request_of}
use Rattle.first_core.specs.LinkLaw.{LinkStep}
use Rattle.first_core.specs.NavLaw.{NavStep}
use Rattle.first_core.specs.CoreState.{CoreState}

-- a reply is given to a worker that has taken a request, and to nobody else
abbrev pub CoreSuits : CoreState → Actor → Option Reply → Type 0
CoreSuits c actor.Worker reply = InputSuits (request_of c.taken) reply
CoreSuits c other reply = reply ≡ None

-- nothing is done, and nothing changes
abbrev pub Stands : CoreState → StepOut Line → CoreState → Type 0
Stands c out c' = (out ≡ Idle) × (c' ≡ c)

-- a link's step, at its place
pub record LinkMoves (c : CoreState) (number : ℕ) (old : LinkState) (out : StepOut Line) (c' : CoreState) : Type 0 where
  pub new : LinkState
  pub step : LinkStep c.shared old out c'.shared new
  pub links : c'.links ≡ slice_set c.links number new
  pub taken : c'.taken ≡ c.taken
  pub nav : c'.nav ≡ c.nav

-- the step of the link at a place, if one is there
abbrev pub LinkMovesIf : Option LinkState → CoreState → ℕ → StepOut Line → CoreState → Type 0
LinkMovesIf None c number out c' = Stands c out c'
LinkMovesIf (Some old) c number out c' = LinkMoves c number old out c'

abbrev pub CoreStep : CoreState → Actor → Option Reply → StepOut Line → CoreState → Type 0
CoreStep c actor.Worker reply out c' = WorkerStep c.shared c.taken reply out c'.shared c'.taken × (c'.links ≡ c.links) × (c'.nav ≡ c.nav)
CoreStep c actor.Nav reply out c' = NavStep c.shared c.nav out c'.shared c'.nav × (c'.taken ≡ c.taken) × (c'.links ≡ c.links)
CoreStep c (actor.Link number) reply out c' = LinkMovesIf (slice_get c.links number) c number out c'
CoreStep c (actor.Watch number) reply out c' = Stands c out c'

-- a request waits, or there is a reply to post
abbrev pub WorkerReady : SharedState → Option Reply → Type 0
WorkerReady s reply = (0 < length s.board.waiting) ⊎ IsSome reply

-- a reply waits for the link, or nothing of its own is outstanding and its schedule gives it a step
abbrev pub LinkReady : SharedState → Option LinkState → Type 0
LinkReady s None = ⊥
LinkReady s (Some link) = (0 < length (posted s.board (client.Link link.number))) ⊎ ((outstanding s.board (client.Link link.number) ≡ 0) × InputReady s (client.Link link.number) link.schedule.inputs link.schedule.begun)

-- a reply waits for the Navigator, or its schedule gives it a step
abbrev pub NavReady : SharedState → NavState → Type 0
NavReady s nav = (0 < length (posted s.board client.Nav)) ⊎ InputReady s client.Nav nav.schedule.inputs nav.schedule.begun

-- the actor may take a step now; one that the core does not have may not
abbrev pub IsReady : CoreState → Actor → Option Reply → Type 0
IsReady c actor.Worker reply = WorkerReady c.shared reply
IsReady c actor.Nav reply = NavReady c.shared c.nav
IsReady c (actor.Link number) reply = LinkReady c.shared (slice_get c.links number)
IsReady c (actor.Watch number) reply = ⊥
