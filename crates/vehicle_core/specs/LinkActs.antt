-- What the code of a link does, told by what the lines tell, and what it keeps of the session.
use Rattle.std.specs.Prelude.{◌≡◌, ◌≢◌, ℕ, true, List, Some}
use Rattle.std.specs.List.{All}
use Rattle.mission_model.specs.declared.plan.Item.{Item}
use Rattle.mission_model.specs.declared.request.Asked.{Asked}
use Rattle.mission_model.specs.declared.request.Client.TheVariants.{Link}
use Rattle.mission_model.specs.declared.request.Reply.{Reply}
use Rattle.mission_model.specs.declared.message.Answer.{Answer}
use Rattle.mission_model.specs.declared.flight_line.Line.{Line}
use Rattle.mission_model.specs.BootScripts.{LinkInput}
use Rattle.mission_model.specs.Replies.{CanHear}
use Rattle.request_board.specs.BoardState.{posted, ClientsStay, OthersStay}
use Rattle.upload_session.specs.SessionLaw.{Outcome}
use Rattle.upload_session.specs.SessionState.{SessionState, SessionFits, Heard, link_of, heard_of, Keeps}
use Rattle.turn_cell.specs.declared.machine.StepOut.{StepOut}
use Rattle.turn_cell.specs.declared.machine.StepOut.TheVariants.{Made, Idle}
use Rattle.vehicle_core.specs.declared.shared.Shared.{Shared}
use Rattle.vehicle_core.specs.declared.link.Link.{Link as LinkState}
use Rattle.vehicle_core.specs.SharedState.{shared_told, arrived_after, Counted}
use Rattle.vehicle_core.specs.ScheduleState.{ScheduleState}
use Rattle.vehicle_core.specs.Told.{LinkTold}
use Rattle.vehicle_core.specs.Ready.{Rests}
use Rattle.vehicle_core.specs.ActorStep.{LinkStep, Answers, link_turn}

-- what the lines tell of a link of whose upload these items were heard
abbrev pub link_told : LinkState → List Item → LinkTold
link_told l heard = record { number = l.number; upload = link_of l.session.stage heard; schedule = l.schedule }

-- a client may take each of these replies
abbrev pub CanHearAll : List (Asked × Reply) → Type 0
CanHearAll replies = All (λ (said : Asked × Reply). CanHear said.0 said.1) replies

-- a link fits the shared part: its session is its own and fits the transfer and the board, while the power is on it may take
-- each reply that is posted to it, and its inputs are a link's
pub record LinkFits (s : Shared) (l : LinkState) : Type 0 where
  pub number : l.session.link ≡ l.number
  pub session : SessionFits l.session s.transfer s.board
  pub replies : s.power ≡ true → CanHearAll (posted s.board (Link l.number))
  pub inputs : All LinkInput l.schedule.inputs

-- The session answered with this outcome, and these items are heard then.
pub record LinkAnswers (o : Outcome) (s : Shared) (l : LinkState) (arrived : List ℕ) (heard : List Item) (schedule : ScheduleState) (given : Answer) (s' : Shared) (l' : LinkState) : Type 0 where
  pub hears : Heard l'.session.stage (heard_of o.link)
  pub answers : Answers o (shared_told s arrived) (link_told l heard) schedule given (shared_told s' arrived) (link_told l' (heard_of o.link))

-- What a call of the session leaves beside its answer.
pub record SessionCalled (s : Shared) (l : LinkState) (s' : Shared) (l' : LinkState) : Type 0 where
  pub keeps : Keeps l.session s.transfer s.board l'.session s'.transfer s'.board
  pub number : l'.number ≡ l.number
  pub stays : s' ≡ record s { board = s'.board; transfer = s'.transfer }

-- a line of the link leads on what was told, with some items heard then
pub record LinkLed (s : Shared) (l : LinkState) (arrived : List ℕ) (heard : List Item) (made : Line) (s' : Shared) (l' : LinkState) : Type 0 where
  pub heard' : List Item
  pub hears : Heard l'.session.stage heard'
  pub step : LinkStep (shared_told s arrived) (link_told l heard) made (shared_told s' (arrived_after made arrived)) (link_told l' heard')
  pub counted : Counted (arrived_after made arrived) s'

-- What a step of the link keeps: it fits still, each other session that fitted does, the transfer of another holder stays, and
-- of the board only what is the link's own changes.
pub record LinkKeeps (s : Shared) (l : LinkState) (s' : Shared) (l' : LinkState) : Type 0 where
  pub number : l'.number ≡ l.number
  pub fits : LinkFits s' l'
  pub others : (other : SessionState) → other.link ≢ l.number → SessionFits other s.transfer s.board → SessionFits other s'.transfer s'.board
  pub held : (other : ℕ) → other ≢ l.number → s.transfer.holder ≡ Some other → s'.transfer ≡ s.transfer
  pub clients : ClientsStay s.board s'.board
  pub board : OthersStay (Link l.number) s.board s'.board
  pub published : s'.board.published ≡ s.board.published
  pub service : s'.board.service ≡ s.board.service
  pub power : s'.power ≡ s.power

pub record LinkMade (s : Shared) (l : LinkState) (made : Line) (s' : Shared) (l' : LinkState) : Type 0 where
  pub power : s.power ≡ true
  pub led : (arrived : List ℕ) (heard : List Item) → Counted arrived s → Heard l.session.stage heard → LinkLed s l arrived heard made s' l'
  pub keeps : LinkKeeps s l s' l'

pub record LinkIdle (s : Shared) (l : LinkState) (s' : Shared) (l' : LinkState) : Type 0 where
  pub shared : s' ≡ s
  pub link : l' ≡ l
  pub turn : (arrived : List ℕ) (heard : List Item) → Counted arrived s → s.power ≡ true → link_turn (shared_told s arrived) (link_told l heard) ≡ Rests

abbrev pub LinkActs : Shared → LinkState → StepOut Line → Shared → LinkState → Type 0
LinkActs s l (Made made) s' l' = LinkMade s l made s' l'
LinkActs s l Idle s' l' = LinkIdle s l s' l'
