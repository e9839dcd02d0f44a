-- What an uploading link does, from the shared part and its own state alone.
use Rattle.std.specs.Prelude.{◌≡◌, ℕ, ◌+◌, ◌<◌, ◌≤◌, ◌⊎◌, true, false, List, [], ◌∷◌, length, Some, slice_get, slice_set}
use Rattle.first_model.specs.declared.plan.Item.{Item}
use Rattle.first_model.specs.declared.plan.PlanType.TheVariants.{Mission}
use Rattle.first_model.specs.declared.request.Client.{Client}
use Rattle.first_model.specs.declared.request.Client.TheVariants.{Link}
use Rattle.first_model.specs.declared.request.Request.TheVariants as request
use Rattle.first_model.specs.declared.request.Asked.{Asked}
use Rattle.first_model.specs.declared.request.Reply.{Reply}
use Rattle.first_model.specs.declared.request.Reply.TheVariants as reply
use Rattle.first_model.specs.declared.message.AckCode.TheVariants.{Accepted, Error, NoSpace}
use Rattle.first_model.specs.declared.message.Said.TheVariants as said
use Rattle.first_model.specs.declared.message.Answer.{Answer}
use Rattle.first_model.specs.declared.message.Answer.TheVariants as answer
use Rattle.first_model.specs.declared.schedule.InputLine.{InputLine}
use Rattle.first_model.specs.declared.schedule.InputLine.TheVariants as input
use Rattle.first_model.specs.declared.flight_line.Line.{Line}
use Rattle.first_model.specs.declared.flight_line.Line.TheVariants.{Sent, Heard, Arrived, Met, Waited}
use Rattle.first_board.specs.BoardState.{posted, outstanding}
use Rattle.first_board.specs.BoardCalls.{asked, heard}
use Rattle.first_core.specs.declared.StepOut.{StepOut}
use Rattle.first_core.specs.declared.StepOut.TheVariants.{Made, Idle}
use Rattle.first_core.specs.declared.link.Session.{Session}
use Rattle.first_core.specs.declared.link.Session.TheVariants as session
use Rattle.first_core.specs.ScheduleState.{begun_on, advanced}
use Rattle.first_core.specs.SharedState.{SharedState, with_board, arrived_at, arrivals_at, last_id}
use Rattle.first_core.specs.Ready.{InputWaits}
use Rattle.first_core.specs.LinkState.{LinkState, link_done}

-- nothing is posted to the link, and nothing of its own is outstanding
pub record IsFree (s : SharedState) (l : LinkState) : Type 0 where
  pub posted : posted s.board (Link l.number) ≡ []
  pub outstanding : outstanding s.board (Link l.number) ≡ 0

-- an upload begins: its Count has an id that is one above all used ones, and its first item is requested
pub record Begins (s : SharedState) (l : LinkState) (kind count : ℕ) (given : Answer) (s' : SharedState) (l' : LinkState) : Type 0 where
  pub free : IsFree s l
  pub fresh : l.schedule.begun ≡ false
  pub items : List Item
  pub rest : List InputLine
  pub input : l.schedule.inputs ≡ input.Upload Mission items ∷ rest
  pub kind_is : kind ≡ 0
  pub count_is : count ≡ length items
  pub left : last_id s < 4294967295
  pub answer : given ≡ answer.RequestInt 0
  pub shared : s' ≡ record s { ids = slice_set s.ids 0 (last_id s + 1) }
  pub link : l' ≡ record { number = l.number; schedule = begun_on l.schedule; session = session.Receiving (last_id s + 1) count 0 }

-- an upload finds no id left, and is over
pub record FindsNoId (s : SharedState) (l : LinkState) (kind count : ℕ) (given : Answer) (s' : SharedState) (l' : LinkState) : Type 0 where
  pub free : IsFree s l
  pub fresh : l.schedule.begun ≡ false
  pub items : List Item
  pub rest : List InputLine
  pub input : l.schedule.inputs ≡ input.Upload Mission items ∷ rest
  pub kind_is : kind ≡ 0
  pub count_is : count ≡ length items
  pub none : last_id s ≡ 4294967295
  pub answer : given ≡ answer.Ack NoSpace
  pub shared : s' ≡ s
  pub link : l' ≡ link_done l

-- the requested item comes, and the worker is asked to write it
pub record Writes (s : SharedState) (l : LinkState) (seq : ℕ) (given : Answer) (s' : SharedState) (l' : LinkState) : Type 0 where
  pub free : IsFree s l
  pub items : List Item
  pub rest : List InputLine
  pub input : l.schedule.inputs ≡ input.Upload Mission items ∷ rest
  pub id : ℕ
  pub count : ℕ
  pub item : Item
  pub session_was : l.session ≡ session.Receiving id count seq
  pub item_is : slice_get items seq ≡ Some item
  pub answer : given ≡ answer.Writes Mission id seq item
  pub shared : s' ≡ with_board s (asked s.board (Link l.number) (request.Write Mission id seq item))
  pub link : l' ≡ record l { session = session.Writing id count seq }

-- the board after the link took its first reply
abbrev pub after_hearing : SharedState → LinkState → List (Asked × Reply) → SharedState
after_hearing s l rest = with_board s (heard s.board (Link l.number) rest)

-- an item was written: the next one is requested, or after the last one the worker is asked to commit the plan;
-- the commit is done: the upload is accepted and over
abbrev pub AnswersDone : SharedState → LinkState → Session → Answer → SharedState → LinkState → Type 0
AnswersDone s l (session.Writing id count seq) given s' l' =
    ((seq + 1 < count) × (given ≡ answer.RequestInt (seq + 1)) × (s' ≡ s) × (l' ≡ record l { session = session.Receiving id count (seq + 1) }))
    ⊎ ((seq + 1 ≡ count) × (given ≡ answer.Commits Mission id count) × (s' ≡ with_board s (asked s.board (Link l.number) (request.Commit Mission id count))) × (l' ≡ record l { session = session.Committing id count }))
AnswersDone s l (session.Committing id count) given s' l' = (given ≡ answer.Ack Accepted) × (s' ≡ s) × (l' ≡ link_done l)
AnswersDone s l other given s' l' = ⊥

-- what a reply is answered and what it leaves, once it is taken from the board; one that is not Done ends the upload
abbrev pub Answers : SharedState → LinkState → Reply → Answer → SharedState → LinkState → Type 0
Answers s l reply.Done given s' l' = AnswersDone s l l.session given s' l'
Answers s l other given s' l' = (given ≡ answer.Ack Error) × (s' ≡ s) × (l' ≡ link_done l)

-- the first reply is taken and answered
pub record Hears (s : SharedState) (l : LinkState) (given : Reply) (said : Answer) (s' : SharedState) (l' : LinkState) : Type 0 where
  pub about : Asked
  pub rest : List (Asked × Reply)
  pub first : posted s.board (Link l.number) ≡ (about, given) ∷ rest
  pub answers : Answers (after_hearing s l rest) l given said s' l'

-- the link comes to a meeting place
pub record Arrives (s : SharedState) (l : LinkState) (client : Client) (place : ℕ) (s' : SharedState) (l' : LinkState) : Type 0 where
  pub free : IsFree s l
  pub client_is : client ≡ Link l.number
  pub count : ℕ
  pub rest : List InputLine
  pub input : l.schedule.inputs ≡ input.Meet place count ∷ rest
  pub fresh : l.schedule.begun ≡ false
  pub shared : s' ≡ arrived_at s place
  pub link : l' ≡ record l { schedule = begun_on l.schedule }

-- enough clients came to the meeting place
pub record Meets (s : SharedState) (l : LinkState) (client : Client) (place : ℕ) (s' : SharedState) (l' : LinkState) : Type 0 where
  pub free : IsFree s l
  pub client_is : client ≡ Link l.number
  pub count : ℕ
  pub rest : List InputLine
  pub input : l.schedule.inputs ≡ input.Meet place count ∷ rest
  pub begun : l.schedule.begun ≡ true
  pub enough : count ≤ arrivals_at s place
  pub shared : s' ≡ s
  pub link : l' ≡ record l { schedule = advanced l.schedule }

-- the link waited
pub record Waits (s : SharedState) (l : LinkState) (client : Client) (s' : SharedState) (l' : LinkState) : Type 0 where
  pub free : IsFree s l
  pub client_is : client ≡ Link l.number
  pub rest : List InputLine
  pub input : l.schedule.inputs ≡ input.Wait ∷ rest
  pub shared : s' ≡ s
  pub link : l' ≡ record l { schedule = advanced l.schedule }

-- nothing is posted, and a request of its own is outstanding or its schedule gives it no step
pub record Rests (s : SharedState) (l : LinkState) (s' : SharedState) (l' : LinkState) : Type 0 where
  pub posted : posted s.board (Link l.number) ≡ []
  pub idle : (0 < outstanding s.board (Link l.number)) ⊎ InputWaits s (Link l.number) l.schedule.inputs l.schedule.begun
  pub shared : s' ≡ s
  pub link : l' ≡ l

abbrev pub LinkStep : SharedState → LinkState → StepOut Line → SharedState → LinkState → Type 0
LinkStep s l (Made (Sent number (said.Count kind count) given)) s' l' = (number ≡ l.number) × (Begins s l kind count given s' l' ⊎ FindsNoId s l kind count given s' l')
LinkStep s l (Made (Sent number (said.Item seq) given)) s' l' = (number ≡ l.number) × Writes s l seq given s' l'
LinkStep s l (Made (Heard number given said)) s' l' = (number ≡ l.number) × Hears s l given said s' l'
LinkStep s l (Made (Arrived client place)) s' l' = Arrives s l client place s' l'
LinkStep s l (Made (Met client place)) s' l' = Meets s l client place s' l'
LinkStep s l (Made (Waited client)) s' l' = Waits s l client s' l'
LinkStep s l Idle s' l' = Rests s l s' l'
LinkStep s l out s' l' = ⊥
