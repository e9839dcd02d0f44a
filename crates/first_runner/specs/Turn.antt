-- The actors' turns over the store, in a stated order.
use Rattle.std.specs.Prelude.{◌≡◌, ◌⊎◌, ℕ, ◌<◌, zero, suc, List, [], ◌∷◌, ◌++◌, length, take, Option, Some, None}
use Rattle.first_model.specs.declared.request.Request.{Request}
use Rattle.first_model.specs.declared.flight_line.Actor.{Actor}
use Rattle.first_model.specs.declared.flight_line.Actor.TheVariants.{Worker, Link, Nav, Watch}
use Rattle.first_model.specs.declared.flight_line.Line.{Line}
use Rattle.first_core.specs.declared.StepOut.{StepOut}
use Rattle.first_core.specs.declared.StepOut.TheVariants.{Made, Idle}
use Rattle.first_core.specs.WorkerLaw.{request_of}
use Rattle.first_core.specs.CoreState.{CoreState}
use Rattle.first_core.specs.CoreLaw.{CoreStep}
use Rattle.first_store.specs.StoreState.{StoreState}
use Rattle.first_store.specs.Serve.{Well, reply_to, after}

-- the worker's turn: a request that it has taken is served by a store in which nothing fails, and the reply is posted
abbrev pub WorkerTurn : Option Request → CoreState → StoreState → StepOut Line → CoreState → StoreState → Type 0
WorkerTurn None s st out s' st' = CoreStep s Worker None out s' × (st' ≡ st)
WorkerTurn (Some request) s st out s' st' = CoreStep s Worker (Some (reply_to Well st request)) out s' × (st' ≡ after Well st request)

-- one actor's turn over the store
abbrev pub Turn : CoreState → StoreState → Actor → StepOut Line → CoreState → StoreState → Type 0
Turn s st Worker out s' st' = WorkerTurn (request_of s.taken) s st out s' st'
Turn s st (Link number) out s' st' = CoreStep s (Link number) None out s' × (st' ≡ st)
Turn s st Nav out s' st' = CoreStep s Nav None out s' × (st' ≡ st)
Turn s st (Watch number) out s' st' = CoreStep s (Watch number) None out s' × (st' ≡ st)

-- what a turn adds to the record: its line, or nothing where the actor was idle
abbrev pub line_of : StepOut Line → List Line
line_of (Made line) = line ∷ []
line_of Idle = []

-- each of these actors in their order takes one turn, and those that are not idle make these lines
abbrev pub Acts : CoreState → StoreState → List Actor → List Line → CoreState → StoreState → Type 0
Acts s st [] lines s' st' = (lines ≡ []) × (s' ≡ s) × (st' ≡ st)
Acts s st (actor ∷ actors) lines s' st' = (out : StepOut Line) × (mid : CoreState) × (mid_st : StoreState) × (rest : List Line) × Turn s st actor out mid mid_st × Acts mid mid_st actors rest s' st' × (lines ≡ line_of out ++ rest)

-- so many rounds of these actors, one after another, of which each makes a line
abbrev pub Rounds : List Actor → ℕ → CoreState → StoreState → List Line → CoreState → StoreState → Type 0
Rounds round zero s st lines s' st' = (lines ≡ []) × (s' ≡ s) × (st' ≡ st)
Rounds round (suc n) s st lines s' st' = (first : List Line) × (mid : CoreState) × (mid_st : StoreState) × (rest : List Line) × Acts s st round first mid mid_st × (0 < length first) × Rounds round n mid mid_st rest s' st' × (lines ≡ first ++ rest)

-- the turns stopped: after some first ones of these
pub record StopsAmong (actors : List Actor) (s : CoreState) (st : StoreState) (lines : List Line) (s' : CoreState) (st' : StoreState) : Type 0 where
  pub taken : ℕ
  pub turns : Acts s st (take taken actors) lines s' st'

-- the turns stopped after all of these and so many rounds, of which each makes a line: within the next round
pub record StopsInRound (actors round : List Actor) (s : CoreState) (st : StoreState) (lines : List Line) (s' : CoreState) (st' : StoreState) : Type 0 where
  pub first_lines : List Line
  pub turned : CoreState
  pub turned_store : StoreState
  pub first : Acts s st actors first_lines turned turned_store
  pub count : ℕ
  pub round_lines : List Line
  pub rounded : CoreState
  pub rounded_store : StoreState
  pub rounds : Rounds round count turned turned_store round_lines rounded rounded_store
  pub last_lines : List Line
  pub stops : StopsAmong round rounded rounded_store last_lines s' st'
  pub all : lines ≡ first_lines ++ round_lines ++ last_lines

-- the turns of these actors, and then of rounds, stopped somewhere
abbrev pub Stops : List Actor → List Actor → CoreState → StoreState → List Line → CoreState → StoreState → Type 0
Stops actors round s st lines s' st' = StopsAmong actors s st lines s' st' ⊎ StopsInRound actors round s st lines s' st'
