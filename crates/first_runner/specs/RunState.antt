-- What the parts of a run add to a record, between one state of core and store and another.
use Rattle.std.specs.Prelude.{◌≡◌, ℕ, List, [], ◌∷◌, ◌++◌, take}
use Rattle.first_model.specs.declared.flight_line.Actor.{Actor}
use Rattle.first_model.specs.declared.flight_line.Line.{Line}
use Rattle.first_core.specs.declared.StepOut.{StepOut}
use Rattle.first_core.specs.CoreState.{CoreState}
use Rattle.first_store.specs.StoreState.{StoreState}
use Rattle.first_runner.specs.Turn.{Turn, Acts, Rounds, Stops, line_of}
use Rattle.first_runner.specs.Flight.{IsEnding}

-- one turn, and its line
pub record Acted (s : CoreState) (st : StoreState) (actor : Actor) (old : List Line) (s' : CoreState) (st' : StoreState) (new : List Line) : Type 0 where
  pub out : StepOut Line
  pub turn : Turn s st actor out s' st'
  pub lines : new ≡ old ++ line_of out

-- the turns of these actors, and their lines
pub record ActedAll (s : CoreState) (st : StoreState) (actors : List Actor) (old : List Line) (s' : CoreState) (st' : StoreState) (new : List Line) : Type 0 where
  pub made : List Line
  pub acts : Acts s st actors made s' st'
  pub lines : new ≡ old ++ made

-- some first turns of these actors, and their lines
pub record StoppedAmong (s : CoreState) (st : StoreState) (actors : List Actor) (old : List Line) (s' : CoreState) (st' : StoreState) (new : List Line) : Type 0 where
  pub taken : ℕ
  pub acted : ActedAll s st (take taken actors) old s' st' new

-- rounds, of which each makes a line, and their lines
pub record WentOn (s : CoreState) (st : StoreState) (round : List Actor) (old : List Line) (s' : CoreState) (st' : StoreState) (new : List Line) : Type 0 where
  pub count : ℕ
  pub made : List Line
  pub rounds : Rounds round count s st made s' st'
  pub lines : new ≡ old ++ made

-- such rounds, and some first turns of the next one
pub record StoppedRound (s : CoreState) (st : StoreState) (round : List Actor) (old : List Line) (s' : CoreState) (st' : StoreState) (new : List Line) : Type 0 where
  pub rounded : CoreState
  pub rounded_store : StoreState
  pub rounded_lines : List Line
  pub went : WentOn s st round old rounded rounded_store rounded_lines
  pub stopped : StoppedAmong rounded rounded_store round rounded_lines s' st' new

-- rounds, of which each makes a line, their lines, and a round that makes none
pub record WentRound (s : CoreState) (st : StoreState) (round : List Actor) (old : List Line) (s' : CoreState) (st' : StoreState) (new : List Line) : Type 0 where
  pub rounded : CoreState
  pub rounded_store : StoreState
  pub went : WentOn s st round old rounded rounded_store new
  pub still : Acts rounded rounded_store round [] s' st'

-- the stated turns, the rounds, and the line that ends the boot
pub record Flew (s : CoreState) (st : StoreState) (turns : List Actor) (round : List Actor) (old new : List Line) : Type 0 where
  pub turned : CoreState
  pub turned_store : StoreState
  pub turned_lines : List Line
  pub stated : ActedAll s st turns old turned turned_store turned_lines
  pub last : CoreState
  pub last_store : StoreState
  pub last_lines : List Line
  pub went : WentRound turned turned_store round turned_lines last last_store last_lines
  pub ending_line : Line
  pub ending : IsEnding last ending_line
  pub lines : new ≡ last_lines ++ ending_line ∷ []

-- the stated turns and then the rounds, as far as they came
pub record SoFar (s : CoreState) (st : StoreState) (turns : List Actor) (round : List Actor) (old : List Line) (s' : CoreState) (st' : StoreState) (new : List Line) : Type 0 where
  pub made : List Line
  pub stops : Stops turns round s st made s' st'
  pub lines : new ≡ old ++ made
