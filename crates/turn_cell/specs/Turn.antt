-- What a turn gives.
use Rattle.std.specs.Prelude.{◌≡◌, ℕ, List, [], ◌∷◌, ◌++◌, Some, length}
use Rattle.turn_cell.specs.declared.machine.StepOut.{StepOut}
use Rattle.turn_cell.specs.declared.machine.StepOut.TheVariants as step
use Rattle.turn_cell.specs.declared.turn.TurnOut.{TurnOut}
use Rattle.turn_cell.specs.declared.turn.TurnOut.TheVariants.{Made, Idle}
use Rattle.turn_cell.specs.declared.seat_view.Entry.{Entry}
use Rattle.turn_cell.specs.declared.seat_view.SeatView.{SeatView}
use Rattle.turn_cell.specs.Legal.{Legal, HasNone}

module _ {S L I N : Type 0} (number : L → ℕ) (fits : S → L → Type 0) (suits : L → I → Type 0) (steps : S → L → I → StepOut N → S → L → Type 0) where
  -- what is seen is a legal history that leads to this shared part
  abbrev pub SeesUpTo : SeatView S L I N → S → Type 0
  SeesUpTo v s' = (s : S) × (v.shared ≡ Some s) × Legal number fits suits steps s v.locals v.seen s'

  -- what is seen is a legal history
  abbrev pub Sees : SeatView S L I N → Type 0
  Sees v = (s' : S) × SeesUpTo v s'

  abbrev pub SameSeat : SeatView S L I N → SeatView S L I N → Type 0
  SameSeat v w = (w.number ≡ v.number) × (w.shared ≡ v.shared) × (w.locals ≡ v.locals)

  -- more is seen, without an entry of the pass
  abbrev pub OthersOnly : SeatView S L I N → SeatView S L I N → Type 0
  OthersOnly v w = (between : List (Entry S L I N)) × (w.seen ≡ v.seen ++ between) × HasNone v.number between

  -- a legal history is seen that goes on without an entry of the pass
  abbrev pub NoEntry : SeatView S L I N → SeatView S L I N → Type 0
  NoEntry v w = SameSeat v w × Sees w × OthersOnly v w

  -- the same, and the step would be idle there
  abbrev pub IdleThere : SeatView S L I N → L → I → SeatView S L I N → Type 0
  IdleThere v local input w = SameSeat v w × ((s' : S) × SeesUpTo w s' × steps s' local input step.Idle s' local) × OthersOnly v w

  -- a legal history is seen that goes on without an entry of the pass, and then has the entry of this turn
  abbrev pub OneEntry : SeatView S L I N → L → I → N → L → SeatView S L I N → Type 0
  OneEntry v before input line after w = SameSeat v w × Sees w
      × ((s' : S) × (between : List (Entry S L I N)) × (w.seen ≡ (v.seen ++ between) ++ record { number = v.number; before = before; input = input; line = line; shared = s'; after = after } ∷ []) × HasNone v.number between)

  abbrev pub TurnAnswers : SeatView S L I N → L → I → SeatView S L I N → L → TurnOut N → Type 0
  TurnAnswers v l input w l' (Made line) = OneEntry v l input line l' w
  TurnAnswers v l input w l' (Idle n) = IdleThere v l input w × (l' ≡ l) × (n ≡ length w.seen)
