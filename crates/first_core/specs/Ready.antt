-- When an actor with a schedule is ready.
use Rattle.std.specs.Prelude.{◌≡◌, ◌<◌, ◌≤◌, Bool, true, false, List, [], ◌∷◌}
use Rattle.first_model.specs.declared.request.Client.{Client}
use Rattle.first_model.specs.declared.schedule.InputLine.{InputLine}
use Rattle.first_model.specs.declared.schedule.InputLine.TheVariants as input
use Rattle.first_model.specs.declared.vehicle.VehicleLine.TheVariants as event
use Rattle.first_board.specs.BoardState.{outstanding}
use Rattle.first_core.specs.SharedState.{SharedState, arrivals_at}

-- the client may take a step on its current input: a wait, and a look of a go after a pending one, need that nothing
-- of its own is outstanding; a meeting that it came to needs enough arrivals; every other step is ready
abbrev pub InputReady : SharedState → Client → List InputLine → Bool → Type 0
InputReady shared client [] begun = ⊥
InputReady shared client (input.Wait ∷ rest) begun = outstanding shared.board client ≡ 0
InputReady shared client (input.Meet place count ∷ rest) false = Unit {0}
InputReady shared client (input.Meet place count ∷ rest) true = count ≤ arrivals_at shared place
InputReady shared client (input.Vehicle event.Go ∷ rest) true = outstanding shared.board client ≡ 0
InputReady shared client (current ∷ rest) begun = Unit {0}

-- the schedule gives the client no step now
abbrev pub InputWaits : SharedState → Client → List InputLine → Bool → Type 0
InputWaits shared client [] begun = Unit {0}
InputWaits shared client (input.Wait ∷ rest) begun = 0 < outstanding shared.board client
InputWaits shared client (input.Meet place count ∷ rest) false = ⊥
InputWaits shared client (input.Meet place count ∷ rest) true = arrivals_at shared place < count
InputWaits shared client (input.Vehicle event.Go ∷ rest) true = 0 < outstanding shared.board client
InputWaits shared client (current ∷ rest) begun = ⊥
