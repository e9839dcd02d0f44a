-- What is left of a schedule is of the same kind, and an upload of a plain mission is within the limit.
use Rattle.std.proofs.Common.{false, List, [], ◌∷◌, drop}
use Rattle.std.specs.List.{All}
use Rattle.std.proofs.lemmas.List.Elements.{All-drop}
use Rattle.first_model.specs.declared.schedule.InputLine.{InputLine}
use Rattle.first_model.specs.declared.schedule.InputLine.TheVariants as input
use Rattle.first_core.specs.LinkState.{NoUpload}

pub All-drop-one : {X : Type 0} (P : X → Type 0) (xs : List X) → All P xs → All P (drop 1 xs)
All-drop-one P xs a = All-drop P 1 xs a

pub NoUpload-fresh : (inputs : List InputLine) → NoUpload inputs false
NoUpload-fresh [] = tt
NoUpload-fresh (input.Upload kind items ∷ rest) = tt
NoUpload-fresh (input.Message message ∷ rest) = tt
NoUpload-fresh (input.Wait ∷ rest) = tt
NoUpload-fresh (input.Meet place count ∷ rest) = tt
NoUpload-fresh (input.Vehicle event ∷ rest) = tt
NoUpload-fresh (input.Watch watch ∷ rest) = tt

pub ruleset inputs_stay = (All-drop-one, NoUpload-fresh)
