-- The texts of the vehicle's events and of what the Navigator does at them.
use Rattle.std.specs.Prelude.{ℕ, ⊤, List, ◌++◌, codes, decimal}
use Rattle.std.specs.Fmt.{signed_decimal}
use Rattle.first_model.specs.declared.plan.Item.{Item}
use Rattle.first_model.specs.declared.vehicle.Mode.{Mode}
use Rattle.first_model.specs.declared.vehicle.Mode.TheVariants as mode
use Rattle.first_model.specs.declared.vehicle.NavWhat.{NavWhat}
use Rattle.first_model.specs.declared.vehicle.NavWhat.TheVariants.{Leg, Action, Jump, JumpSpent, Done, Pending, Hold, HoldEmpty, Idle, Taken, Next, NextReturn, Ignored, ReturnLeg, ReturnSkip, ReturnHome, ReturnSafe, ReturnNone, ReturnDone}
use Rattle.first_model.specs.declared.vehicle.VehicleLine.{VehicleLine}
use Rattle.first_model.specs.declared.vehicle.VehicleLine.TheVariants as vehicle
use Rattle.first_record.specs.Plans.{kind_text, place_text, item_text}

-- a mode's word
abbrev pub mode_text : Mode → List ℕ
mode_text mode.Hold = codes "hold"
mode_text mode.Mission = codes "mission"
mode_text mode.Return = codes "return"

-- an event of the vehicle
abbrev pub event_text : VehicleLine → List ℕ
event_text vehicle.Tick = codes "tick"
event_text vehicle.Go = codes "go"
event_text vehicle.Reached = codes "reached"
event_text (vehicle.Mode mode) = codes "mode " ++ mode_text mode
event_text (vehicle.Position x y) = codes "position " ++ signed_decimal x ++ codes " " ++ signed_decimal y

-- the plans that are flown: mission ID fence ID
abbrev pub flown_text : ℕ → ℕ → List ℕ
flown_text mission fence = codes "mission " ++ decimal mission ++ codes " fence " ++ decimal fence

-- the place in a mission and the plans that are flown: SEQ mission ID fence ID
abbrev pub at_text : ℕ → ℕ → ℕ → List ℕ
at_text seq mission fence = decimal seq ++ codes " " ++ flown_text mission fence

-- a target of a mission: SEQ mission ID fence ID ITEM
abbrev pub target_text : ℕ → ℕ → ℕ → Item → List ℕ
target_text seq mission fence item = at_text seq mission fence ++ codes " " ++ item_text item

-- a jump that is taken: SEQ to SEQ used NUMBER
abbrev pub taken_text : ℕ → ℕ → ℕ → List ℕ
taken_text seq to used = decimal seq ++ codes " to " ++ decimal to ++ codes " used " ++ decimal used

-- a safe point that is returned to: SEQ safe ID fence ID ITEM
abbrev pub safe_text : ℕ → ℕ → ℕ → Item → List ℕ
safe_text seq safe fence item =
    decimal seq ++ codes " safe " ++ decimal safe ++ codes " fence " ++ decimal fence ++ codes " " ++ item_text item

-- what the Navigator does
abbrev pub what_text : NavWhat → List ℕ
what_text (Leg seq mission fence item) = codes "leg " ++ target_text seq mission fence item
what_text (Action seq mission fence item) = codes "action " ++ target_text seq mission fence item
what_text (Jump seq to used mission fence) = codes "jump " ++ taken_text seq to used ++ codes " " ++ flown_text mission fence
what_text (JumpSpent seq mission fence) = codes "jump " ++ decimal seq ++ codes " spent " ++ flown_text mission fence
what_text (Done mission fence) = codes "done " ++ flown_text mission fence
what_text (Pending kind seq) = codes "pending " ++ kind_text kind ++ codes " " ++ decimal seq
what_text (Hold rule seq mission fence) = codes "hold " ++ decimal rule ++ codes " " ++ at_text seq mission fence
what_text HoldEmpty = codes "hold empty"
what_text Idle = codes "idle"
what_text Taken = codes "taken"
what_text (Next seq) = codes "next " ++ decimal seq
what_text NextReturn = codes "next return"
what_text Ignored = codes "ignored"
what_text (ReturnLeg seq mission fence item) = codes "return leg " ++ target_text seq mission fence item
what_text (ReturnSkip seq mission fence) = codes "return skip " ++ at_text seq mission fence
what_text (ReturnHome home) = codes "return home " ++ place_text home.x home.y home.z
what_text (ReturnSafe seq safe fence item) = codes "return safe " ++ safe_text seq safe fence item
what_text ReturnNone = codes "return none"
what_text ReturnDone = codes "return done"

-- the entry is that of a jump
abbrev pub IsJumpEntry : NavWhat → Type 0
IsJumpEntry (Jump seq to used mission fence) = ⊤
IsJumpEntry (JumpSpent seq mission fence) = ⊤
IsJumpEntry _ = ⊥

-- the entry is a step of the mission
abbrev pub IsMissionEntry : NavWhat → Type 0
IsMissionEntry (Leg seq mission fence item) = ⊤
IsMissionEntry (Action seq mission fence item) = ⊤
IsMissionEntry (Jump seq to used mission fence) = ⊤
IsMissionEntry (JumpSpent seq mission fence) = ⊤
IsMissionEntry (Done mission fence) = ⊤
IsMissionEntry _ = ⊥

-- the entry is a step of the way home
abbrev pub IsReturnEntry : NavWhat → Type 0
IsReturnEntry (ReturnLeg seq mission fence item) = ⊤
IsReturnEntry (ReturnSkip seq mission fence) = ⊤
IsReturnEntry (ReturnHome home) = ⊤
IsReturnEntry (ReturnSafe seq safe fence item) = ⊤
IsReturnEntry ReturnNone = ⊤
IsReturnEntry ReturnDone = ⊤
IsReturnEntry _ = ⊥
