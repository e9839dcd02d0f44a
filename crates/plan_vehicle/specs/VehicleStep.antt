-- What each line of a record says of the vehicle: where it holds, and what it does. A line of another form says nothing.
use Rattle.std.specs.Prelude.{◌≡◌, ◌==◌, true, [], ◌∷◌, ◌++◌, Some, None, if◌then◌else◌}
use Rattle.mission_model.specs.declared.vehicle.Mode.{Mode}
use Rattle.mission_model.specs.declared.vehicle.Mode.TheVariants as mode
use Rattle.mission_model.specs.declared.vehicle.VehicleLine.{VehicleLine}
use Rattle.mission_model.specs.declared.vehicle.VehicleLine.TheVariants as event
use Rattle.mission_model.specs.declared.vehicle.NavWhat.{NavWhat}
use Rattle.mission_model.specs.declared.vehicle.NavWhat.TheVariants as what
use Rattle.mission_model.specs.declared.flight_line.Line.{Line}
use Rattle.mission_model.specs.declared.flight_line.Line.TheVariants as line
use Rattle.plan_vehicle.specs.VehicleState.{VehicleState, mission_count, place_of}
use Rattle.plan_vehicle.specs.Boots.{Boots, IsCut}
use Rattle.plan_vehicle.specs.Requests.{Takes, Serves}
use Rattle.plan_vehicle.specs.Messages.{Says, Hears}
use Rattle.plan_vehicle.specs.MissionEvents.{index_taken, moved, LooksOn, ReachesOn}
use Rattle.plan_vehicle.specs.ReturnEvents.{LooksBack, ReachesBack}

-- a look, by the mode: in Hold there is nothing to do
abbrev pub Looks : Mode → VehicleState → NavWhat → VehicleState → Type 0
Looks mode.Hold v what.Idle v' = v' ≡ v
Looks mode.Hold v other v' = ⊥
Looks mode.Mission v given v' = LooksOn v given v'
Looks mode.Return v given v' = LooksBack v given v'

-- the vehicle is where it was going, by the mode
abbrev pub Reaches : Mode → VehicleState → NavWhat → VehicleState → Type 0
Reaches mode.Return v given v' = ReachesBack v given v'
Reaches other v given v' = ReachesOn v given v'

-- at its end the mission begins again
abbrev pub rewound : VehicleState → VehicleState
rewound v = if v.index == mission_count v then moved v 0 [] else v

-- the vehicle in another mode, without the return that was chosen
abbrev pub in_mode : VehicleState → Mode → VehicleState
in_mode v mode.Hold = record v { mode = mode.Hold; way = None }
in_mode v mode.Mission = record (rewound v) { mode = mode.Mission; way = None }
in_mode v mode.Return = record v { mode = mode.Return; way = None }

-- an event and what the vehicle does at it
abbrev pub Acts : VehicleState → VehicleLine → NavWhat → VehicleState → Type 0
Acts v event.Tick given v' = Looks v.mode v given v'
Acts v event.Go given v' = Looks v.mode v given v'
Acts v event.Reached given v' = Reaches v.mode v given v'
Acts v (event.Mode mode) what.Taken v' = v' ≡ in_mode v mode
Acts v (event.Position x y) what.Taken v' = v' ≡ record v { position = Some (x, y) }
Acts v other given v' = ⊥

-- the place where the vehicle is was passed
abbrev pub passing : VehicleState → VehicleState
passing v = record v { passed = v.passed ++ place_of v ∷ [] }

-- an event takes the index that a link asked for, acts, and then passes the place where the vehicle is
pub record Happens (v : VehicleState) (event : VehicleLine) (given : NavWhat) (v' : VehicleState) : Type 0 where
  pub up : v.is_up ≡ true
  pub acted : VehicleState
  pub acts : Acts (index_taken v v.wanted) event given acted
  pub after : v' ≡ passing acted

-- one line, from the vehicle before it to the vehicle after it
abbrev pub VehicleStep : VehicleState → Line → VehicleState → Type 0
VehicleStep v (line.Boot number heads mark) v' = Boots v number heads mark v'
VehicleStep v (line.BootCut number) v' = IsCut v number v'
VehicleStep v (line.Took client asked) v' = Takes v client asked v'
VehicleStep v (line.Served client given) v' = Serves v client given v'
VehicleStep v (line.Sent link said given) v' = Says v given v'
VehicleStep v (line.Heard link given said) v' = Hears v link given said v'
VehicleStep v (line.Nav event entry) v' = Happens v event entry.what v'
VehicleStep v other v' = v' ≡ v
