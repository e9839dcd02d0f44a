-- A look in mode Mission: the plans are taken on, and then the mission waits, is held, is done, or does one step.
use Rattle.std.specs.Prelude.{◌≡◌, ◌≢◌, ℕ, ◌==◌, ◌&&◌, Bool, true, false, not, List, length, Option, Some, None, is_none, nat_lt, slice_get, if◌then◌else◌}
use Rattle.mission_model.specs.declared.command.TheConstants.{NAV_RETURN_TO_LAUNCH}
use Rattle.mission_model.specs.declared.command.Jump.{Jump}
use Rattle.mission_model.specs.declared.plan.Item.{Item}
use Rattle.mission_model.specs.declared.plan.PlanType.{PlanType}
use Rattle.mission_model.specs.declared.plan.PlanType.TheVariants.{Mission}
use Rattle.mission_model.specs.declared.vehicle.Look.TheVariants.{Here}
use Rattle.mission_model.specs.declared.vehicle.Mode.{Mode}
use Rattle.mission_model.specs.declared.vehicle.Mode.TheVariants as mode
use Rattle.mission_model.specs.declared.vehicle.NavWhat.{NavWhat}
use Rattle.mission_model.specs.declared.vehicle.NavWhat.TheVariants as what
use Rattle.mission_model.specs.Command.{jump_of}
use Rattle.mission_model.specs.Feasible.{FirstBroken}
use Rattle.mission_model.specs.ItemCode.{ItemCode}
use Rattle.request_board.specs.BoardState.{BoardState}
use Rattle.client_cache.specs.CacheState.{id_of, count_of, known_at, in_window}
use Rattle.client_cache.specs.Wants.{looked, Asks}
use Rattle.leg_machine.specs.declared.machine.LegOut.{LegOut}
use Rattle.leg_machine.specs.declared.machine.LegOut.TheVariants as out
use Rattle.leg_machine.specs.MachineState.{MachineState}
use Rattle.leg_machine.specs.Stepping.{Steps, at_leg_after}
use Rattle.navigator.specs.Uses.{JumpUses, goes_with}
use Rattle.navigator.specs.Taking.{taking, cache_past}
use Rattle.navigator.specs.Judging.{no_uses, is_whole, mission_behind, first_lacking}
use Rattle.navigator.specs.NavState.{FlightState, NavState, NavTaken, with_taken, HasShown, cache_of, with_cache}

-- what the line of an entry names
abbrev pub mission_id : NavTaken → ℕ
mission_id v = id_of v.mission.cache.head

abbrev pub fence_id : NavTaken → ℕ
fence_id v = id_of v.fence.cache.head

abbrev pub mission_count : NavTaken → ℕ
mission_count v = count_of v.mission.cache.head

-- the uses that a mission's items go with
abbrev pub uses_of : FlightState → JumpUses
uses_of f = record { boot = f.boot; counts = f.legs.pairs }

-- fence and mission once all was taken that can be
abbrev pub plans_taken : NavTaken → NavTaken
plans_taken v = record v { fence = taking no_uses v.fence; mission = mission_behind (is_whole (taking no_uses v.fence)) (uses_of v.flight) v.mission }

-- the entry waits for this item. A look at it in its window asks what is missing from it on; outside the window nothing is
-- asked, and a drop is owed
pub record WaitsFor (kind : PlanType) (seq : ℕ) (v : NavTaken) (b : BoardState) (given : NavWhat) (v' : NavTaken) (b' : BoardState) : Type 0 where
  pub shows : given ≡ what.Pending kind seq
  pub asks : Asks (cache_of kind v) b (looked (cache_of kind v) b seq) (cache_of kind v') b'
  pub rest : v' ≡ with_cache kind (cache_of kind v') (record v { owed = if in_window (cache_of kind v) seq then v.owed else Some (kind, seq) })

-- a jump leads to an item of the mission, and not to itself
abbrev pub leads_off : ℕ → ℕ → Option Jump → Bool
leads_off count seq None = true
leads_off count seq (Some jump) = nat_lt jump.target count && not (jump.target == seq)

-- the item may stand at this seq of some mission of so many, and goes with the uses there
abbrev pub can_stand : JumpUses → ℕ → ℕ → Item → Bool
can_stand uses count seq item = goes_with Mission uses seq item && is_none (ItemCode Mission item) && leads_off count seq (jump_of item)

abbrev pub standing : JumpUses → ℕ → ℕ → Option Item → Option Item
standing uses count seq None = None
standing uses count seq (Some item) = if can_stand uses count seq item then Some item else None

-- the mission's item at a seq that is flown to: it counts as not taken there, and is to be known and able to stand there
abbrev pub found_at : NavTaken → ℕ → Option Item
found_at v seq = standing (uses_of v.flight) (mission_count v) seq (known_at v.mission.cache seq)

-- what is known there and cannot stand there is forgotten
abbrev pub looked_up : NavTaken → ℕ → NavTaken
looked_up v seq = with_cache Mission (cache_past v.mission.cache seq (found_at v seq)) v

-- the entry of a step at an item, which names both plans
abbrev pub entry_of : LegOut → Item → ℕ → ℕ → NavWhat
entry_of (out.Leg seq) item mission fence = what.Leg seq mission fence item
entry_of (out.Action seq) item mission fence = what.Action seq mission fence item
entry_of (out.Jump seq to used) item mission fence = what.Jump seq to used mission fence
entry_of (out.JumpSpent seq) item mission fence = what.JumpSpent seq mission fence
entry_of out.Done item mission fence = what.Done mission fence
entry_of out.Pending item mission fence = what.Idle

-- the command to return sets the mode
abbrev pub mode_after : Mode → LegOut → Item → Mode
mode_after before (out.Action seq) item = if item.command == NAV_RETURN_TO_LAUNCH then mode.Return else before
mode_after before other item = before

-- the legs do one step at this item, as in any mission that has it at the index; the answer is neither done nor pending
pub record LegSteps (legs : MachineState) (item : Item) (answer : LegOut) (legs' : MachineState) : Type 0 where
  pub happens : (answer ≢ out.Done) × (answer ≢ out.Pending)
  pub steps : (items : List Item) → length items ≡ legs.count → slice_get items legs.index ≡ Some item → Steps items legs answer legs'
  pub at_leg : legs'.at_leg ≡ at_leg_after legs (Here item) answer
  pub count : legs'.count ≡ legs.count

-- the mission does one step at the item of its index, which was looked at
pub record StepsOn (v : NavTaken) (b : BoardState) (item : Item) (given : NavWhat) (v' : NavTaken) (b' : BoardState) : Type 0 where
  pub answer : LegOut
  pub shows : given ≡ entry_of answer item (mission_id v) (fence_id v)
  pub done : LegSteps v.flight.legs item answer v'.flight.legs
  pub asks : Asks v.mission.cache b (looked v.mission.cache b v.flight.legs.index) v'.mission.cache b'
  pub rest : v' ≡ with_cache Mission v'.mission.cache (record v { mode = mode_after v.mode answer item; flight = record v.flight { legs = v'.flight.legs } })

abbrev pub IfFound : Option Item → NavTaken → BoardState → NavWhat → NavTaken → BoardState → Type 0
IfFound None v b given v' b' = WaitsFor Mission v.flight.legs.index v b given v' b'
IfFound (Some item) v b given v' b' = StepsOn v b item given v' b'

-- a feasible mission is done at the index behind its last item
abbrev pub UnlessDone : Bool → NavTaken → BoardState → NavWhat → NavTaken → BoardState → Type 0
UnlessDone true v b given v' b' = (given ≡ what.Done (mission_id v) (fence_id v)) × (v' ≡ v) × (b' ≡ b)
UnlessDone false v b given v' b' = IfFound (found_at v v.flight.legs.index) (looked_up v v.flight.legs.index) b given v' b'

abbrev pub FliesOn : NavTaken → BoardState → NavWhat → NavTaken → BoardState → Type 0
FliesOn v b given v' b' = UnlessDone (v.flight.legs.index == mission_count v) v b given v' b'

-- a broken rule holds the mission
abbrev pub ByVerdict : Option (ℕ × ℕ) → NavTaken → BoardState → NavWhat → NavTaken → BoardState → Type 0
ByVerdict (Some (rule, seq)) v b given v' b' = (given ≡ what.Hold rule seq (mission_id v) (fence_id v)) × (v' ≡ v) × (b' ≡ b)
ByVerdict None v b given v' b' = FliesOn v b given v' b'

-- the verdict waits for the first item that it lacks
abbrev pub IfLacking : Option (PlanType × ℕ) → NavTaken → BoardState → NavWhat → NavTaken → BoardState → Type 0
IfLacking (Some (kind, seq)) v b given v' b' = WaitsFor kind seq v b given v' b'
IfLacking None v b given v' b' = ByVerdict (FirstBroken v.params v.home v.mission.taken v.fence.taken) v b given v' b'

-- an empty mission is held
abbrev pub UnlessEmpty : Bool → NavTaken → BoardState → NavWhat → NavTaken → BoardState → Type 0
UnlessEmpty true v b given v' b' = (given ≡ what.HoldEmpty) × (v' ≡ v) × (b' ≡ b)
UnlessEmpty false v b given v' b' = IfLacking (first_lacking (plans_taken v).fence (plans_taken v).mission) (plans_taken v) b given v' b'

abbrev pub LooksOn : NavTaken → BoardState → NavWhat → NavTaken → BoardState → Type 0
LooksOn v b given v' b' = UnlessEmpty (mission_count v == 0) v b given v' b'

-- the code answers by a law: the abstract Navigator with these items taken goes to one with some items taken
pub record AnswersBy (Law : NavTaken → BoardState → NavWhat → NavTaken → BoardState → Type 0) (n : NavState) (items : List Item) (b : BoardState) (given : NavWhat) (n' : NavState) (b' : BoardState) : Type 0 where
  pub items' : List Item
  pub fed : HasShown n' items'
  pub law : Law (with_taken n items) b given (with_taken n' items') b'

-- so it does with the same items taken
pub record KeepsTaken (Law : NavTaken → BoardState → NavWhat → NavTaken → BoardState → Type 0) (n : NavState) (items : List Item) (b : BoardState) (given : NavWhat) (n' : NavState) (b' : BoardState) : Type 0 where
  pub fed : HasShown n' items
  pub law : Law (with_taken n items) b given (with_taken n' items) b'

-- fence and mission are taken on, and the answer is the first item that is lacking still
pub record TakesPlans (n : NavState) (items : List Item) (answer : Option (PlanType × ℕ)) (n' : NavState) : Type 0 where
  pub fed : HasShown n' (plans_taken (with_taken n items)).mission.taken
  pub view : with_taken n' (plans_taken (with_taken n items)).mission.taken ≡ plans_taken (with_taken n items)
  pub answer_is : answer ≡ first_lacking (plans_taken (with_taken n items)).fence (plans_taken (with_taken n items)).mission
