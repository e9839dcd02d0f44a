-- The law of the Navigator: what one event makes of it and of the board, and what a boot makes of it.
use Rattle.std.specs.Prelude.{◌≡◌, ℕ, ◌+◌, ◌<◌, ◌≤◌, ◌==◌, Bool, true, false, List, [], length, Option, Some, None, IfSome, if◌then◌else◌}
use Rattle.mission_model.specs.declared.plan.Home.{Home}
use Rattle.mission_model.specs.declared.plan.Item.{Item}
use Rattle.mission_model.specs.declared.plan.Params.{Params}
use Rattle.mission_model.specs.declared.plan.PlanHead.{PlanHead}
use Rattle.mission_model.specs.declared.plan.PlanType.{PlanType}
use Rattle.mission_model.specs.declared.plan.PlanType.TheVariants.{Mission, Fence, Safe}
use Rattle.mission_model.specs.declared.request.Client.TheVariants.{Nav}
use Rattle.mission_model.specs.declared.vehicle.BootState.{BootState}
use Rattle.mission_model.specs.declared.vehicle.Mode.{Mode}
use Rattle.mission_model.specs.declared.vehicle.Mode.TheVariants as mode
use Rattle.mission_model.specs.declared.vehicle.VehicleLine.{VehicleLine}
use Rattle.mission_model.specs.declared.vehicle.VehicleLine.TheVariants as event
use Rattle.mission_model.specs.declared.vehicle.NavWhat.{NavWhat}
use Rattle.mission_model.specs.declared.vehicle.NavWhat.TheVariants as what
use Rattle.mission_model.specs.declared.vehicle.NavEntry.{NavEntry}
use Rattle.mission_model.specs.CountsList.{pairs_of}
use Rattle.mission_model.specs.PlanTypes.{head_of, limit_of}
use Rattle.request_board.specs.BoardState.{BoardState, outstanding}
use Rattle.client_cache.specs.CacheState.{CacheState, has_id, id_of, count_of, opened, adopted}
use Rattle.leg_machine.specs.MachineState.{MachineState, made, set_to, after_reached}
use Rattle.return_mode.specs.ReturnState.{ReturnState}
use Rattle.return_mode.specs.ReturnState as back
use Rattle.navigator.specs.declared.windows.TheConstants.{MISSION_PLACES, OTHER_PLACES}
use Rattle.navigator.specs.Taking.{PlanTaken}
use Rattle.navigator.specs.NavState.{NavState, NavTaken, with_taken, HasShown}
use Rattle.navigator.specs.OnMission.{LooksOn}
use Rattle.navigator.specs.OnReturn.{LooksBack}
use Rattle.navigator.specs.Meeting.{PlansMet, AsksMark}

-- a tick or a go
abbrev pub LooksBy : Mode → NavTaken → BoardState → NavWhat → NavTaken → BoardState → Type 0
LooksBy mode.Hold v b given v' b' = (given ≡ what.Idle) × (v' ≡ v) × (b' ≡ b)
LooksBy mode.Mission v b given v' b' = LooksOn v b given v' b'
LooksBy mode.Return v b given v' b' = LooksBack v b given v' b'

-- a leg that was shown is reached
abbrev pub leg_reached : Bool → ℕ → NavWhat
leg_reached true index = what.Next (index + 1)
leg_reached false index = what.Ignored

abbrev pub ReachesOn : NavTaken → NavWhat → NavTaken → Type 0
ReachesOn v given v' = (given ≡ leg_reached v.flight.legs.at_leg v.flight.legs.index) × (v' ≡ record v { flight = record v.flight { legs = after_reached v.flight.legs } })

-- a target that was shown is reached
abbrev pub target_reached : Bool → NavWhat
target_reached true = what.NextReturn
target_reached false = what.Ignored

abbrev pub ReachesBack : Option ReturnState → NavTaken → NavWhat → NavTaken → Type 0
ReachesBack None v given v' = (given ≡ what.Ignored) × (v' ≡ v)
ReachesBack (Some r) v given v' = (given ≡ target_reached r.shown) × (v' ≡ record v { way = Some (back.after_reached r) })

abbrev pub Reaches : Mode → NavTaken → NavWhat → NavTaken → Type 0
Reaches mode.Return v given v' = ReachesBack v.way v given v'
Reaches other v given v' = ReachesOn v given v'

-- mode Mission at the mission's end begins the mission again
abbrev pub legs_entering : Mode → MachineState → MachineState
legs_entering mode.Mission legs = if legs.index == legs.count then set_to legs 0 else legs
legs_entering other legs = legs

-- a mode is entered, which drops a chosen return
abbrev pub mode_taken : NavTaken → Mode → NavTaken
mode_taken v to = record v { mode = to; flight = record v.flight { legs = legs_entering to v.flight.legs }; way = None }

-- the line is acted on
abbrev pub ActsOn : VehicleLine → NavTaken → BoardState → NavWhat → NavTaken → BoardState → Type 0
ActsOn event.Tick v b given v' b' = LooksBy v.mode v b given v' b'
ActsOn event.Go v b given v' b' = LooksBy v.mode v b given v' b'
ActsOn event.Reached v b given v' b' = Reaches v.mode v given v' × (b' ≡ b)
ActsOn (event.Mode to) v b given v' b' = (given ≡ what.Taken) × (v' ≡ mode_taken v to) × (b' ≡ b)
ActsOn (event.Position x y) v b given v' b' = (given ≡ what.Taken) × (v' ≡ record v { position = Some (x, y) }) × (b' ≡ b)

-- an index that was asked for the adopted mission is set, and any other is dropped
abbrev pub index_met : NavTaken → Option (ℕ × ℕ) → NavTaken
index_met v None = v
index_met v (Some (id, seq)) = if has_id v.mission.cache.head id then record v { flight = record v.flight { legs = set_to v.flight.legs seq } } else v

-- One event, in its four steps: published heads are met, an asked index is taken, the line is acted on, the mark is asked.
-- The entry tells how many requests were asked in it.
pub record EventLaw (v : NavTaken) (b : BoardState) (line : VehicleLine) (entry : NavEntry) (v' : NavTaken) (b' : BoardState) : Type 0 where
  pub met : NavTaken
  pub mid : NavTaken
  pub board : BoardState
  pub heads : PlansMet v b.published met
  pub acts : ActsOn line (index_met met b.index) (record b { index = None }) entry.what mid board
  pub mark : AsksMark (id_of mid.mission.cache.head) mid.flight board v'.flight b'
  pub rest : v' ≡ record mid { flight = v'.flight }
  pub asked : outstanding b' Nav ≡ outstanding b Nav + entry.asked

-- the code obeys the law, with these items of the mission taken before the event and some after it
pub record Obeys (n : NavState) (items : List Item) (b : BoardState) (line : VehicleLine) (entry : NavEntry) (n' : NavState) (b' : BoardState) : Type 0 where
  pub items' : List Item
  pub fed : HasShown n' items'
  pub law : EventLaw (with_taken n items) b line entry (with_taken n' items') b'

-- a window that has adopted a plan of which nothing is known
abbrev pub new_window : PlanType → ℕ → PlanHead → CacheState
new_window kind places head = adopted (opened Nav kind places) head

abbrev pub new_plan : PlanType → ℕ → PlanHead → PlanTaken
new_plan kind places head = record { kind = kind; cache = new_window kind places head; taken = [] }

-- the Navigator of a boot: mode Hold at the boot's mark, nothing known and nothing taken
abbrev pub nav_at_boot : Params → Option Home → BootState → NavTaken
nav_at_boot params home boot = record {
  params = params;
  home = home;
  mode = mode.Hold;
  position = None;
  mission = new_plan Mission MISSION_PLACES (head_of boot.heads Mission);
  fence = new_plan Fence OTHER_PLACES (head_of boot.heads Fence);
  safe = new_plan Safe OTHER_PLACES (head_of boot.heads Safe);
  flight = record { legs = made (head_of boot.heads Mission).count boot.mark.index (pairs_of boot.mark.counts); boot = pairs_of boot.mark.counts; marks = record { stood = boot.mark; asked = [] } };
  owed = None;
  way = None;
}

-- An event may happen beside this board: each published count is within its limit; the published mission, where its id is the
-- adopted one, has the adopted count; an index that is kept for the published mission is one of its items; and the marks that
-- were asked and have no reply yet are among the Navigator's outstanding requests.
pub record CanTick (n : NavState) (b : BoardState) : Type 0 where
  pub counts : (kind : PlanType) → (head_of b.published kind).count ≤ limit_of kind
  pub same : has_id n.mission.cache.head (head_of b.published Mission).id ≡ true → (head_of b.published Mission).count ≡ count_of n.mission.cache.head
  pub index : IfSome b.index (λ at. at.0 ≡ (head_of b.published Mission).id → at.1 < (head_of b.published Mission).count)
  pub marks : length n.flight.marks.asked ≤ outstanding b Nav
