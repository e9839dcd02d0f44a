-- The lines of boots. A boot begins with the plans and the mark that are there, or with one of the changes that may have
-- been made.
use Rattle.std.specs.Prelude.{◌≡◌, ℕ, ◌+◌, ◌<◌, ◌≤◌, Bool, true, false, List, [], ◌∷◌, length, take, None, Contains, ◌⊎◌}
use Rattle.mission_model.specs.declared.counts.Mark.{Mark}
use Rattle.mission_model.specs.declared.plan.PlanType.TheVariants.{Mission, Fence, Safe}
use Rattle.mission_model.specs.declared.plan.PlanHead.{PlanHead}
use Rattle.mission_model.specs.declared.request.Asked.{Asked}
use Rattle.mission_model.specs.declared.request.Asked.TheVariants as about
use Rattle.mission_model.specs.declared.vehicle.Mode.TheVariants as mode
use Rattle.mission_model.specs.PlainMark.{plain_mark}
use Rattle.mission_model.specs.PlanTypes.{head_of}
use Rattle.plan_vehicle.specs.PlanState.{untold, told, plan_head}
use Rattle.plan_vehicle.specs.Drafts.{draft_of}
use Rattle.plan_vehicle.specs.VehicleState.{VehicleState, plan_of, with_plan}

-- the vehicle with the plans and the mark that the record's first boot names
abbrev pub named : VehicleState → List PlanHead → Mark → VehicleState
named v heads mark = record v { mission = untold (head_of heads Mission); fence = untold (head_of heads Fence); safe = untold (head_of heads Safe); mark = plain_mark mark }

-- the vehicle once this boot is up: it holds where its mark is, and nothing else of the boot before is left
abbrev pub booted : VehicleState → ℕ → VehicleState
booted v number = record v { boots = number; is_up = true; maybe = []; drafts = []; service = None; passed = v.mark ∷ []; mode = mode.Hold; index = v.mark.index; counts = v.mark.pairs; at_leg = false; wanted = None; position = None; way = None }

-- the first boot that is up may name any plans; its mark is on this mission, at most at its end
pub record BeginsWith (v : VehicleState) (heads : List PlanHead) (mark : Mark) (found : VehicleState) : Type 0 where
  pub mission : mark.id ≡ (head_of heads Mission).id
  pub index : mark.index ≤ (head_of heads Mission).count
  pub is_named : found ≡ named v heads mark

-- the heads are those of this vehicle
pub record HasHeads (v : VehicleState) (heads : List PlanHead) : Type 0 where
  pub mission : plan_head v.mission ≡ head_of heads Mission
  pub fence : plan_head v.fence ≡ head_of heads Fence
  pub safe : plan_head v.safe ≡ head_of heads Safe

-- the heads and the mark are those of this vehicle
pub record IsNamed (v : VehicleState) (heads : List PlanHead) (mark : Mark) : Type 0 where
  pub plans : HasHeads v heads
  pub same_mark : v.mark ≡ plain_mark mark

-- the change can have been made: a commit of a newer plan, whose items were written, or a mark
abbrev pub CanApply : VehicleState → Asked → Type 0
CanApply v (about.Commit kind id count) = ((plan_of v kind).id < id) × (count ≤ length (draft_of v.drafts kind id))
CanApply v (about.SetMark mark) = Unit {0}
CanApply v asked = ⊥

-- the vehicle with a change made. A commit's plan is the first items of its draft, which only grows
abbrev pub applied : VehicleState → Asked → VehicleState
applied v (about.Commit kind id count) = with_plan v kind (told id (take count (draft_of v.drafts kind id)))
applied v (about.SetMark mark) = record v { mark = plain_mark mark }
applied v asked = v

-- a boot may find the vehicle as it was, or with one of the changes that may have been made
abbrev pub Finds : VehicleState → VehicleState → Type 0
Finds v found = (found ≡ v) ⊎ ((change : Asked) × Contains v.maybe change × CanApply v change × (found ≡ applied v change))

-- a later boot names what it finds
pub record GoesOnWith (v : VehicleState) (heads : List PlanHead) (mark : Mark) (found : VehicleState) : Type 0 where
  pub finds : Finds v found
  pub names : IsNamed found heads mark

-- what a boot meets: the first one that is up, or a later one
abbrev pub Meets : Bool → VehicleState → List PlanHead → Mark → VehicleState → Type 0
Meets false v heads mark found = BeginsWith v heads mark found
Meets true v heads mark found = GoesOnWith v heads mark found

-- a boot is up. Boots are numbered from 1
pub record Boots (v : VehicleState) (number : ℕ) (heads : List PlanHead) (mark : Mark) (v' : VehicleState) : Type 0 where
  pub next : number ≡ v.boots + 1
  pub found : VehicleState
  pub meets : Meets v.is_up v heads mark found
  pub after : v' ≡ booted found number

-- a boot was cut before it was up: it counts, and changes nothing else
pub record IsCut (v : VehicleState) (number : ℕ) (v' : VehicleState) : Type 0 where
  pub next : number ≡ v.boots + 1
  pub after : v' ≡ record v { boots = number }
