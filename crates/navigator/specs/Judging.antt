-- What a verdict takes: the fence first, and then the mission, whose items are shown to the judge and are not kept.
use Rattle.std.specs.Prelude.{◌≡◌, ℕ, ◌<◌, ◌≤◌, ◌==◌, Bool, List, [], length, Option, Some, None, if◌then◌else◌}
use Rattle.mission_model.specs.declared.limits.TheConstants.{MAX_MISSION_ITEMS}
use Rattle.mission_model.specs.declared.plan.Home.{Home}
use Rattle.mission_model.specs.declared.plan.Item.{Item}
use Rattle.mission_model.specs.declared.plan.Params.{Params}
use Rattle.mission_model.specs.declared.plan.PlanType.{PlanType}
use Rattle.mission_model.specs.declared.plan.PlanType.TheVariants.{Mission, Fence}
use Rattle.mission_model.specs.declared.plan_check.PlanCheck.{PlanCheck}
use Rattle.mission_model.specs.PlanCheck.{Checked}
use Rattle.feasibility.specs.declared.judge.Judge.{Judge}
use Rattle.feasibility.specs.Judged.{Judged}
use Rattle.client_cache.specs.CacheState.{CacheState, count_of}
use Rattle.navigator.specs.Uses.{JumpUses}
use Rattle.navigator.specs.Taking.{PlanTaken, taking}

-- vertices and safe points go with any uses
abbrev pub no_uses : JumpUses
no_uses = record { boot = []; counts = [] }

-- what is known of the mission, and what keeps the place of its items: their check, and the judge that was shown them
pub record MissionTaken : Type 0 where
  pub cache : CacheState
  pub check : PlanCheck
  pub judge : Judge

-- these items were taken, and the judge was shown them; it judges by these parameters, this home and this fence
pub record ShownTo (m : MissionTaken) (params : Params) (home : Option Home) (fence items : List Item) : Type 0 where
  pub checked : Checked m.check Mission (count_of m.cache.head) items
  pub judged : Judged m.judge params home fence (count_of m.cache.head) items

-- so it is with some items, and the mission is within its limit
pub record WasShown (m : MissionTaken) : Type 0 where
  pub params : Params
  pub home : Option Home
  pub fence : List Item
  pub items : List Item
  pub taken : ShownTo m params home fence items
  pub within : count_of m.cache.head ≤ MAX_MISSION_ITEMS

-- no item of the plan is left to be taken
abbrev pub is_whole : PlanTaken → Bool
is_whole p = length p.taken == count_of p.cache.head

-- the mission once all was taken that can be: nothing before the fence is whole
abbrev pub mission_behind : Bool → JumpUses → PlanTaken → PlanTaken
mission_behind whole uses p = if whole then taking uses p else p

-- the first item that was not taken
abbrev pub lacking : PlanType → PlanTaken → Option (PlanType × ℕ)
lacking kind p = if is_whole p then None else Some (kind, length p.taken)

abbrev pub or_else : Option (PlanType × ℕ) → Option (PlanType × ℕ) → Option (PlanType × ℕ)
or_else (Some first) second = Some first
or_else None second = second

-- the first item that a verdict needs and that was not taken
abbrev pub first_lacking : PlanTaken → PlanTaken → Option (PlanType × ℕ)
first_lacking fence mission = or_else (lacking Fence fence) (lacking Mission mission)

-- these items of the mission were taken beside this fence: they were shown to a judge that has it, and none before it was whole
pub record FedBy (params : Params) (home : Option Home) (fence : PlanTaken) (mission : MissionTaken) (items : List Item) : Type 0 where
  pub whole : length fence.taken ≡ count_of fence.cache.head → ShownTo mission params home fence.taken items
  pub part : length fence.taken < count_of fence.cache.head → items ≡ []

-- the mission as a plan of which these items were taken
abbrev pub mission_plan : MissionTaken → List Item → PlanTaken
mission_plan m items = record { kind = Mission; cache = m.cache; taken = items }

-- the mission was taken on beside this fence, and the answer is the first item that is lacking still
pub record TakesOn (params : Params) (home : Option Home) (uses : JumpUses) (fence : PlanTaken) (mission : MissionTaken) (items : List Item) (answer : Option (PlanType × ℕ)) (mission' : MissionTaken) : Type 0 where
  pub cache : mission'.cache ≡ (mission_behind (is_whole fence) uses (mission_plan mission items)).cache
  pub fed : FedBy params home fence mission' (mission_behind (is_whole fence) uses (mission_plan mission items)).taken
  pub answer_is : answer ≡ first_lacking fence (mission_behind (is_whole fence) uses (mission_plan mission items))
