-- What a judge stands for, and what its calls say.
use Rattle.std.specs.Prelude.{◌≡◌, ℕ, ◌<◌, ◌≤◌, List, [], ◌∷◌, ◌++◌, Option, length, take}
use Rattle.std.specs.List.{list_any, position_from}
use Rattle.std.specs.Option.{ForSome}
use Rattle.mission_model.specs.declared.limits.TheConstants.{MAX_JUMPS}
use Rattle.mission_model.specs.declared.plan.Home.{Home}
use Rattle.mission_model.specs.declared.plan.Item.{Item}
use Rattle.mission_model.specs.declared.plan.Params.{Params}
use Rattle.mission_model.specs.declared.plan.PlanType.TheVariants.{Mission}
use Rattle.mission_model.specs.Command.{has_position}
use Rattle.mission_model.specs.Feasible.{first_place, is_takeoff, breaks_takeoff_first, breaks_takeoff_height, breaks_allowed, breaks_greatest_height, breaks_home_set}
use Rattle.mission_model.specs.Landing.{is_landing, is_land_start, landing_of}
use Rattle.mission_model.specs.PlanCode.{PlanValid}
use Rattle.feasibility.specs.declared.faults.Faults.{Faults}
use Rattle.feasibility.specs.declared.seen.Seen.{Seen}
use Rattle.feasibility.specs.declared.land_starts.LandStarts.{LandStarts}
use Rattle.feasibility.specs.declared.judge.Judge.{Judge}
use Rattle.feasibility.specs.declared.judge.Verdict.{Verdict}
use Rattle.feasibility.specs.SoFar.{is_second_land_start, jumps_from, most_loiters, stuck_from, last_loiter_from}
use Rattle.feasibility.specs.Verdicts.{verdict_of, landing_by}

-- these are the sorts of items that the items have
pub record SeenIn (seen : Seen) (items : List Item) : Type 0 where
  pub positions : seen.position ≡ list_any has_position items
  pub takeoffs : seen.takeoff ≡ list_any is_takeoff items
  pub landings : seen.landing ≡ list_any is_landing items

-- these are the first of the items that break the rules on single items
pub record FaultsIn (faults : Faults) (params : Params) (home : Option Home) (fence : List Item) (items : List Item) : Type 0 where
  pub takeoff_first : faults.takeoff_first ≡ first_place breaks_takeoff_first items
  pub takeoff_height : faults.takeoff_height ≡ first_place (breaks_takeoff_height params home) items
  pub allowed : faults.allowed ≡ first_place (breaks_allowed fence) items
  pub greatest_height : faults.greatest_height ≡ first_place (breaks_greatest_height params home) items
  pub home_set : faults.home_set ≡ first_place (breaks_home_set home) items

-- these are the land starts of the items, and the landing of the first one
pub record LandStartsIn (starts : LandStarts) (items : List Item) : Type 0 where
  pub first : starts.first ≡ position_from is_land_start 0 items
  pub second : starts.second ≡ first_place is_second_land_start items
  pub landing : starts.landing ≡ landing_of items

-- what the judge keeps of these items, which it was shown, of a mission of this many that is judged by these parameters,
-- this home and this fence: of the loiters only as many as jumps could let out, and one more
pub record Shown (judge : Judge) (params : Params) (home : Option Home) (fence : List Item) (count : ℕ) (items : List Item) : Type 0 where
  pub same_params : judge.params ≡ params
  pub same_home : judge.home ≡ home
  pub same_fence : judge.fence ≡ fence
  pub same_count : judge.count ≡ count
  pub fed : judge.fed ≡ length items
  pub within : length items ≤ count
  pub seen : SeenIn judge.seen items
  pub faults : FaultsIn judge.faults params home fence items
  pub land_starts : LandStartsIn judge.land_starts items
  pub jumps : judge.jumps.list.items ≡ jumps_from 0 items
  pub few_jumps : length (jumps_from 0 items) ≤ MAX_JUMPS
  pub loiters : judge.loiters.list.items ≡ take most_loiters (stuck_from 0 items)
  pub last_loiter : judge.loiters.last ≡ last_loiter_from 0 items

-- the judge was shown these items, of a mission of this many that is judged by these parameters, this home and this fence,
-- and keeps the verdict on them
pub record Judged (judge : Judge) (params : Params) (home : Option Home) (fence : List Item) (count : ℕ) (items : List Item) : Type 0 where
  pub shown : Shown judge params home fence count items
  pub verdict : judge.verdict ≡ verdict_of params home fence count items

-- the judge may be shown this item: fewer items were shown than the mission has, and with this one they begin some valid
-- mission
pub record CanFeed (judge : Judge) (item : Item) : Type 0 where
  pub params : Params
  pub home : Option Home
  pub fence : List Item
  pub count : ℕ
  pub items : List Item
  pub rest : List Item
  pub judged : Judged judge params home fence count items
  pub room : length items < count
  pub valid : PlanValid Mission (items ++ item ∷ rest)

-- the new judge was shown this item after whatever items the old one was shown
abbrev pub JoinsItem : Judge → Item → Judge → Type 0
JoinsItem old item new = (params : Params) (home : Option Home) (fence : List Item) (count : ℕ) (items : List Item) → Judged old params home fence count items → Judged new params home fence count (items ++ item ∷ [])

-- the new judge keeps this item after whatever items the old one keeps
abbrev pub TakesItem : Judge → Item → Judge → Type 0
TakesItem old item new = (params : Params) (home : Option Home) (fence : List Item) (count : ℕ) (items : List Item) → Shown old params home fence count items → Shown new params home fence count (items ++ item ∷ [])

-- the answer is the verdict on whatever items the judge keeps
abbrev pub FindsVerdict : Judge → Option Verdict → Type 0
FindsVerdict judge answer = (params : Params) (home : Option Home) (fence : List Item) (count : ℕ) (items : List Item) → Shown judge params home fence count items → answer ≡ verdict_of params home fence count items

-- the answer is the verdict on whatever items the judge was shown
abbrev pub TellsVerdict : Judge → Option Verdict → Type 0
TellsVerdict judge answer = (params : Params) (home : Option Home) (fence : List Item) (count : ℕ) (items : List Item) → Judged judge params home fence count items → answer ≡ verdict_of params home fence count items

-- the answer is the landing of whatever items the judge was shown, where the verdict allows one
abbrev pub TellsLanding : Judge → Option (ℕ × ℕ) → Type 0
TellsLanding judge answer = (params : Params) (home : Option Home) (fence : List Item) (count : ℕ) (items : List Item) → Judged judge params home fence count items → answer ≡ landing_by (verdict_of params home fence count items) items

-- the landing stands behind its land start, and both are items of the mission
abbrev pub LandsInOrder : Judge → Option (ℕ × ℕ) → Type 0
LandsInOrder judge answer = (params : Params) (home : Option Home) (fence : List Item) (count : ℕ) (items : List Item) → Judged judge params home fence count items → ForSome answer (λ found. (found.0 < found.1) × (found.1 < count))
