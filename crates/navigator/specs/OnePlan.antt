-- One plan for each type and id: boards that publish these plans, replies that bring their items, and a Navigator that has
-- taken beginnings of them.
use Rattle.std.specs.Prelude.{◌≡◌, ℕ, List, [], ◌∷◌, length, Some, slice_get}
use Rattle.mission_model.specs.declared.plan.Item.{Item}
use Rattle.mission_model.specs.declared.plan.PlanHead.{PlanHead}
use Rattle.mission_model.specs.declared.plan.PlanType.{PlanType}
use Rattle.mission_model.specs.declared.plan.PlanType.TheVariants.{Mission, Fence, Safe}
use Rattle.mission_model.specs.declared.request.Asked.{Asked}
use Rattle.mission_model.specs.declared.request.Asked.TheVariants as about
use Rattle.mission_model.specs.declared.request.Reply.{Reply}
use Rattle.mission_model.specs.declared.request.Reply.TheVariants as reply
use Rattle.mission_model.specs.PlanTypes.{head_of}
use Rattle.request_board.specs.BoardState.{BoardState}
use Rattle.client_cache.specs.CacheState.{id_of, count_of}
use Rattle.client_cache.specs.Knowing.{Knows}
use Rattle.navigator.specs.Taking.{PlanTaken}
use Rattle.navigator.specs.Begins.{Begins}
use Rattle.mission_model.specs.declared.vehicle.NavEntry.{NavEntry}
use Rattle.mission_model.specs.declared.vehicle.VehicleLine.{VehicleLine}
use Rattle.navigator.specs.NavState.{NavTaken}
use Rattle.navigator.specs.OnMission.{plans_taken}
use Rattle.navigator.specs.OnReturn.{return_taken}
use Rattle.navigator.specs.EventLaw.{EventLaw, index_met}
use Rattle.navigator.specs.NavCalls.{NavCall, Happens, Hears, Drops, Others, Does}

-- the items of the plan of each type and id
abbrev pub Plans : Type 0
Plans = PlanType → ℕ → List Item

-- the published heads are those of these plans
abbrev pub Publishes : Plans → List PlanHead → Type 0
Publishes plans heads = (kind : PlanType) → (head_of heads kind).count ≡ length (plans kind (head_of heads kind).id)

-- an item that the reply to a read brings is the plan's at its seq
abbrev pub BringsItem : Plans → PlanType → ℕ → ℕ → Reply → Type 0
BringsItem plans kind id seq (reply.Item item) = slice_get (plans kind id) seq ≡ Some item
BringsItem plans kind id seq other = Unit {0}

abbrev pub BringsOf : Plans → Asked → Reply → Type 0
BringsOf plans (about.Read kind id seq) given = BringsItem plans kind id seq given
BringsOf plans other given = Unit {0}

-- the plan of the adopted id
abbrev pub plan_in : (ℕ → List Item) → PlanTaken → List Item
plan_in plans p = plans (id_of p.cache.head)

-- of a type the adopted count is that of its plan, what is known is the plan's, and what was taken is a beginning of it
pub record FromPlan (plans : ℕ → List Item) (p : PlanTaken) : Type 0 where
  pub count : count_of p.cache.head ≡ length (plan_in plans p)
  pub knows : Knows p.cache (plan_in plans p)
  pub begins : Begins p.taken (plan_in plans p)

-- so it is of each type
pub record FromPlans (plans : Plans) (v : NavTaken) : Type 0 where
  pub mission : FromPlan (plans Mission) v.mission
  pub fence : FromPlan (plans Fence) v.fence
  pub safe : FromPlan (plans Safe) v.safe

-- the board of an event publishes these plans, and a reply is of these plans
abbrev pub OfPlans : Plans → BoardState → NavCall → Type 0
OfPlans plans b (Happens line entry) = Publishes plans b.published
OfPlans plans b (Hears asked given) = BringsOf plans asked given
OfPlans plans b (Drops kind seq) = Unit {0}
OfPlans plans b Others = Unit {0}

-- all of this happens, one behind another, over these plans
abbrev pub DoesAll : Plans → NavTaken → BoardState → List NavCall → NavTaken → BoardState → Type 0
DoesAll plans v b [] v' b' = (v' ≡ v) × (b' ≡ b)
DoesAll plans v b (call ∷ calls) v' b' = (mid : NavTaken) × (board : BoardState) × OfPlans plans b call × Does v b call mid board × DoesAll plans mid board calls v' b'

-- the stages of an event: what it has met, what it acts from, and what the line left are of these plans
pub record TakenOf (plans : Plans) (v : NavTaken) (b : BoardState) (line : VehicleLine) (entry : NavEntry) (v' : NavTaken) (b' : BoardState) (e : EventLaw v b line entry v' b') : Type 0 where
  pub met : FromPlans plans e.met
  pub entered : FromPlans plans (index_met e.met b.index)
  pub taken : FromPlans plans (plans_taken (index_met e.met b.index))
  pub for_return : FromPlans plans (return_taken (index_met e.met b.index))
  pub mid : FromPlans plans e.mid
  pub last : FromPlans plans v'
