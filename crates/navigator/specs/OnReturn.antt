-- A look in mode Return: the return is chosen once all is taken that the choice needs, and then its present target is shown.
use Rattle.std.specs.Prelude.{◌≡◌, ℕ, ◌<◌, ◌==◌, Bool, List, Option, Some, None, IsSome, slice_get, if◌then◌else◌}
use Rattle.mission_model.specs.declared.plan.Home.{Home}
use Rattle.mission_model.specs.declared.plan.Item.{Item}
use Rattle.mission_model.specs.declared.plan.PlanType.{PlanType}
use Rattle.mission_model.specs.declared.plan.PlanType.TheVariants.{Mission, Fence, Safe}
use Rattle.mission_model.specs.declared.vehicle.Look.TheVariants.{Here, Pending}
use Rattle.mission_model.specs.declared.vehicle.NavWhat.{NavWhat}
use Rattle.mission_model.specs.declared.vehicle.NavWhat.TheVariants as what
use Rattle.mission_model.specs.Returns.{ReturnList}
use Rattle.request_board.specs.BoardState.{BoardState}
use Rattle.client_cache.specs.CacheState.{id_of}
use Rattle.client_cache.specs.Wants.{looked, Asks}
use Rattle.return_mode.specs.declared.plan.ReturnOut.{ReturnOut}
use Rattle.return_mode.specs.declared.plan.ReturnOut.TheVariants as out
use Rattle.return_mode.specs.ReturnState.{ReturnState, begun, seq_of, out_of, after_out}
use Rattle.return_mode.specs.There.{Places}
use Rattle.navigator.specs.Taking.{PlanTaken, taking}
use Rattle.navigator.specs.Judging.{no_uses, is_whole, lacking, or_else, first_lacking}
use Rattle.navigator.specs.NavState.{NavState, NavTaken, with_taken, HasShown, with_cache}
use Rattle.navigator.specs.OnMission.{WaitsFor, plans_taken, found_at, looked_up, mission_id, fence_id}

-- the entry that shows a target: an item of the mission with the item, the home that is set, a safe point that was taken, or
-- that there is none or none left
abbrev pub IsEntry : ReturnOut → Option Item → NavTaken → NavWhat → Type 0
IsEntry (out.Leg seq) (Some item) v given = given ≡ what.ReturnLeg seq (mission_id v) (fence_id v) item
IsEntry (out.Skip seq) item v given = given ≡ what.ReturnSkip seq (mission_id v) (fence_id v)
IsEntry out.Home item v given = (home : Home) × (v.home ≡ Some home) × (given ≡ what.ReturnHome home)
IsEntry (out.Safe seq) item v given = (point : Item) × (slice_get v.safe.taken seq ≡ Some point) × (given ≡ what.ReturnSafe seq (id_of v.safe.cache.head) (fence_id v) point)
IsEntry out.None item v given = given ≡ what.ReturnNone
IsEntry out.Done item v given = given ≡ what.ReturnDone
IsEntry other item v given = ⊥

-- a target that is an item of the mission is shown, once it was looked at
pub record ShowsFound (item : Item) (seq : ℕ) (r : ReturnState) (v : NavTaken) (b : BoardState) (given : NavWhat) (v' : NavTaken) (b' : BoardState) (r' : ReturnState) : Type 0 where
  pub shows : IsEntry (out_of r (Here item)) (Some item) v given
  pub goes : r' ≡ after_out r (out_of r (Here item))
  pub asks : Asks v.mission.cache b (looked v.mission.cache b seq) v'.mission.cache b'
  pub rest : v' ≡ with_cache Mission v'.mission.cache v

abbrev pub ShowsIfFound : Option Item → ℕ → ReturnState → NavTaken → BoardState → NavWhat → NavTaken → BoardState → ReturnState → Type 0
ShowsIfFound None seq r v b given v' b' r' = WaitsFor Mission seq v b given v' b' × (r' ≡ r)
ShowsIfFound (Some item) seq r v b given v' b' r' = ShowsFound item seq r v b given v' b' r'

-- the present target is shown, an item of the mission only where it is found
abbrev pub ShowsAt : Option ℕ → ReturnState → NavTaken → BoardState → NavWhat → NavTaken → BoardState → ReturnState → Type 0
ShowsAt None r v b given v' b' r' = IsEntry (out_of r Pending) None v given × (r' ≡ after_out r (out_of r Pending)) × (v' ≡ v) × (b' ≡ b)
ShowsAt (Some seq) r v b given v' b' r' = ShowsIfFound (found_at v seq) seq r (looked_up v seq) b given v' b' r'

abbrev pub ShowsPresent : ReturnState → NavTaken → BoardState → NavWhat → NavTaken → BoardState → ReturnState → Type 0
ShowsPresent r v b given v' b' r' = ShowsAt (seq_of r) r v b given v' b' r'

-- fence and safe points once all was taken that can be: no safe point before the fence is whole
abbrev pub points_behind : Bool → PlanTaken → PlanTaken
points_behind whole p = if whole then taking no_uses p else p

abbrev pub points_taken : NavTaken → NavTaken
points_taken v = record v { fence = taking no_uses v.fence; safe = points_behind (is_whole (taking no_uses v.fence)) v.safe }

-- the plans that a choice looks at, by the type of the return: safe points for type 0, and else the mission
abbrev pub return_taken : NavTaken → NavTaken
return_taken v = if v.params.rtl_type == 0 then points_taken v else plans_taken v

-- the first item that the choice lacks
abbrev pub return_lacking : NavTaken → Option (PlanType × ℕ)
return_lacking v = if v.params.rtl_type == 0 then or_else (lacking Fence v.fence) (lacking Safe v.safe) else first_lacking v.fence v.mission

-- the return that is chosen
abbrev pub return_chosen : NavTaken → ReturnState
return_chosen v = begun (ReturnList v.params v.home v.position v.safe.taken v.mission.taken v.fence.taken v.flight.legs.index)

-- an event that ends pending keeps no choice
abbrev pub choice_kept : NavWhat → ReturnState → Option ReturnState
choice_kept (what.Pending kind seq) r = None
choice_kept given r = Some r

-- a return that was chosen before is gone along
pub record GoesAlong (r : ReturnState) (v : NavTaken) (b : BoardState) (given : NavWhat) (v' : NavTaken) (b' : BoardState) : Type 0 where
  pub mid : NavTaken
  pub r' : ReturnState
  pub shows : ShowsPresent r (record v { way = None }) b given mid b' r'
  pub rest : v' ≡ record mid { way = Some r' }

-- a return is chosen now
pub record SetsOut (v : NavTaken) (b : BoardState) (given : NavWhat) (v' : NavTaken) (b' : BoardState) : Type 0 where
  pub mid : NavTaken
  pub r' : ReturnState
  pub shows : ShowsPresent (return_chosen v) v b given mid b' r'
  pub rest : v' ≡ record mid { way = choice_kept given r' }

abbrev pub IfReturnLacking : Option (PlanType × ℕ) → NavTaken → BoardState → NavWhat → NavTaken → BoardState → Type 0
IfReturnLacking (Some (kind, seq)) v b given v' b' = WaitsFor kind seq v b given v' b'
IfReturnLacking None v b given v' b' = SetsOut v b given v' b'

abbrev pub ByChoice : Option ReturnState → NavTaken → BoardState → NavWhat → NavTaken → BoardState → Type 0
ByChoice (Some r) v b given v' b' = GoesAlong r v b given v' b'
ByChoice None v b given v' b' = IfReturnLacking (return_lacking (return_taken v)) (return_taken v) b given v' b'

abbrev pub LooksBack : NavTaken → BoardState → NavWhat → NavTaken → BoardState → Type 0
LooksBack v b given v' b' = ByChoice v.way v b given v' b'

-- the plans of a choice are taken on, and the answer is the first item that is lacking still
pub record TakesReturn (n : NavState) (items : List Item) (answer : Option (PlanType × ℕ)) (n' : NavState) : Type 0 where
  pub fed : HasShown n' (return_taken (with_taken n items)).mission.taken
  pub view : with_taken n' (return_taken (with_taken n items)).mission.taken ≡ return_taken (with_taken n items)
  pub answer_is : answer ≡ return_lacking (return_taken (with_taken n items))

-- what is shown of a target has an entry: a leg has its item, the home is set, the safe point was taken
abbrev pub HasEntry : Places → ReturnOut → Option Item → Type 0
HasEntry there (out.Leg seq) item = IsSome item
HasEntry there out.Home item = IsSome there.home
HasEntry there (out.Safe seq) item = seq < there.points
HasEntry there out.Pending item = ⊥
HasEntry there other item = Unit {0}
