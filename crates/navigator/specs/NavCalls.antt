-- What is done to the abstract Navigator beside its events, and any run of what happens to it and to the board beside it.
use Rattle.std.specs.Prelude.{◌≡◌, ℕ, List, ◌∷◌, length, Option, Some, None, if◌then◌else◌}
use Rattle.mission_model.specs.declared.plan.PlanHead.{PlanHead}
use Rattle.mission_model.specs.declared.plan.PlanType.{PlanType}
use Rattle.mission_model.specs.declared.plan.PlanType.TheVariants.{Mission, Fence, Safe}
use Rattle.mission_model.specs.declared.request.Asked.{Asked}
use Rattle.mission_model.specs.declared.request.Asked.TheVariants as about
use Rattle.mission_model.specs.declared.request.Client.TheVariants.{Nav}
use Rattle.mission_model.specs.declared.request.Reply.{Reply}
use Rattle.mission_model.specs.declared.vehicle.NavEntry.{NavEntry}
use Rattle.mission_model.specs.declared.vehicle.VehicleLine.{VehicleLine}
use Rattle.mission_model.specs.PlanTypes.{head_of}
use Rattle.request_board.specs.BoardState.{BoardState, posted, open_asks}
use Rattle.request_board.specs.BoardCalls.{heard}
use Rattle.client_cache.specs.CacheState.{has_id, got}
use Rattle.client_cache.specs.Moves.{moved}
use Rattle.navigator.specs.Standing.{mark_answered}
use Rattle.navigator.specs.NavState.{NavTaken, cache_of, with_cache}
use Rattle.navigator.specs.Meeting.{is_new, is_done, still_owed}
use Rattle.navigator.specs.EventLaw.{EventLaw}

-- a reply to a read is taken by the cache that it is of, and one to a mark of the adopted mission by the standing marks
abbrev pub reply_taken : NavTaken → Asked → Reply → NavTaken
reply_taken v (about.Read kind id seq) given = record v {
  mission = record v.mission { cache = got v.mission.cache (about.Read kind id seq) given };
  fence = record v.fence { cache = got v.fence.cache (about.Read kind id seq) given };
  safe = record v.safe { cache = got v.safe.cache (about.Read kind id seq) given };
}
reply_taken v (about.SetMark mark) given = if has_id v.mission.cache.head mark.id then record v { flight = record v.flight { marks = mark_answered v.flight.marks (is_done given) } } else v
reply_taken v (about.Write kind id seq) given = v
reply_taken v (about.Commit kind id count) given = v

-- the drop that is owed beside these published heads
abbrev pub drop_now : NavTaken → List PlanHead → Option (PlanType × ℕ)
drop_now v heads = still_owed v.owed (is_new v.mission.cache (head_of heads Mission)) (is_new v.fence.cache (head_of heads Fence)) (is_new v.safe.cache (head_of heads Safe))

-- the window of a type begins at this seq from now on, and no drop is owed
abbrev pub drop_taken : NavTaken → PlanType → ℕ → NavTaken
drop_taken v kind seq = record (with_cache kind (moved (cache_of kind v) seq (length (cache_of kind v).known)) v) { owed = None }

-- what happens to the Navigator and to the board beside it: an event of the vehicle with its entry; the Navigator takes its
-- first reply; a window is moved; others call the board
pub data NavCall : Type 0 where
  Happens : VehicleLine → NavEntry → NavCall
  Hears : Asked → Reply → NavCall
  Drops : PlanType → ℕ → NavCall
  Others : NavCall

-- the first reply is taken from the board
pub record HearsFirst (v : NavTaken) (b : BoardState) (asked : Asked) (given : Reply) (v' : NavTaken) (b' : BoardState) : Type 0 where
  pub rest : List (Asked × Reply)
  pub first : posted b Nav ≡ (asked, given) ∷ rest
  pub board : b' ≡ heard b Nav rest
  pub nav : v' ≡ reply_taken v asked given

-- the drop that is owed is paid
pub record DropsOwed (v : NavTaken) (b : BoardState) (kind : PlanType) (seq : ℕ) (v' : NavTaken) (b' : BoardState) : Type 0 where
  pub owed : drop_now v b.published ≡ Some (kind, seq)
  pub board : b' ≡ b
  pub nav : v' ≡ drop_taken v kind seq

-- one of these happens. What others do leaves the Navigator's outstanding requests
abbrev pub Does : NavTaken → BoardState → NavCall → NavTaken → BoardState → Type 0
Does v b (Happens line entry) v' b' = EventLaw v b line entry v' b'
Does v b (Hears asked given) v' b' = HearsFirst v b asked given v' b'
Does v b (Drops kind seq) v' b' = DropsOwed v b kind seq v' b'
Does v b Others v' b' = (v' ≡ v) × (open_asks b' Nav ≡ open_asks b Nav)

-- the Navigator does this itself
abbrev pub IsOwn : NavCall → Type 0
IsOwn (Happens line entry) = Unit {0}
IsOwn (Hears asked given) = Unit {0}
IsOwn (Drops kind seq) = Unit {0}
IsOwn Others = ⊥
