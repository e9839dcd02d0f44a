-- What an event does beside its look: heads are met, an index is taken, the mark is asked; and what a reply and a drop do.
use Rattle.std.specs.Prelude.{◌≡◌, ◌≢◌, ℕ, ◌+◌, ◌<◌, ◌≤◌, ◌||◌, ◌⊎◌, Bool, true, false, not, List, [], ◌∷◌, ◌++◌, length, Option, Some, None, if◌then◌else◌}
use Rattle.mission_model.specs.declared.counts.Mark.{Mark}
use Rattle.mission_model.specs.declared.plan.Item.{Item}
use Rattle.mission_model.specs.declared.plan.PlanHead.{PlanHead}
use Rattle.mission_model.specs.declared.plan.PlanType.{PlanType}
use Rattle.mission_model.specs.declared.plan.PlanType.TheVariants.{Mission, Fence, Safe}
use Rattle.mission_model.specs.declared.request.Asked.{Asked}
use Rattle.mission_model.specs.declared.request.Asked.TheVariants as about
use Rattle.mission_model.specs.declared.request.Client.TheVariants.{Nav}
use Rattle.mission_model.specs.declared.request.Reply.{Reply}
use Rattle.mission_model.specs.declared.request.Reply.TheVariants as reply
use Rattle.mission_model.specs.declared.request.Request.TheVariants as request
use Rattle.mission_model.specs.PlainMark.{PlainMark, plain_mark}
use Rattle.mission_model.specs.PlanTypes.{head_of}
use Rattle.request_board.specs.BoardState.{BoardState, outstanding, limit}
use Rattle.request_board.specs.BoardCalls.{asked}
use Rattle.client_cache.specs.CacheState.{CacheState, has_id, got}
use Rattle.client_cache.specs.Moves.{moved}
use Rattle.leg_machine.specs.MachineState.{made, set_to}
use Rattle.return_mode.specs.ReturnState.{ReturnState}
use Rattle.navigator.specs.Standing.{last_standing, mark_answered}
use Rattle.navigator.specs.Taking.{plan_met}
use Rattle.navigator.specs.NavState.{FlightState, NavState, NavTaken, with_taken, HasShown, own_cache, with_own_cache}

-- another plan is published than the adopted one
abbrev pub is_new : CacheState → PlanHead → Bool
is_new c head = not (has_id c.head head.id)

-- a new mission is flown from its first item with no counts, and counts as marked there
abbrev pub FlightMet : Bool → PlanHead → FlightState → FlightState → Type 0
FlightMet false head old new = new ≡ old
FlightMet true head old new = (new.legs ≡ made head.count 0 []) × (new.boot ≡ []) × (plain_mark new.marks.stood ≡ record { id = head.id; index = 0; pairs = [] }) × (new.marks.asked ≡ [])

-- a drop is owed no longer once its type has a new head
abbrev pub still_owed : Option (PlanType × ℕ) → Bool → Bool → Bool → Option (PlanType × ℕ)
still_owed None mission fence safe = None
still_owed (Some (Mission, seq)) mission fence safe = if mission then None else Some (Mission, seq)
still_owed (Some (Fence, seq)) mission fence safe = if fence then None else Some (Fence, seq)
still_owed (Some (Safe, seq)) mission fence safe = if safe then None else Some (Safe, seq)

-- any new head drops a chosen return
abbrev pub way_after : Bool → Option ReturnState → Option ReturnState
way_after true way = None
way_after false way = way

-- a new mission and a new fence each begin both plans anew; only new safe points begin the safe points anew
abbrev pub plans_met : NavTaken → PlanHead → PlanHead → PlanHead → Bool → Bool → Bool → FlightState → NavTaken
plans_met v m f s new_m new_f new_s flight = record v {
  mission = plan_met v.mission m (new_m || new_f);
  fence = plan_met v.fence f (new_m || new_f);
  safe = plan_met v.safe s new_s;
  flight = flight;
  owed = still_owed v.owed new_m new_f new_s;
  way = way_after (new_m || new_f || new_s) v.way;
}

-- the published heads are met
pub record PlansMet (v : NavTaken) (heads : List PlanHead) (v' : NavTaken) : Type 0 where
  pub flight : FlightMet (is_new v.mission.cache (head_of heads Mission)) (head_of heads Mission) v.flight v'.flight
  pub rest : v' ≡ plans_met v (head_of heads Mission) (head_of heads Fence) (head_of heads Safe) (is_new v.mission.cache (head_of heads Mission)) (is_new v.fence.cache (head_of heads Fence)) (is_new v.safe.cache (head_of heads Safe)) v'.flight

-- of the mission's items those that were taken stay so, or none
abbrev pub taken_still : Bool → List Item → List Item
taken_still anew items = if anew then [] else items

abbrev pub begins_anew : NavState → List PlanHead → Bool
begins_anew n heads = is_new n.mission.cache (head_of heads Mission) || is_new n.fence.cache (head_of heads Fence)

pub record HeadsMet (n : NavState) (items : List Item) (heads : List PlanHead) (n' : NavState) : Type 0 where
  pub fed : HasShown n' (taken_still (begins_anew n heads) items)
  pub law : PlansMet (with_taken n items) heads (with_taken n' (taken_still (begins_anew n heads) items))

-- an index that was asked for the adopted mission is set, and any other is dropped
abbrev pub index_taken : NavState → Option (ℕ × ℕ) → NavState
index_taken n None = n
index_taken n (Some (id, seq)) = if has_id n.mission.cache.head id then record n { flight = record n.flight { legs = set_to n.flight.legs seq } } else n

-- the mark of the place where the flight is, in the mission of this id
abbrev pub place_of : ℕ → FlightState → PlainMark
place_of id f = record { id = id; index = f.legs.index; pairs = f.legs.pairs }

-- no mark is asked: the last standing one is that of the place, or no request may be added
pub record MarkRests (id : ℕ) (f : FlightState) (b : BoardState) (f' : FlightState) (b' : BoardState) : Type 0 where
  pub cause : (plain_mark (last_standing f.marks) ≡ place_of id f) ⊎ (limit Nav ≤ outstanding b Nav)
  pub flight : f' ≡ f
  pub board : b' ≡ b

-- while there is room the mark of the place is asked, which is not the last standing one by id, index and pairs; it stands from now on
pub record MarkAsked (id : ℕ) (f : FlightState) (b : BoardState) (f' : FlightState) (b' : BoardState) : Type 0 where
  pub mark : Mark
  pub room : outstanding b Nav < limit Nav
  pub place : plain_mark mark ≡ place_of id f
  pub other : plain_mark (last_standing f.marks) ≢ place_of id f
  pub flight : f' ≡ record f { marks = record f.marks { asked = f.marks.asked ++ mark ∷ [] } }
  pub board : b' ≡ asked b Nav (request.SetMark mark)
  pub outstanding : outstanding b' Nav ≡ outstanding b Nav + 1

abbrev pub AsksMark : ℕ → FlightState → BoardState → FlightState → BoardState → Type 0
AsksMark id f b f' b' = MarkRests id f b f' b' ⊎ MarkAsked id f b f' b'

abbrev pub is_done : Reply → Bool
is_done reply.Done = true
is_done other = false

-- a reply to a read is taken by the cache that it is of, and one to a mark of the adopted mission by the standing marks
abbrev pub after_reply : NavState → Asked → Reply → NavState
after_reply n (about.Read kind id seq) given = record n {
  mission = record n.mission { cache = got n.mission.cache (about.Read kind id seq) given };
  fence = record n.fence { cache = got n.fence.cache (about.Read kind id seq) given };
  safe = record n.safe { cache = got n.safe.cache (about.Read kind id seq) given };
}
after_reply n (about.SetMark mark) given = if has_id n.mission.cache.head mark.id then record n { flight = record n.flight { marks = mark_answered n.flight.marks (is_done given) } } else n
after_reply n other given = n

-- the drop that is owed beside these published heads
abbrev pub drop_owed : NavState → List PlanHead → Option (PlanType × ℕ)
drop_owed n heads = still_owed n.owed (is_new n.mission.cache (head_of heads Mission)) (is_new n.fence.cache (head_of heads Fence)) (is_new n.safe.cache (head_of heads Safe))

-- the window of this type begins at this seq from now on, and no drop is owed
abbrev pub after_drop : NavState → PlanType × ℕ → NavState
after_drop n (kind, seq) = record (with_own_cache kind (moved (own_cache kind n) seq (length (own_cache kind n).known)) n) { owed = None }
