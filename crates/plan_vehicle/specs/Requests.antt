-- The lines of the worker: it takes one request after another, and serves it. A plan changes here and at boots alone.
use Rattle.std.specs.Prelude.{◌≡◌, ◌≢◌, ℕ, ◌<◌, ◌==◌, Bool, true, false, List, [], ◌∷◌, ◌++◌, length, Option, Some, None, find, Contains, ◌⊎◌}
use Rattle.mission_model.specs.declared.limits.TheConstants.{LAST_GENERATION}
use Rattle.mission_model.specs.declared.plan.PlanType.{PlanType}
use Rattle.mission_model.specs.declared.plan.PlanType.TheVariants.{Mission, Fence, Safe}
use Rattle.mission_model.specs.declared.plan.Item.{Item}
use Rattle.mission_model.specs.declared.request.Client.{Client}
use Rattle.mission_model.specs.declared.request.Client.TheVariants as client
use Rattle.mission_model.specs.declared.request.Asked.{Asked}
use Rattle.mission_model.specs.declared.request.Asked.TheVariants as about
use Rattle.mission_model.specs.declared.request.Reply.{Reply}
use Rattle.mission_model.specs.declared.request.Reply.TheVariants as reply
use Rattle.mission_model.specs.PlanCode.{PlanValid}
use Rattle.mission_model.specs.PlainMark.{plain_mark}
use Rattle.plan_vehicle.specs.PlanState.{told, told_at, CanBe, with_told}
use Rattle.plan_vehicle.specs.Drafts.{put_by, draft_of}
use Rattle.plan_vehicle.specs.VehicleState.{VehicleState, ServedState, plan_of, with_plan}

-- a mark that is asked is one of a place where the vehicle was in this boot
abbrev pub WasPassed : VehicleState → Asked → Type 0
WasPassed v (about.SetMark mark) = Contains v.passed (plain_mark mark)
WasPassed v asked = Unit {0}

-- the worker takes a request while none is in service
pub record Takes (v : VehicleState) (client : Client) (asked : Asked) (v' : VehicleState) : Type 0 where
  pub up : v.is_up ≡ true
  pub free : v.service ≡ None
  pub passed : WasPassed v asked
  pub after : v' ≡ record v { service = Some (client, asked) }

-- the vehicle with an item of the plan of a type told
abbrev pub with_item_told : VehicleState → PlanType → ℕ → Item → VehicleState
with_item_told v Mission seq item = record v { mission = with_told v.mission seq item }
with_item_told v Fence seq item = record v { fence = with_told v.fence seq item }
with_item_told v Safe seq item = record v { safe = with_told v.safe seq item }

-- a read gives the item of the plan in force, or tells an item that was untold
pub record Reads (v : VehicleState) (kind : PlanType) (id seq : ℕ) (item : Item) (v' : VehicleState) : Type 0 where
  pub in_force : id ≡ (plan_of v kind).id
  pub within : seq < length (plan_of v kind).items
  pub item_is : CanBe (told_at (plan_of v kind) seq) item
  pub after : v' ≡ with_item_told v kind seq item

-- a read or a mark of a plan that is not in force is told the one that is
pub record IsStale (v : VehicleState) (kind : PlanType) (id now : ℕ) (v' : VehicleState) : Type 0 where
  pub in_force : now ≡ (plan_of v kind).id
  pub other : id ≢ now
  pub after : v' ≡ v

-- what can be committed: a draft that is whole and valid, of a higher id than the plan in force
pub record CanCommit (v : VehicleState) (kind : PlanType) (id count : ℕ) : Type 0 where
  pub higher : (plan_of v kind).id < id
  pub whole : length (draft_of v.drafts kind id) ≡ count
  pub valid : PlanValid kind (draft_of v.drafts kind id)

-- what can be done that changes a plan or the mark: such a commit, or a mark of the mission in force
abbrev pub CanBeDone : VehicleState → Asked → Type 0
CanBeDone v (about.Commit kind id count) = CanCommit v kind id count
CanBeDone v (about.SetMark mark) = mark.id ≡ v.mission.id
CanBeDone v asked = ⊥

-- the vehicle at the first item of a new mission; whatever the new plan is, a return is dropped
abbrev pub begun_anew : VehicleState → PlanType → VehicleState
begun_anew v Mission = record v { index = 0; counts = []; at_leg = false; wanted = None; way = None }
begun_anew v Fence = record v { way = None }
begun_anew v Safe = record v { way = None }

-- the vehicle with the draft of this type and id in force
abbrev pub committed : VehicleState → PlanType → ℕ → VehicleState
committed v kind id = begun_anew (with_plan v kind (told id (draft_of v.drafts kind id))) kind

-- what failed may have been done where it could be done at all; else it changes nothing
abbrev pub Fails : VehicleState → Asked → VehicleState → Type 0
Fails v asked v' = (CanBeDone v asked × (v' ≡ record v { maybe = v.maybe ++ asked ∷ [] })) ⊎ ((CanBeDone v asked → ⊥) × (v' ≡ v))

-- a commit or a mark for which the store has no generation left changes nothing
abbrev pub IsSpent : VehicleState → ℕ → VehicleState → Type 0
IsSpent v generation v' = (generation ≡ LAST_GENERATION) × (v' ≡ v)

-- what a service does by its reply
abbrev pub Replies : VehicleState → Asked → Reply → VehicleState → Type 0
Replies v (about.Read kind id seq) (reply.Item item) v' = Reads v kind id seq item v'
Replies v (about.Read kind id seq) (reply.Stale now) v' = IsStale v kind id now v'
Replies v (about.Write kind id seq) reply.Done v' = v' ≡ v
Replies v (about.Commit kind id count) reply.Done v' = CanCommit v kind id count × (v' ≡ committed v kind id)
Replies v (about.Commit kind id count) (reply.Spent generation) v' = IsSpent v generation v'
Replies v (about.SetMark mark) reply.Done v' = (mark.id ≡ v.mission.id) × (v' ≡ record v { mark = plain_mark mark })
Replies v (about.SetMark mark) (reply.Stale now) v' = IsStale v Mission mark.id now v'
Replies v (about.SetMark mark) (reply.Spent generation) v' = IsSpent v generation v'
Replies v asked reply.DiskFailed v' = Fails v asked v'
Replies v asked reply.PowerOff v' = Fails v asked v'
Replies v asked given v' = ⊥

-- the request is this link's
abbrev pub is_of_link : ℕ → ServedState → Bool
is_of_link link last = last.link == link

-- the request and its reply
abbrev pub reply_of : ServedState → Asked × Reply
reply_of last = (last.asked, last.reply)

-- of each link the request that was served last, after this one
abbrev pub with_served : List ServedState → Client → Asked → Reply → List ServedState
with_served served (client.Link link) asked reply = put_by (is_of_link link) (record { link = link; asked = asked; reply = reply }) served
with_served served other asked reply = served

-- the request of the link that was served last
abbrev pub last_served : List ServedState → ℕ → Option ServedState
last_served served link = find (is_of_link link) served

-- any reply of a store that works settles what may have been done: nothing of it was
abbrev pub still_maybe : List Asked → Reply → List Asked
still_maybe maybe reply.DiskFailed = maybe
still_maybe maybe reply.PowerOff = maybe
still_maybe maybe other = []

-- no request is in service any more: this one was served with this reply
abbrev pub ended : VehicleState → Client → Asked → Reply → VehicleState
ended v client asked given = record v { service = None; served = with_served v.served client asked given; maybe = still_maybe v.maybe given }

-- the request in service is served: its client has this reply
pub record Serves (v : VehicleState) (client : Client) (given : Reply) (v' : VehicleState) : Type 0 where
  pub asked : Asked
  pub in_service : v.service ≡ Some (client, asked)
  pub replies : Replies (ended v client asked given) asked given v'
