-- What ties the core and the store to the abstract vehicle. Each part names only what it reads, so that a step which
-- leaves that alone hands the part on as it is.
use Rattle.std.specs.Prelude.{◌≡◌, ℕ, ◌+◌, ◌<◌, ◌≤◌, Bool, false, List, [], ◌∷◌, length, take, Some, None, option_map, slice_get, slice_index_or}
use Rattle.std.specs.List.{All}
use Rattle.first_model.specs.declared.command.TheConstants.{NAV_WAYPOINT}
use Rattle.first_model.specs.declared.plan.Item.{Item}
use Rattle.first_model.specs.declared.plan.PlanHead.{PlanHead}
use Rattle.first_model.specs.declared.plan.PlanType.TheVariants.{Mission}
use Rattle.first_model.specs.declared.request.Client.TheVariants as client
use Rattle.first_model.specs.declared.request.Asked.{Asked}
use Rattle.first_model.specs.declared.request.Asked.TheVariants as about
use Rattle.first_model.specs.declared.request.Reply.{Reply}
use Rattle.first_model.specs.declared.request.Reply.TheVariants as reply
use Rattle.first_model.specs.declared.schedule.InputLine.{InputLine}
use Rattle.first_model.specs.declared.schedule.InputLine.TheVariants as input
use Rattle.first_model.specs.declared.vehicle.Mode.{Mode}
use Rattle.first_board.specs.BoardState.{posted}
use Rattle.first_board.specs.BoardCalls.{in_service}
use Rattle.first_vehicle.specs.PlanState.{PlanState, DraftState, told_at, draft_of}
use Rattle.first_vehicle.specs.VehicleState.{VehicleState, ServedState, last_served, reply_of}
use Rattle.first_vehicle.specs.VehicleStep.{IsDoneCommit}
use Rattle.first_core.specs.declared.link.Session.{Session}
use Rattle.first_core.specs.declared.link.Session.TheVariants as session
use Rattle.first_core.specs.SharedState.{mission_head, fence_id, last_id}
use Rattle.first_core.specs.LinkState.{LinkState}
use Rattle.first_core.specs.NavState.{NavState}
use Rattle.first_core.specs.CoreState.{CoreState, CoreFits}
use Rattle.first_store.specs.StoreState as store

-- the store's mission is the vehicle's: each told item is the store's, all are waypoints, and the head is published
pub record PlanTied (p : PlanState) (plan : store.StoredPlan) (head : PlanHead) : Type 0 where
  pub id : plan.id ≡ p.id
  pub count : length p.items ≡ length plan.items
  pub told : (seq : ℕ) (item : Item) → told_at p seq ≡ Some item → slice_get plan.items seq ≡ Some item
  pub waypoints : (seq : ℕ) (item : Item) → slice_get plan.items seq ≡ Some item → item.command ≡ NAV_WAYPOINT
  pub head_id : head.id ≡ p.id
  pub head_count : head.count ≡ length p.items

-- the item was told of the mission of this id, which is in force or was
pub record KnownAt (p : PlanState) (id seq : ℕ) (item : Item) : Type 0 where
  pub earlier : id ≤ p.id
  pub is : id ≡ p.id → told_at p seq ≡ Some item

-- an item that was replied was told
abbrev pub ReplyFits : PlanState → Asked × Reply → Type 0
ReplyFits p (about.Read Mission id seq, reply.Item item) = KnownAt p id seq item
ReplyFits p other = Unit {0}

-- the Navigator's cache holds items that were told of the mission that it adopted; where that is in force, index and
-- leg are the vehicle's; where a newer one is, the vehicle is at its first item
pub record NavTied (p : PlanState) (mode : Mode) (index : ℕ) (at_leg : Bool) (n : NavState) : Type 0 where
  pub mode_is : mode ≡ n.mode
  pub earlier : n.cache.id ≤ p.id
  pub cache : (seq : ℕ) (item : Item) → slice_index_or n.cache.known seq None ≡ Some item → KnownAt p n.cache.id seq item
  pub index_is : n.cache.id ≡ p.id → index ≡ n.index
  pub leg_is : n.cache.id ≡ p.id → at_leg ≡ n.at_leg
  pub fresh : n.cache.id < p.id → (index ≡ 0) × (at_leg ≡ false)

-- the items of the upload that is the current input
abbrev pub upload_of : List InputLine → List Item
upload_of (input.Upload kind items ∷ rest) = items
upload_of inputs = []

-- the items below a seq were written last at their seqs, for the plan of this id
abbrev pub AreWritten : store.Drafts → ℕ → ℕ → List Item → Type 0
AreWritten drafts id seq items = (k : ℕ) → k < seq → store.draft_at drafts id k ≡ slice_get items k

-- the drafts of vehicle and store, by where the session of an upload of these items stands: the vehicle's has the items
-- that were sent, the store's those of the writes that were served, until the commit is
abbrev pub SessionTied : ℕ → List DraftState → store.Drafts → List (Asked × Reply) → List Item → Session → Type 0
SessionTied current drafts written replies items session.Free = Unit {0}
SessionTied current drafts written replies items (session.Receiving id count seq) = (draft_of drafts Mission id ≡ take seq items) × AreWritten written id seq items
SessionTied current drafts written replies items (session.Writing id count seq) =
    (draft_of drafts Mission id ≡ take (seq + 1) items) × AreWritten written id seq items
    × (0 < length replies → AreWritten written id (seq + 1) items)
SessionTied current drafts written replies items (session.Committing id count) =
    (draft_of drafts Mission id ≡ items) × (current < id → AreWritten written id count items)
    × All (λ said. said.1 ≡ reply.Done → IsDoneCommit said.0 said.1) replies

-- the request of the link that was served last, with its reply
abbrev pub IsLast : List ServedState → ℕ → Asked × Reply → Type 0
IsLast served link said = option_map reply_of (last_served served link) ≡ Some said

-- what is posted to a link is the reply to its request that was served last, and the drafts are those of its session
pub record LinkTied (current : ℕ) (drafts : List DraftState) (served : List ServedState) (written : store.Drafts) (replies : List (Asked × Reply)) (l : LinkState) : Type 0 where
  pub last : All (IsLast served l.number) replies
  pub session : SessionTied current drafts written replies (upload_of l.schedule.inputs) l.session

-- the vehicle is that of the core over the store
pub record Tied (v : VehicleState) (st : store.StoreState) (c : CoreState) : Type 0 where
  pub service : v.service ≡ in_service c.taken
  pub mission : PlanTied v.mission st.mission.plan (mission_head c.shared)
  pub fence : v.fence.id ≡ fence_id c.shared
  pub wanted : v.wanted ≡ None
  pub replies : All (ReplyFits v.mission) c.shared.board.nav_posted
  pub nav : NavTied v.mission v.mode v.index v.at_leg c.nav
  pub unused : (id : ℕ) → last_id c.shared < id → draft_of v.drafts Mission id ≡ []
  pub links : (k : ℕ) (d : LinkState) → k < length c.links → LinkTied v.mission.id v.drafts v.served st.mission.drafts (posted c.shared.board (client.Link k)) (slice_index_or c.links k d)

-- some vehicle is that of the core over the store, so that the store can serve what the worker has taken
pub record IsSound (c : CoreState) (st : store.StoreState) : Type 0 where
  pub vehicle : VehicleState
  pub fits : CoreFits c
  pub tied : Tied vehicle st c
