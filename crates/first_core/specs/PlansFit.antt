-- How the requests that wait, the plan ids and the published mission fit one another.
use Rattle.std.specs.Prelude.{◌≡◌, ℕ, ◌<◌, ◌≤◌, List, length, Option, Some, None, slice_get, slice_index_or, IfSome}
use Rattle.std.specs.List.{All}
use Rattle.first_model.specs.declared.limits.TheConstants.{MAX_MISSION_ITEMS}
use Rattle.first_model.specs.declared.plan.PlanHead.{PlanHead}
use Rattle.first_model.specs.declared.plan.PlanType.TheVariants.{Mission}
use Rattle.first_model.specs.declared.request.Client.{Client}
use Rattle.first_model.specs.declared.request.Client.TheVariants.{Nav, Link, Watch}
use Rattle.first_model.specs.declared.request.Request.{Request}
use Rattle.first_model.specs.declared.request.Request.TheVariants as request
use Rattle.first_model.specs.declared.schedule.InputLine.{InputLine}
use Rattle.first_core.specs.declared.link.Session.{Session}
use Rattle.first_core.specs.declared.link.Session.TheVariants as session
use Rattle.first_core.specs.SharedState.{SharedState, mission_head, last_id}
use Rattle.first_core.specs.LinkState.{LinkState, item_at}
use Rattle.first_core.specs.NavState.{NavState, HeadFits}

-- the request for which the session waits: the write of its item, or the commit of its plan
abbrev pub IsAwaited : List InputLine → Session → Request → Type 0
IsAwaited inputs (session.Writing id count seq) (request.Write Mission other place item) = (other ≡ id) × (place ≡ seq) × (item_at inputs seq ≡ Some item)
IsAwaited inputs (session.Committing id count) (request.Commit Mission other total) = (other ≡ id) × (total ≡ count)
IsAwaited inputs current asked = ⊥

-- a commit has an id above the one in force
abbrev pub IsNewer : PlanHead → Request → Type 0
IsNewer head (request.Commit kind id count) = head.id < id
IsNewer head other = Unit {0}

-- the request is the one for which its link waits
abbrev pub LinkAsks : PlanHead → Option LinkState → Request → Type 0
LinkAsks head None asked = ⊥
LinkAsks head (Some link) asked = IsAwaited link.schedule.inputs link.session asked × IsNewer head asked

-- a read of the mission in force, below its count, or of one that was in force before
abbrev pub NavAsks : PlanHead → Request → Type 0
NavAsks head (request.Read Mission id seq) = (id ≤ head.id) × (id ≡ head.id → seq < head.count)
NavAsks head other = ⊥

-- a request that waits or is in service
abbrev pub AskFits : PlanHead → List LinkState → Client × Request → Type 0
AskFits head links (Nav, asked) = NavAsks head asked
AskFits head links (Link number, asked) = LinkAsks head (slice_get links number) asked
AskFits head links (Watch number, asked) = ⊥

-- a request that the worker may have taken: a read as above, a write of a mission newer than the one in force, or the
-- commit of one of 1 item up to the limit
abbrev pub IsServable : PlanHead → Request → Type 0
IsServable head (request.Read Mission id seq) = (id ≤ head.id) × (id ≡ head.id → seq < head.count)
IsServable head (request.Write Mission id seq item) = (head.id < id) × (seq < MAX_MISSION_ITEMS)
IsServable head (request.Commit Mission id count) = (head.id < id) × (0 < count) × (count ≤ MAX_MISSION_ITEMS)
IsServable head other = ⊥

-- the id of an upload is above the one in force, up to its commit, and no more than the last one
abbrev pub SessionIdFits : SharedState → Session → Type 0
SessionIdFits s session.Free = Unit {0}
SessionIdFits s (session.Receiving id count seq) = ((mission_head s).id < id) × (id ≤ last_id s)
SessionIdFits s (session.Writing id count seq) = ((mission_head s).id < id) × (id ≤ last_id s)
SessionIdFits s (session.Committing id count) = id ≤ last_id s

-- the Navigator's mission is the one in force or an earlier one, and no id is above the last one
pub record PlansFit (s : SharedState) (links : List LinkState) (n : NavState) : Type 0 where
  pub heads : length s.board.published ≡ 3
  pub ids : length s.ids ≡ 3
  pub head : HeadFits (mission_head s)
  pub waiting : All (AskFits (mission_head s) links) s.board.waiting
  pub service : IfSome s.board.service (AskFits (mission_head s) links)
  pub sessions : (k : ℕ) (d : LinkState) → k < length links → SessionIdFits s (slice_index_or links k d).session
  pub flown : n.cache.id ≤ (mission_head s).id
  pub same : n.cache.id ≡ (mission_head s).id → n.cache.count ≡ (mission_head s).count
  pub used : (mission_head s).id ≤ last_id s
