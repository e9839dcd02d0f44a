-- Which reads a line asks: each names the plan that is published then, and one of its items.
use Rattle.std.specs.Prelude.{◌≡◌, ◌⊎◌, ℕ, ◌<◌, ◌≤◌, true, List, [], ◌∷◌, ◌++◌, Some, slice_get}
use Rattle.mission_model.specs.declared.flight_line.Line.{Line}
use Rattle.std.specs.List.{All}
use Rattle.mission_model.specs.declared.plan.PlanHead.{PlanHead}
use Rattle.mission_model.specs.declared.plan.PlanType.{PlanType}
use Rattle.mission_model.specs.declared.request.Client.{Client}
use Rattle.mission_model.specs.declared.request.Request.{Request}
use Rattle.mission_model.specs.declared.request.Request.TheVariants as request
use Rattle.mission_model.specs.PlanTypes.{head_of}
use Rattle.request_board.specs.BoardState.{BoardState}
use Rattle.client_cache.specs.CacheState.{has_id, id_of}
use Rattle.navigator.specs.NavState.{NavTaken, cache_of}
use Rattle.navigator.specs.Asking.{OwnWindows}
use Rattle.request_board.specs.WatchLaw.{WatchRules}
use Rattle.vehicle_core.specs.Told.{BootTold, NavTold, Nav}
use Rattle.vehicle_core.specs.CoreRun.{LineStep}

-- a read names the published id of its type, and a seq below its count
abbrev pub IsOfPublished : List PlanHead → Client × Request → Type 0
IsOfPublished heads (client, request.Read kind id seq) = (id ≡ (head_of heads kind).id) × (seq < (head_of heads kind).count)
IsOfPublished heads (client, request.Write kind id seq item) = Unit {0}
IsOfPublished heads (client, request.Commit kind id count) = Unit {0}
IsOfPublished heads (client, request.SetMark mark) = Unit {0}

-- Behind the requests that waited, less the one that was taken if one was, these were asked; each read is of a published plan.
pub record AsksPublished (b b' : BoardState) : Type 0 where
  pub left : List (Client × Request)
  pub asks : List (Client × Request)
  pub stays : (left ≡ b.waiting) ⊎ ((first : Client × Request) × (b.waiting ≡ first ∷ left))
  pub waiting : b'.waiting ≡ left ++ asks
  pub published : All (IsOfPublished b.published) asks

-- the Navigator's windows are of plans that are published, or were before
pub record WindowsFit (v : NavTaken) (heads : List PlanHead) : Type 0 where
  pub own : OwnWindows v
  pub earlier : (kind : PlanType) → id_of (cache_of kind v).head ≤ (head_of heads kind).id
  pub same : (kind : PlanType) → has_id (cache_of kind v).head (head_of heads kind).id ≡ true → (cache_of kind v).head ≡ Some (head_of heads kind)

-- so are those of each Navigator that is told of
abbrev pub NavsFit : {W : Type 0} → BootTold W → Type 0
NavsFit t = (place : ℕ) (n : NavTold) → slice_get t.actors place ≡ Some (Nav n) → WindowsFit n.nav t.shared.board.published

-- these lines lead on, one after another, and each read that one of them asks is of a plan that is published at it
abbrev pub ReadsAlong : {W : Type 0} → WatchRules W → BootTold W → List Line → BootTold W → Type 0
ReadsAlong rules t [] t' = t' ≡ t
ReadsAlong {W} rules t (made ∷ lines) t' = (mid : BootTold W) × LineStep rules t made mid × AsksPublished t.shared.board mid.shared.board × ReadsAlong rules mid lines t'
