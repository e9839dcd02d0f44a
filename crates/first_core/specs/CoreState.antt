-- All actors of a boot: the shared part, the request that the worker has taken, the links and the Navigator.
use Rattle.std.specs.Prelude.{◌≡◌, ℕ, ◌<◌, ◌≤◌, List, [], length, Option, slice_index_or}
use Rattle.std.specs.List.{All}
use Rattle.first_model.specs.declared.request.Client.{Client}
use Rattle.first_model.specs.declared.request.Request.{Request}
use Rattle.first_core.specs.SharedState.{SharedState}
use Rattle.first_core.specs.LinkState.{LinkState, LinkFits}
use Rattle.first_core.specs.NavState.{NavState, NavFits}
use Rattle.first_core.specs.PlansFit.{PlansFit}

pub record CoreState : Type 0 where
  pub shared : SharedState
  pub taken : Option (Client × Request)
  pub links : List LinkState
  pub nav : NavState

-- the parts fit one another; no more than one link, since sessions do not yet share a transfer
pub record CoreFits (c : CoreState) : Type 0 where
  pub service : c.shared.board.service ≡ c.taken
  pub links : length c.shared.board.link_posted ≡ length c.links
  pub one : length c.links ≤ 1
  pub each : (k : ℕ) (d : LinkState) → k < length c.links → ((slice_index_or c.links k d).number ≡ k) × LinkFits c.shared (slice_index_or c.links k d)
  pub nav : NavFits c.nav
  pub plans : PlansFit c.shared c.links c.nav

-- the link's schedule is finished
abbrev pub LinkFinished : LinkState → Type 0
LinkFinished link = link.schedule.inputs ≡ []

-- every schedule is finished
abbrev pub IsFinished : CoreState → Type 0
IsFinished c = (c.nav.schedule.inputs ≡ []) × All LinkFinished c.links
