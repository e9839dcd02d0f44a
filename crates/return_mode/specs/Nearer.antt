-- The nearest target so far.
use Rattle.std.specs.Prelude.{ℕ, ℤ, List, Option, Some, None, int_le, if◌then◌else◌}
use Rattle.mission_model.specs.declared.plan.Item.{Item}
use Rattle.mission_model.specs.declared.plan.Home.{Home}
use Rattle.mission_model.specs.Fence.{is_allowed}
use Rattle.mission_model.specs.Returns.{Candidate, measure_to}
use Rattle.return_mode.specs.declared.route.Target.{Target}
use Rattle.return_mode.specs.declared.route.Target.TheVariants as target
use Rattle.return_mode.specs.Route.{as_target}

-- a measured target
abbrev pub as_candidate : ℤ × Target → Candidate
as_candidate (measure, target) = record { measure = measure; target = as_target target }

-- the best candidate, after one more: the first where they are as near
abbrev pub nearer : Option (ℤ × Target) → ℤ → Target → Option (ℤ × Target)
nearer None measure target = Some (measure, target)
nearer (Some (least, best)) measure target = if int_le least measure then Some (least, best) else Some (measure, target)

-- the home as the first candidate, where it is set
abbrev pub measured_home : Option (ℤ × ℤ) → Option Home → Option (ℤ × Target)
measured_home position None = None
measured_home position (Some place) = Some (measure_to position place.x place.y, target.Home)

-- the best candidate, after a safe point, which counts where the fence allows it
abbrev pub with_safe_point : Option (ℤ × Target) → Option (ℤ × ℤ) → List Item → ℕ → Item → Option (ℤ × Target)
with_safe_point best position fence seq point = if is_allowed fence point.x point.y then nearer best (measure_to position point.x point.y) (target.Safe seq) else best
