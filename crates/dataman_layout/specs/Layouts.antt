-- The two layouts of the store: what tells them apart, and the most that each holds.
use Rattle.std.specs.Prelude.{ℕ}
use Rattle.mission_model.specs.declared.limits.TheConstants.{MAX_JUMPS}
use Rattle.mission_model.specs.declared.plan.PlanType.{PlanType}
use Rattle.mission_model.specs.declared.plan.PlanType.TheVariants.{Mission, Fence, Safe}
use Rattle.mission_model.specs.PlanCode.{limit_of}
use Rattle.dataman_layout.specs.declared.layout.Layout.{Layout}
use Rattle.dataman_layout.specs.declared.layout.Layout.TheVariants.{One, Two}

-- the version that a layout's compat cell tells
abbrev pub version_of : Layout → ℕ
version_of One = 1
version_of Two = 2

-- the most items of a plan
abbrev pub limit_in : Layout → PlanType → ℕ
limit_in One Mission = 500
limit_in One Fence = 64
limit_in One Safe = 32
limit_in Two kind = limit_of kind

-- the most pairs of a mark
abbrev pub most_pairs : Layout → ℕ
most_pairs One = 16
most_pairs Two = MAX_JUMPS
