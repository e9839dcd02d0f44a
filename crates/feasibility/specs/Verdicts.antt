-- The answers of a judge, by the first broken rule.
use Rattle.std.specs.Prelude.{ℕ, List, Option, Some, None, length, nat_lt, ◌==◌, if◌then◌else◌}
use Rattle.mission_model.specs.declared.plan.Home.{Home}
use Rattle.mission_model.specs.declared.plan.Item.{Item}
use Rattle.mission_model.specs.declared.plan.Params.{Params}
use Rattle.mission_model.specs.Feasible.{FirstBroken}
use Rattle.mission_model.specs.Landing.{landing_of}
use Rattle.feasibility.specs.declared.judge.Verdict.{Verdict}
use Rattle.feasibility.specs.declared.judge.Verdict.TheVariants as verdict

-- the verdict by the first broken rule and its first item
abbrev pub answer_of : Option (ℕ × ℕ) → Verdict
answer_of None = verdict.Feasible
answer_of (Some broken) = verdict.Broken broken.0 broken.1

-- the verdict on a mission of this many items, of which these were shown: none before the last one
abbrev pub verdict_of : Params → Option Home → List Item → ℕ → List Item → Option Verdict
verdict_of params home fence count items = if nat_lt (length items) count then None else Some (answer_of (FirstBroken params home items fence))

-- the verdict before the first item was shown: there is none to show, or none yet
abbrev pub verdict_at_begin : ℕ → Option Verdict
verdict_at_begin count = if count == 0 then Some (verdict.Broken 1 0) else None

-- where a mission with this verdict lands: nowhere before the verdict, or where a rule is broken
abbrev pub landing_by : Option Verdict → List Item → Option (ℕ × ℕ)
landing_by (Some verdict.Feasible) items = landing_of items
landing_by other items = None
