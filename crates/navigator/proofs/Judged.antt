-- What the judge tells of a mission that was taken whole.
use Rattle.std.proofs.Common.{◌≡◌, ℕ, List, Option, Some, None, length, is_none, ap, ◌∙◌}
use Rattle.mission_model.specs.declared.plan.Home.{Home}
use Rattle.mission_model.specs.declared.plan.Item.{Item}
use Rattle.mission_model.specs.declared.plan.Params.{Params}
use Rattle.mission_model.specs.Feasible.{FirstBroken}
use Rattle.mission_model.specs.Returns.{is_feasible, landing_where}
use Rattle.feasibility.specs.declared.judge.Verdict.{Verdict}
use Rattle.feasibility.specs.Verdicts.{answer_of, verdict_of, landing_by}
use Rattle.feasibility.specs.Whole.{broken_by, verdict_of-whole, is_feasible-told, landing_where-told}

-- there is a verdict
none_told : (answer : Verdict) → None ≡ Some answer → ⊥
none_told answer h = cc

pub verdict-told : (params : Params) (home : Option Home) (fence : List Item) (count : ℕ) (items : List Item) → length items ≡ count → None ≡ verdict_of params home fence count items → ⊥
verdict-told params home fence count items whole is = none_told (answer_of (FirstBroken params home items fence)) (is ∙ verdict_of-whole params home fence count items whole)

-- what a return asks, by the verdict and the landing that are told
pub return-told : (answer : Verdict) (landing : Option (ℕ × ℕ)) (params : Params) (home : Option Home) (fence : List Item) (count : ℕ) (items : List Item) → length items ≡ count → Some answer ≡ verdict_of params home fence count items → landing ≡ landing_by (Some answer) items → (is_none (broken_by answer) ≡ is_feasible params home items fence) × (landing ≡ landing_where (is_feasible params home items fence) items)
return-told answer landing params home fence count items whole is lands =
    (is_feasible-told answer params home fence count items whole is, landing_where-told landing params home fence count items whole (lands ∙ ap (λ v. landing_by v items) is))
