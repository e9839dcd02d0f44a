-- What a judge tells once it was shown the whole mission: the first broken rule, and what a return asks.
use Rattle.std.specs.Prelude.{◌≡◌, ℕ, false, List, Option, Some, None, is_none, length, nat_lt, if◌then◌else◌, refl}
use Rattle.std.proofs.Common.{ap, ◌∙◌, arith}
use Rattle.std.proofs.lemmas.Bool.Decides.{nat_tests}
use Rattle.mission_model.specs.declared.plan.Home.{Home}
use Rattle.mission_model.specs.declared.plan.Item.{Item}
use Rattle.mission_model.specs.declared.plan.Params.{Params}
use Rattle.mission_model.specs.Feasible.{FirstBroken}
use Rattle.mission_model.specs.Returns.{is_feasible, landing_where}
use Rattle.feasibility.specs.declared.judge.Verdict.{Verdict}
use Rattle.feasibility.specs.declared.judge.Verdict.TheVariants as verdict
use Rattle.feasibility.specs.Verdicts.{answer_of, verdict_of, landing_by}

-- the first broken rule that a verdict names, and its item
abbrev pub broken_by : Verdict → Option (ℕ × ℕ)
broken_by verdict.Feasible = None
broken_by (verdict.Broken rule item) = Some (rule, item)

not_lower : (a b : ℕ) → a ≡ b → nat_lt a b ≡ false
not_lower a b h = grind (arith, nat_tests, h)

-- there is a verdict on the whole mission
pub verdict_of-whole : (params : Params) (home : Option Home) (fence : List Item) (count : ℕ) (items : List Item) → length items ≡ count → verdict_of params home fence count items ≡ Some (answer_of (FirstBroken params home items fence))
verdict_of-whole params home fence count items whole = ap (λ b. if b then None else Some (answer_of (FirstBroken params home items fence))) (not_lower (length items) count whole)

broken_by-answer : (found : Option (ℕ × ℕ)) → broken_by (answer_of found) ≡ found
broken_by-answer None = refl
broken_by-answer (Some broken) = refl

some_same : {a b : Verdict} → Some a ≡ Some b → a ≡ b
some_same h = cc

-- and it names the first broken rule
pub FirstBroken-told : (answer : Verdict) (params : Params) (home : Option Home) (fence : List Item) (count : ℕ) (items : List Item) → length items ≡ count → Some answer ≡ verdict_of params home fence count items → broken_by answer ≡ FirstBroken params home items fence
FirstBroken-told answer params home fence count items whole is =
    ap broken_by (some_same (is ∙ verdict_of-whole params home fence count items whole)) ∙ broken_by-answer (FirstBroken params home items fence)

-- the mission is feasible where no rule is named
pub is_feasible-told : (answer : Verdict) (params : Params) (home : Option Home) (fence : List Item) (count : ℕ) (items : List Item) → length items ≡ count → Some answer ≡ verdict_of params home fence count items → is_none (broken_by answer) ≡ is_feasible params home items fence
is_feasible-told answer params home fence count items whole is = ap is_none (FirstBroken-told answer params home fence count items whole is)

landing_by-answer : (found : Option (ℕ × ℕ)) (items : List Item) → landing_by (Some (answer_of found)) items ≡ landing_where (is_none found) items
landing_by-answer None items = refl
landing_by-answer (Some broken) items = refl

-- the landing that counts in a return
pub landing_where-told : (answer : Option (ℕ × ℕ)) (params : Params) (home : Option Home) (fence : List Item) (count : ℕ) (items : List Item) → length items ≡ count → answer ≡ landing_by (verdict_of params home fence count items) items → answer ≡ landing_where (is_feasible params home items fence) items
landing_where-told answer params home fence count items whole is =
    is ∙ ap (λ v. landing_by v items) (verdict_of-whole params home fence count items whole) ∙ landing_by-answer (FirstBroken params home items fence) items
