-- What a judge answers, by what it stands for.
use Rattle.std.proofs.Common.{◌≡◌, ℕ, true, false, cond, List, Option, Some, None, length, nat_lt, sym, ap, ◌∙◌}
use Rattle.mission_model.specs.declared.plan.Home.{Home}
use Rattle.mission_model.specs.declared.plan.Item.{Item}
use Rattle.mission_model.specs.declared.plan.Params.{Params}
use Rattle.mission_model.specs.Feasible.{FirstBroken, first_broken}
use Rattle.feasibility.specs.declared.judge.Judge.{Judge}
use Rattle.feasibility.specs.declared.judge.Verdict.{Verdict}
use Rattle.feasibility.specs.Parts.{places_of}
use Rattle.feasibility.specs.Judged.{Shown}
use Rattle.feasibility.specs.Verdicts.{answer_of, verdict_of}
use Rattle.feasibility.proofs.Joined.{places_of-shown}

same_test : (judge : Judge) (params : Params) (home : Option Home) (fence : List Item) (count : ℕ) (items : List Item) → Shown judge params home fence count items → nat_lt judge.fed judge.count ≡ nat_lt (length items) count
same_test judge params home fence count items h = ap (λ n. nat_lt n judge.count) h.fed ∙ ap (nat_lt (length items)) h.same_count

-- there is no verdict before the last item
pub verdict_of-before : (judge : Judge) (params : Params) (home : Option Home) (fence : List Item) (count : ℕ) (items : List Item) → nat_lt judge.fed judge.count ≡ true → Shown judge params home fence count items → None ≡ verdict_of params home fence count items
verdict_of-before judge params home fence count items before h =
    sym (ap (λ b. cond b None (Some (answer_of (FirstBroken params home items fence)))) (sym (same_test judge params home fence count items h) ∙ before))

-- the verdict after the last item
pub verdict_of-after : (judge : Judge) (answer : Verdict) (params : Params) (home : Option Home) (fence : List Item) (count : ℕ) (items : List Item) → nat_lt judge.fed judge.count ≡ false → answer ≡ answer_of (first_broken 1 (places_of judge)) → Shown judge params home fence count items → Some answer ≡ verdict_of params home fence count items
unfolding FirstBroken
verdict_of-after judge answer params home fence count items after is h =
    ap (λ a. Some a) (is ∙ ap (λ places. answer_of (first_broken 1 places)) (places_of-shown judge params home fence count items h))
    ∙ sym (ap (λ b. cond b None (Some (answer_of (FirstBroken params home items fence)))) (sym (same_test judge params home fence count items h) ∙ after))
