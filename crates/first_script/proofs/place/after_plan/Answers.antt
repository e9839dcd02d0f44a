use Rattle.std.proofs.Common.{◌≡◌, List, sym, ◌∙◌, ap}
use Rattle.std.specs.Prelude.{Ok}
use Rattle.first_model.specs.declared.schedule.NamedPlan.{NamedPlan}
use Rattle.first_text.specs.Words.{words_in}
use Rattle.first_script.specs.Words.{word}
use Rattle.first_script.specs.Plans.{new_name}
use Rattle.first_script.proofs.PlanSteps.{plan_states, plan_stops}
use Rattle.first_script.proofs.place.after_plan.Goals as goal

pub returns-in_err-draft : goal.returns-in_err-draft
returns-in_err-draft c =
    let named : new_name c.args.draft.plans (word 1 (words_in c.args.line.now)) ≡ Ok c.in_ok-name.name =
    ap (λ (plans : List NamedPlan). new_name plans (word 1 (words_in c.args.line.now))) (sym c.as_slice.ensures) ∙ (ap (new_name c.as_slice.result.now) (sym c.word.ensures) ∙ c.in_ok-name.ensures) in
    plan_stops c.args.text.now c.args.behind.now c.args.draft c.args.kind c.args.home_first (words_in c.args.line.now) c.in_ok-name.name c.in-Some.plan.now named c.in-Some.ensures.text
    c.from_residual-in_err-draft.result c.in_err-draft.field-0.0 c.from_residual-in_err-draft.ensures.1 c.in_err-draft.ensures

pub returns : goal.returns
returns c =
    let named : new_name c.args.draft.plans (word 1 (words_in c.args.line.now)) ≡ Ok c.in_ok-name.name =
    ap (λ (plans : List NamedPlan). new_name plans (word 1 (words_in c.args.line.now))) (sym c.as_slice.ensures) ∙ (ap (new_name c.as_slice.result.now) (sym c.word.ensures) ∙ c.in_ok-name.ensures) in
    plan_states c.args.text.now c.args.behind.now c.args.draft c.args.kind c.args.home_first (words_in c.args.line.now) c.in_ok-name.name c.in-Some.plan.now named c.in-Some.ensures.text
    c.in_ok-draft.draft c.in_ok-draft.ensures
