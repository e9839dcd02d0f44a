use Rattle.std.proofs.Common.{◌≡◌, ap, ◌∙◌, sym, List, map}
use Rattle.nav_text.specs.Spans.{text_of}
use Rattle.std.specs.Prelude.{Some, None, Ok}
use Rattle.mission_model.specs.declared.schedule.NamedPlan.{NamedPlan}
use Rattle.run_script.specs.Plans.{new_name}
use Rattle.run_script.proofs.Leading.{named_leads, open_leads}
use Rattle.run_script.proofs.plans.take_plan.Goals as goal

pub returns-in-Some : goal.returns-in-Some
returns-in-Some c =
    let name = c.args.name.now in
    let named : new_name c.args.draft.now.plans name ≡ Ok name = ap (λ (plans : List NamedPlan). new_name plans name) (sym c.plans.ensures) ∙ c.in-Ok.ensures in
    named_leads c.args.home_first c.args.kind _ _ c.args.draft.now c.fill.new.draft c.fill.result name (Some (map (text_of c.args.text.now) c.in-Some.plan.now)) named c.in-Some.ensures.lines c.fill.ensures

pub returns-in-None : goal.returns-in-None
returns-in-None c =
    let name = c.args.name.now in
    let named : new_name c.args.draft.now.plans name ≡ Ok name = ap (λ (plans : List NamedPlan). new_name plans name) (sym c.plans.ensures) ∙ c.in-Ok.ensures in
    named_leads c.args.home_first c.args.kind _ _ c.args.draft.now c.leave_open.new.self (Ok tt) name None named c.in-None.ensures.lines (open_leads c.args.home_first c.args.kind name c.args.draft.now c.leave_open.new.self c.leave_open.ensures)
