use Rattle.std.proofs.Common.{◌∙◌, map}
use Rattle.nav_text.specs.Spans.{text_of}
use Rattle.run_script.proofs.Leading.{fill_leads}
use Rattle.run_script.proofs.plans.fill.Goals as goal

pub returns : goal.returns
returns c = fill_leads c.args.home_first c.args.kind c.args.name.now (map (text_of c.args.text.now) c.args.lines.now) _ c.in_ok-read_items.ensures.good c.args.draft.now c.add_plan.new.self c.add_plan.result _ _ (c.from_vec-name.ensures ∙ c.in_ok-from_slice.ensures.items) c.kept_items-items.ensures c.add_plan.ensures
