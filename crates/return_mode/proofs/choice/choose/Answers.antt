use Rattle.std.proofs.Common.{ap, ◌∙◌}
use Rattle.mission_model.specs.Returns.{ReturnList, targets_by, landing_where}
use Rattle.return_mode.specs.ReturnState.{begun}
use Rattle.return_mode.specs.Laws.{ReturnList-nearest, ReturnList-along}
use Rattle.return_mode.proofs.choice.choose.Goals as goal

pub returns-clause-over_missions : goal.returns-clause-over_missions
unfolding ReturnList
returns-clause-over_missions c mission is_feasible is_landing =
    c.begin.ensures ∙ ap begun (c.route.ensures
    ∙ ap (λ landing. targets_by c.args.params.rtl_type c.args.position c.args.home c.args.fence.now c.args.safe.now landing c.args.feasible c.args.index) is_landing
    ∙ ap (λ feasible. targets_by c.args.params.rtl_type c.args.position c.args.home c.args.fence.now c.args.safe.now (landing_where feasible mission) feasible c.args.index) is_feasible)

pub returns-clause-nearest : goal.returns-clause-nearest
returns-clause-nearest c is mission seq =
    c.begin.ensures ∙ ap begun (c.route.ensures ∙ ReturnList-nearest c.args.params c.args.home c.args.position c.args.fence.now c.args.safe.now mission seq c.args.index c.args.landing c.args.feasible is)

pub returns-clause-along : goal.returns-clause-along
returns-clause-along c other mission points is_feasible is_landing =
    c.begin.ensures ∙ ap begun (c.route.ensures
    ∙ ap (λ landing. targets_by c.args.params.rtl_type c.args.position c.args.home c.args.fence.now c.args.safe.now landing c.args.feasible c.args.index) is_landing
    ∙ ap (λ feasible. targets_by c.args.params.rtl_type c.args.position c.args.home c.args.fence.now c.args.safe.now (landing_where feasible mission) feasible c.args.index) is_feasible
    ∙ ReturnList-along c.args.params c.args.home c.args.position c.args.position c.args.fence.now c.args.fence.now points c.args.safe.now mission c.args.index other)
