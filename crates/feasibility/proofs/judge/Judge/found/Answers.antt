use Rattle.std.proofs.Common.{◌∙◌, sym, ap}
use Rattle.mission_model.specs.Feasible.{first_broken}
use Rattle.feasibility.specs.Verdicts.{answer_of}
use Rattle.feasibility.proofs.Answered.{verdict_of-before, verdict_of-after}
use Rattle.feasibility.proofs.judge.Judge.found.Goals as goal

pub returns-then-lacks_items : goal.returns-then-lacks_items
returns-then-lacks_items c params home fence count items h = verdict_of-before c.args.self.now params home fence count items (sym c.lacks_items.ensures ∙ c.if-lacks_items.true) h

pub returns : goal.returns
returns c params home fence count items h = verdict_of-after c.args.self.now c.first_broken.result params home fence count items (sym c.lacks_items.ensures ∙ c.if-lacks_items.false) (c.first_broken.ensures ∙ ap (λ places. answer_of (first_broken 1 places)) c.broken_places.ensures) h
