use Rattle.std.proofs.Common.{◌≡◌, List, Option, length, sym, ap, subst, ◌∙◌}
use Rattle.mission_model.specs.declared.plan.Home.{Home}
use Rattle.mission_model.specs.declared.plan.Item.{Item}
use Rattle.mission_model.specs.declared.plan.Params.{Params}
use Rattle.feasibility.specs.declared.judge.Judge.{Judge}
use Rattle.feasibility.specs.declared.judge.Verdict.TheVariants as verdict
use Rattle.feasibility.specs.Judged.{Judged}
use Rattle.feasibility.specs.Whole.{FirstBroken-told}
use Rattle.client_cache.specs.CacheState.{count_of}
use Rattle.navigator.specs.Judging.{MissionTaken, ShownTo}
use Rattle.navigator.proofs.Judged.{verdict-told}
use Rattle.navigator.proofs.taken_mission.TakenMission.first_broken.Goals as goal

pub returns-in-Some-Broken : goal.returns-in-Some-Broken
returns-in-Some-Broken c = λ (params : Params) (home : Option Home) (fence items : List Item) (h : ShownTo c.args.self.now params home fence items) (whole : length items ≡ count_of c.args.self.now.cache.head).
    let j : Judged c.self.inside.judge params home fence (count_of c.args.self.now.cache.head) items = subst (λ (k : Judge). Judged k params home fence (count_of c.args.self.now.cache.head) items) (sym (ap (λ (m : MissionTaken). m.judge) c.self.view_is)) h.judged in
    FirstBroken-told (verdict.Broken c.in-Some-Broken.rule c.in-Some-Broken.item) params home fence (count_of c.args.self.now.cache.head) items whole (rw (← c.in-Some-Broken.field-0-is, ← c.in-Some-Broken.is) (c.verdict.ensures params home fence (count_of c.args.self.now.cache.head) items j))

pub returns-in-Some-Feasible : goal.returns-in-Some-Feasible
returns-in-Some-Feasible c = λ (params : Params) (home : Option Home) (fence items : List Item) (h : ShownTo c.args.self.now params home fence items) (whole : length items ≡ count_of c.args.self.now.cache.head).
    let j : Judged c.self.inside.judge params home fence (count_of c.args.self.now.cache.head) items = subst (λ (k : Judge). Judged k params home fence (count_of c.args.self.now.cache.head) items) (sym (ap (λ (m : MissionTaken). m.judge) c.self.view_is)) h.judged in
    FirstBroken-told verdict.Feasible params home fence (count_of c.args.self.now.cache.head) items whole (rw (← c.in-Some-Feasible.field-0-is, ← c.in-Some-Feasible.is) (c.verdict.ensures params home fence (count_of c.args.self.now.cache.head) items j))

pub returns-in-None : goal.returns-in-None
returns-in-None c = λ (params : Params) (home : Option Home) (fence items : List Item) (h : ShownTo c.args.self.now params home fence items) (whole : length items ≡ count_of c.args.self.now.cache.head).
    let j : Judged c.self.inside.judge params home fence (count_of c.args.self.now.cache.head) items = subst (λ (k : Judge). Judged k params home fence (count_of c.args.self.now.cache.head) items) (sym (ap (λ (m : MissionTaken). m.judge) c.self.view_is)) h.judged in
    absurd (verdict-told params home fence (count_of c.args.self.now.cache.head) items whole (sym c.in-None.is ∙ c.verdict.ensures params home fence (count_of c.args.self.now.cache.head) items j))
