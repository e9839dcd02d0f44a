use Rattle.std.proofs.Common.{◌≡◌, ℕ, List, Option, Some, None, length, sym, ap, subst, ◌∙◌, refl}
use Rattle.mission_model.specs.declared.plan.Home.{Home}
use Rattle.mission_model.specs.declared.plan.Item.{Item}
use Rattle.mission_model.specs.declared.plan.Params.{Params}
use Rattle.feasibility.specs.declared.judge.Judge.{Judge}
use Rattle.feasibility.specs.declared.judge.Verdict.TheVariants as verdict
use Rattle.feasibility.specs.Judged.{Judged}
use Rattle.feasibility.specs.Verdicts.{verdict_of, landing_by}
use Rattle.client_cache.specs.CacheState.{count_of}
use Rattle.navigator.specs.Judging.{MissionTaken, ShownTo}
use Rattle.navigator.proofs.Judged.{verdict-told, return-told}
use Rattle.navigator.proofs.taken_mission.TakenMission.for_return.Goals as goal

pub returns-in-Some-Feasible-clause-in_order : goal.returns-in-Some-Feasible-clause-in_order
returns-in-Some-Feasible-clause-in_order c = λ (x : ℕ × ℕ) (is : c.landing.result ≡ Some x).
    let w = c.self.invariant.0 in
    (refl, (c.landing.ensures.in_order w.params w.home w.fence (count_of c.self.inside.cache.head) w.items w.taken.judged x is).0)

pub returns-in-Some-Feasible-clause-whole : goal.returns-in-Some-Feasible-clause-whole
returns-in-Some-Feasible-clause-whole c = λ (params : Params) (home : Option Home) (fence items : List Item) (h : ShownTo c.args.self.now params home fence items) (whole : length items ≡ count_of c.args.self.now.cache.head).
    let j : Judged c.self.inside.judge params home fence (count_of c.args.self.now.cache.head) items = subst (λ (k : Judge). Judged k params home fence (count_of c.args.self.now.cache.head) items) (sym (ap (λ (m : MissionTaken). m.judge) c.self.view_is)) h.judged in
    let is : Some verdict.Feasible ≡ verdict_of params home fence (count_of c.args.self.now.cache.head) items = rw (← c.in-Some-Feasible.field-0-is, ← c.in-Some-Feasible.is) (c.verdict.ensures params home fence (count_of c.args.self.now.cache.head) items j) in
    return-told verdict.Feasible c.landing.result params home fence (count_of c.args.self.now.cache.head) items whole is (c.landing.ensures.found params home fence (count_of c.args.self.now.cache.head) items j ∙ ap (λ v. landing_by v items) (sym is))

pub returns-in-Some-Broken-clause-whole : goal.returns-in-Some-Broken-clause-whole
returns-in-Some-Broken-clause-whole c = λ (params : Params) (home : Option Home) (fence items : List Item) (h : ShownTo c.args.self.now params home fence items) (whole : length items ≡ count_of c.args.self.now.cache.head).
    let j : Judged c.self.inside.judge params home fence (count_of c.args.self.now.cache.head) items = subst (λ (k : Judge). Judged k params home fence (count_of c.args.self.now.cache.head) items) (sym (ap (λ (m : MissionTaken). m.judge) c.self.view_is)) h.judged in
    let is : Some (verdict.Broken c.in-Some-Broken.field-0-0 c.in-Some-Broken.field-0-1) ≡ verdict_of params home fence (count_of c.args.self.now.cache.head) items = rw (← c.in-Some-Broken.field-0-is, ← c.in-Some-Broken.is) (c.verdict.ensures params home fence (count_of c.args.self.now.cache.head) items j) in
    return-told (verdict.Broken c.in-Some-Broken.field-0-0 c.in-Some-Broken.field-0-1) None params home fence (count_of c.args.self.now.cache.head) items whole is refl

pub returns-in-None-clause-whole : goal.returns-in-None-clause-whole
returns-in-None-clause-whole c = λ (params : Params) (home : Option Home) (fence items : List Item) (h : ShownTo c.args.self.now params home fence items) (whole : length items ≡ count_of c.args.self.now.cache.head).
    let j : Judged c.self.inside.judge params home fence (count_of c.args.self.now.cache.head) items = subst (λ (k : Judge). Judged k params home fence (count_of c.args.self.now.cache.head) items) (sym (ap (λ (m : MissionTaken). m.judge) c.self.view_is)) h.judged in
    absurd (verdict-told params home fence (count_of c.args.self.now.cache.head) items whole (sym c.in-None.is ∙ c.verdict.ensures params home fence (count_of c.args.self.now.cache.head) items j))
