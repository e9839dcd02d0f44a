use Rattle.std.proofs.Common.{sym, subst, ◌∙◌}
use Rattle.navigator.specs.Caches.{SamePlan, SamePlan-got}
use Rattle.navigator.proofs.Feeds.{WasShown-same}
use Rattle.navigator.proofs.taken_mission.TakenMission.got.Goals as goal

pub invariant_of-self : goal.invariant_of-self
invariant_of-self c =
    let same : SamePlan c.self.inside.cache c.got.new.self = subst (SamePlan c.self.inside.cache) (sym c.got.ensures.cache) (SamePlan-got c.self.inside.cache c.args.asked.now c.args.reply.now) in
    (WasShown-same (record { cache = c.self.inside.cache; check = c.self.inside.check; judge = c.self.inside.judge }) c.got.new.self same c.self.invariant.0, same.client ∙ c.self.invariant.1)
