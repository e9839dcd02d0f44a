use Rattle.std.proofs.Common.{sym, subst}
use Rattle.navigator.specs.Caches.{SamePlan, SamePlan-got}
use Rattle.navigator.proofs.Lists.{Fits-same}
use Rattle.navigator.proofs.taken_list.TakenList.got.Goals as goal

pub invariant_of-self : goal.invariant_of-self
invariant_of-self c =
    Fits-same c.self.inside.kind c.self.inside.check c.self.inside.cache c.got.new.self c.self.inside.items
    (subst (SamePlan c.self.inside.cache) (sym c.got.ensures.cache) (SamePlan-got c.self.inside.cache c.args.asked.now c.args.reply.now)) c.self.invariant
