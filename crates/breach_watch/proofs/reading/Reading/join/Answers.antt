use Rattle.std.proofs.Common.{◌<◌, ◌+◌, ◌≡◌, length, slice_set, sym, subst, rules}
use Rattle.mission_model.specs.declared.limits.TheConstants.{MAX_FENCE_VERTICES}
use Rattle.mission_model.specs.declared.plan.PlanType.TheVariants.{Fence}
use Rattle.breach_watch.specs.FenceSoFar.{IsKept, IsKept-next}
use Rattle.breach_watch.proofs.reading.Reading.join.Goals as goal

-- the vertex stands in the next place
pub invariant_of-self-2 : goal.invariant_of-self-2
invariant_of-self-2 c =
    let kept = c.self.invariant in
    let more : c.self.inside.len < c.self.inside.head.count = search rules in
    let room : length c.self.inside.items ≡ MAX_FENCE_VERTICES = search rules in
    let checked = c.in_ok-next.ensures.ok Fence c.self.inside.head.count _ kept.checked in
    let next = IsKept-next c.self.inside.head c.self.inside.check c.next.new.self c.self.inside.items c.self.inside.len c.args.item.now kept room more checked in
    subst (λ at. IsKept c.self.inside.head c.next.new.self (slice_set c.self.inside.items at c.args.item.now) (c.self.inside.len + 1)) (sym c.from.ensures) next
