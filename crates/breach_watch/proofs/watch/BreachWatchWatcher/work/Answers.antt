use Rattle.std.proofs.Common.{◌≤◌, sym, subst}
use Rattle.mission_model.specs.declared.limits.TheConstants.{MAX_FENCE_VERTICES}
use Rattle.mission_model.specs.declared.plan.PlanHead.{PlanHead}
use Rattle.mission_model.specs.declared.plan.PlanType.TheVariants.{Fence}
use Rattle.breach_watch.proofs.watch.BreachWatchWatcher.work.Goals as goal

-- the heads are within their limits
pub begin-self-requires : goal.begin-self-requires
begin-self-requires c = subst (λ (h : PlanHead). h.count ≤ MAX_FENCE_VERTICES) (sym c.head_of-head.ensures) (c.requires Fence)
