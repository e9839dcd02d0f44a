use Rattle.std.proofs.Common.{ap, arith}
use Rattle.mission_model.specs.declared.plan.PlanType.TheVariants.{Mission}
use Rattle.bank_state.specs.Ledger.{Ledger}
use Rattle.bank_state.proofs.tests.fly.Goals as goal

-- the commit put a plan of one item in force
pub read_item-requires-clause-seq : goal.read_item-requires-clause-seq
read_item-requires-clause-seq g c κs within = omega (arith, ap (λ (l : Ledger). (l.entries Mission).head.count) c.in_ok-commit.ensures.done)
