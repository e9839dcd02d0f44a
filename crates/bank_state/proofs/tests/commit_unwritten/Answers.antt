use Rattle.std.proofs.Common.{◌≡◌, ℕ, ◌∙◌, ap, arith}
use Rattle.mission_model.specs.declared.plan.PlanType.TheVariants.{Mission}
use Rattle.bank_state.specs.declared.parts.Parts.{Parts}
use Rattle.bank_state.specs.Ledger.{Ledger, banks_of}
use Rattle.bank_state.proofs.tests.commit_unwritten.Goals as goal

-- the plan that the commit put in force has five items, and reads leave it
abbrev count : Parts → ℕ
count parts = (banks_of parts Mission).head.count

pub read_item-requires-clause-seq : goal.read_item-requires-clause-seq
read_item-requires-clause-seq g c κs within = omega (arith, ap (λ (l : Ledger). (l.entries Mission).head.count) c.in_ok-commit.ensures.done)

pub read_item-requires-2-clause-seq : goal.read_item-requires-2-clause-seq
read_item-requires-2-clause-seq g c κs within = omega (arith, ap (λ (l : Ledger). (l.entries Mission).head.count) c.in_ok-commit.ensures.done, ap count c.read_item.ensures.parts)

pub read_item-requires-3-clause-seq : goal.read_item-requires-3-clause-seq
read_item-requires-3-clause-seq g c κs within = omega (arith, ap (λ (l : Ledger). (l.entries Mission).head.count) c.in_ok-commit.ensures.done, ap count c.read_item.ensures.parts, ap count c.read_item-2.ensures.parts)

pub read_item-requires-4-clause-seq : goal.read_item-requires-4-clause-seq
read_item-requires-4-clause-seq g c κs within = omega (arith, ap (λ (l : Ledger). (l.entries Mission).head.count) c.in_ok-commit.ensures.done, ap count c.read_item.ensures.parts, ap count c.read_item-2.ensures.parts, ap count c.read_item-3.ensures.parts)

pub read_item-requires-5-clause-seq : goal.read_item-requires-5-clause-seq
read_item-requires-5-clause-seq g c κs within = omega (arith, ap (λ (l : Ledger). (l.entries Mission).head.count) c.in_ok-commit.ensures.done, ap count c.read_item.ensures.parts, ap count c.read_item-2.ensures.parts, ap count c.read_item-3.ensures.parts, ap count c.read_item-4.ensures.parts)
