use Rattle.std.proofs.Common.{sym, ap, ◌∙◌, arith}
use Rattle.std.proofs.lemmas.Bool.{false≢true}
use Rattle.mission_model.specs.declared.plan.PlanType.TheVariants.{Mission}
use Rattle.mission_model.specs.declared.plan.PlanHead.{PlanHead}
use Rattle.bank_state.specs.Ledger.{Ledger}
use Rattle.dataman_worker.proofs.tests.fly.Goals as goal

-- the plan of id 0 is in force, and the disk tells nothing
pub serve-requires-2-clause-asked : goal.serve-requires-2-clause-asked
serve-requires-2-clause-asked g c κs within =
    let untold = c.in-Done.ensures.tells ∙ c.requires.untold in
    record {
      newer = omega (arith, ap (λ (l : Ledger). (l.entries Mission).head.id) c.in-Done.ensures.answers.done, ap (λ (h : PlanHead). h.id) c.requires.empty);
      within = omega arith;
      written = λ told. absurd (false≢true (sym untold ∙ told));
      valid = λ told. absurd (false≢true (sym untold ∙ told));
    }

-- a plan of one item is
pub serve-requires-4-clause-asked : goal.serve-requires-4-clause-asked
serve-requires-4-clause-asked g c κs within = λ same.
    omega (arith, ap (λ (l : Ledger). (l.entries Mission).head.count) c.in-Done-serve-2.ensures.answers.done, ap (λ (l : Ledger). (l.entries Mission).head.count) c.in-Done-serve.ensures.answers.done)
