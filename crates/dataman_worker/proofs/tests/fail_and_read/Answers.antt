use Rattle.std.proofs.Common.{ap, arith}
use Rattle.mission_model.specs.declared.plan.PlanType.{PlanType}
use Rattle.mission_model.specs.declared.plan.PlanType.TheVariants.{Mission}
use Rattle.mission_model.specs.declared.plan.PlanHead.{PlanHead}
use Rattle.mission_model.specs.declared.request.Request.TheVariants as request
use Rattle.bank_state.specs.Ledger.{Entry, ledger_of}
use Rattle.dataman_worker.specs.InForce.{failed_keeps}
use Rattle.dataman_worker.proofs.tests.fail_and_read.Goals as goal

-- the plan of id 0 is still in force
pub serve-reply-requires-clause-asked : goal.serve-reply-requires-clause-asked
serve-reply-requires-clause-asked g c κs within = λ same.
    let old = g.D.Disk.state c.args.banks.now.disk in
    let kept = failed_keeps (request.Commit Mission 1 0) old.tells (ledger_of c.args.banks.now.parts) (ledger_of c.serve.new.banks.parts) old.meter (g.D.Disk.state c.serve.new.banks.disk).meter c.in-DiskFailed.ensures.answers in
    absurd (omega (arith, same, ap (λ (e : PlanType → Entry). (e Mission).head.id) kept, ap (λ (h : PlanHead). h.id) c.requires.empty))
