use Rattle.std.proofs.Common.{sym, subst}
use Rattle.mission_model.specs.declared.request.Request.{Request}
use Rattle.bank_state.specs.Ledger.{ledger_of}
use Rattle.plan_store.specs.CanServe.{CanServe}
use Rattle.dataman_worker.specs.Served.{Served}
use Rattle.dataman_worker.proofs.worker.answer.Goals as goal

pub returns-in-Read-clause-served : goal.returns-in-Read-clause-served
returns-in-Read-clause-served g c = λ told st holds.
    subst (λ (r : Request). CanServe st r → Served st r c.read.result (ledger_of c.read.new.banks.parts) (g.D.Disk.state c.args.banks.now.disk) (g.D.Disk.state c.read.new.banks.disk)) (sym c.in-Read.is) (c.read.ensures.served told st holds)

pub returns-in-SetMark-clause-served : goal.returns-in-SetMark-clause-served
returns-in-SetMark-clause-served g c = λ told st holds.
    subst (λ (r : Request). CanServe st r → Served st r c.set_mark.result (ledger_of c.set_mark.new.banks.parts) (g.D.Disk.state c.args.banks.now.disk) (g.D.Disk.state c.set_mark.new.banks.disk)) (sym c.in-SetMark.is) (c.set_mark.ensures.served told st holds)
