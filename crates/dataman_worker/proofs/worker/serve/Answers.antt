use Rattle.std.proofs.Common.{Bool, IsTrue, sym, subst}
use Rattle.mission_model.specs.declared.request.Reply.{Reply}
use Rattle.bank_state.specs.Ledger.{Ledger, ledger_of}
use Rattle.plan_store.specs.StoreState.{settled}
use Rattle.dataman_worker.specs.Holds.{Holds}
use Rattle.dataman_worker.specs.CanAsk.{CanAsk}
use Rattle.dataman_worker.specs.Answers.{Answers}
use Rattle.dataman_worker.specs.Served.{Served}
use Rattle.dataman_worker.proofs.Records.{limited}
use Rattle.dataman_worker.proofs.Holding.{holds_same, holds_settled}
use Rattle.dataman_worker.proofs.Counting.{powered}
use Rattle.dataman_worker.proofs.Settling.{can_still, answers_after, can_serve_still, served_after, unsettled}
use Rattle.dataman_worker.proofs.worker.serve.Goals as goal

pub answer-requires-clause-asked : goal.answer-requires-clause-asked
answer-requires-clause-asked g c κs within =
    let banks = c.args.banks.now in
    let old = g.D.Disk.state banks.disk in
    let mid = g.D.Disk.state c.settle.new.banks.disk in
    let ran = c.in-Ok.ensures in
    subst (λ (l : Ledger). CanAsk l mid c.args.request.now) (sym ran.settled)
    (can_still c.args.request.now (ledger_of banks.parts) old mid (limited banks.parts old c.requires.store) ran.tells ran.records c.requires.asked)

pub returns-in-Ok-clause-answers : goal.returns-in-Ok-clause-answers
returns-in-Ok-clause-answers g c =
    let banks = c.args.banks.now in
    let old = g.D.Disk.state banks.disk in
    let mid = g.D.Disk.state c.settle.new.banks.disk in
    let new = g.D.Disk.state c.answer.new.banks.disk in
    let after = ledger_of c.answer.new.banks.parts in
    let asked = c.args.request.now in
    let ran = c.in-Ok.ensures in
    answers_after c.answer.result asked old.tells (ledger_of banks.parts) after old.meter mid.meter new.meter ran.calls ran.no_fault
    (subst (λ (l : Ledger). Answers asked old.tells l after mid.meter new.meter c.answer.result) ran.settled
    (subst (λ (b : Bool). Answers asked b (ledger_of c.settle.new.banks.parts) after mid.meter new.meter c.answer.result) ran.tells c.answer.ensures.answers))

pub returns-in-Ok-clause-served : goal.returns-in-Ok-clause-served
returns-in-Ok-clause-served g c =
    let banks = c.args.banks.now in
    let old = g.D.Disk.state banks.disk in
    let mid = g.D.Disk.state c.settle.new.banks.disk in
    let new = g.D.Disk.state c.answer.new.banks.disk in
    let asked = c.args.request.now in
    let ran = c.in-Ok.ensures in
    λ told st holds can.
    let still_told : IsTrue mid.tells = subst (λ (b : Bool). IsTrue b) (sym ran.tells) told in
    let held : Holds (settled st) (ledger_of c.settle.new.banks.parts) mid.seen =
    subst (λ (l : Ledger). Holds (settled st) l mid.seen) (sym ran.settled)
    (holds_settled st (ledger_of banks.parts) mid.seen (holds_same st (ledger_of banks.parts) old.seen mid.seen (limited banks.parts old c.requires.store) (ran.records still_told) holds)) in
    served_after st asked c.answer.result banks.parts (ledger_of c.answer.new.banks.parts) old mid new holds ran.any_moment (c.answer.ensures.served still_told (settled st) held (can_serve_still st asked can))

pub returns-in-Err-clause-served : goal.returns-in-Err-clause-served
returns-in-Err-clause-served g c =
    let banks = c.args.banks.now in
    let old = g.D.Disk.state banks.disk in
    let mid = g.D.Disk.state c.settle.new.banks.disk in
    let asked = c.args.request.now in
    let ran = c.in-Err.ensures in
    λ told st holds can.
    let still_told : IsTrue mid.tells = subst (λ (b : Bool). IsTrue b) (sym ran.tells) told in
    subst (λ (r : Reply). Served st asked r (ledger_of c.settle.new.banks.parts) old mid) (sym c.refused.ensures)
    (unsettled c.in-Err.fault st asked banks.parts (ledger_of c.settle.new.banks.parts) old mid c.requires.store holds (ran.records still_told) ran.any_moment ran.refused)

pub returns-in-Ok-clause-powered : goal.returns-in-Ok-clause-powered
returns-in-Ok-clause-powered g c =
    let banks = c.args.banks.now in
    let old = g.D.Disk.state banks.disk in
    let new = g.D.Disk.state c.answer.new.banks.disk in
    powered c.answer.result c.args.request.now old.tells (ledger_of banks.parts) (ledger_of c.answer.new.banks.parts) old.meter new.meter (returns-in-Ok-clause-answers g c)
