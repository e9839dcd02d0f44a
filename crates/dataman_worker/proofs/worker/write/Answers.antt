use Rattle.std.proofs.Common.{sym, ap, ◌∙◌, subst, IsTrue, Bool}
use Rattle.mission_model.specs.declared.request.Request.TheVariants as request
use Rattle.mission_model.specs.declared.request.Reply.{Reply}
use Rattle.mission_model.specs.declared.request.Reply.TheVariants as reply
use Rattle.bank_state.specs.declared.parts.Parts.{Parts}
use Rattle.bank_state.specs.Ledger.{ledger_of}
use Rattle.dataman_worker.specs.Answers.{Answers, fault_told}
use Rattle.dataman_worker.specs.Served.{Served}
use Rattle.dataman_worker.proofs.Holding.{is_calm}
use Rattle.dataman_worker.proofs.Counting.{change_refusal, not_served}
use Rattle.dataman_worker.proofs.Writing.{write_done, write_refused}
use Rattle.dataman_worker.proofs.worker.write.Goals as goal

pub returns-in-Ok-clause-served : goal.returns-in-Ok-clause-served
returns-in-Ok-clause-served g c =
    let banks = c.args.banks.now in
    let a = c.args in
    let old = g.D.Disk.state banks.disk in
    let new = g.D.Disk.state c.write_item.new.self.disk in
    λ told st holds can.
    let still_told : IsTrue new.tells = subst (λ (b : Bool). IsTrue b) (sym c.write_item.ensures.wrote.time.tells) told in
    subst (λ (p : Parts). Served st (request.Write a.kind a.id a.seq a.item.now) reply.Done (ledger_of p) old new) (sym c.write_item.ensures.parts)
    (write_done st a.kind a.id a.seq a.item.now banks.parts old new c.requires.store c.requires.calm holds (c.write_item.ensures.others still_told) (c.in-Ok.ensures.written still_told) c.write_item.ensures.any_moment)

pub returns-in-Err-clause-answers : goal.returns-in-Err-clause-answers
returns-in-Err-clause-answers g c =
    let banks = c.args.banks.now in
    let a = c.args in
    let old = g.D.Disk.state banks.disk in
    let new = g.D.Disk.state c.write_item.new.self.disk in
    let asked = request.Write a.kind a.id a.seq a.item.now in
    subst (λ (r : Reply). Answers asked old.tells (ledger_of banks.parts) (ledger_of c.write_item.new.self.parts) old.meter new.meter r) (sym c.refused.ensures)
    (not_served c.in-Err.fault asked old.tells (ledger_of banks.parts) (ledger_of c.write_item.new.self.parts) old.meter new.meter c.requires.calm tt
    (ap ledger_of c.write_item.ensures.parts ∙ sym (is_calm (ledger_of banks.parts) c.requires.calm))
    (change_refusal c.in-Err.fault old.meter new.meter c.in-Err.ensures.wrote.meter))

pub returns-in-Err-clause-served : goal.returns-in-Err-clause-served
returns-in-Err-clause-served g c =
    let banks = c.args.banks.now in
    let a = c.args in
    let old = g.D.Disk.state banks.disk in
    let new = g.D.Disk.state c.write_item.new.self.disk in
    let asked = request.Write a.kind a.id a.seq a.item.now in
    λ told st holds can.
    let still_told : IsTrue new.tells = subst (λ (b : Bool). IsTrue b) (sym c.write_item.ensures.wrote.time.tells) told in
    subst (λ (r : Reply). Served st asked r (ledger_of c.write_item.new.self.parts) old new) (sym c.refused.ensures)
    (subst (λ (p : Parts). Served st asked (fault_told c.in-Err.fault) (ledger_of p) old new) (sym c.write_item.ensures.parts)
    (write_refused st a.kind a.id a.seq a.item.now c.in-Err.fault banks.parts old new c.requires.store c.requires.calm holds (c.write_item.ensures.others still_told) c.write_item.ensures.any_moment))
