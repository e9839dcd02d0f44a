use Rattle.disk_model.specs.Meters.{ok_is_calm}
use Rattle.std.proofs.Common.{inr, sym, ap, ◌∙◌, subst, Option}
use Rattle.std.specs.Prelude.{IsSome}
use Rattle.mission_model.specs.declared.plan.Item.{Item}
use Rattle.std.proofs.lemmas.Bool.{false_from_ne_true, false≢true}
use Rattle.mission_model.specs.declared.plan.PlanHead.{PlanHead}
use Rattle.mission_model.specs.declared.request.Request.TheVariants as request
use Rattle.mission_model.specs.declared.request.Reply.{Reply}
use Rattle.mission_model.specs.declared.request.Reply.TheVariants as reply
use Rattle.bank_state.specs.declared.parts.Parts.{Parts}
use Rattle.bank_state.specs.Ledger.{ledger_of}
use Rattle.dataman_worker.specs.Answers.{Answers, calm, fault_told}
use Rattle.dataman_worker.specs.Served.{Served}
use Rattle.dataman_worker.proofs.Holding.{is_calm}
use Rattle.dataman_worker.proofs.Counting.{one_read, read_refusal, made, not_served}
use Rattle.dataman_worker.proofs.Quiet.{read_stale, read_given, read_refused}
use Rattle.dataman_worker.proofs.worker.read.Goals as goal

pub returns-then-id-in_force-clause-served : goal.returns-then-id-in_force-clause-served
returns-then-id-in_force-clause-served g c =
    let s = (g.met.D.Disk g.world.𝓛 g.world.𝓜 g.world.𝓡 ((λ s x. x), (λ x. x), (λ x. x), λ x. x)).sound in
    let banks = c.args.banks.now in
    let a = c.args in
    λ told st holds can. read_stale st a.kind a.id a.seq c.head-in_force.result.id banks.parts (g.D.Disk.state banks.disk) (s banks.disk) c.requires.store c.requires.calm holds (ap (λ (h : PlanHead). h.id) c.head-in_force.ensures) c.if-id-in_force.true

pub returns-in-Ok-Some-clause-answers : goal.returns-in-Ok-Some-clause-answers
returns-in-Ok-Some-clause-answers g c =
    let banks = c.args.banks.now in
    let a = c.args in
    let old = g.D.Disk.state banks.disk in
    let new = g.D.Disk.state c.read_item.new.self.disk in
    made (request.Read a.kind a.id a.seq) (ledger_of banks.parts) (ledger_of c.read_item.new.self.parts) (calm (ledger_of banks.parts)) old.meter new.meter c.requires.calm
    (c.if-id-in_force.false ∙ ap (λ (h : PlanHead). h.id) c.head-in_force.ensures)
    (ap ledger_of c.read_item.ensures.parts ∙ sym (is_calm (ledger_of banks.parts) c.requires.calm))
    (one_read old.meter new.meter tt c.in-Ok-Some.ensures.read.read.meter) (ok_is_calm _ old.meter new.meter tt c.in-Ok-Some.ensures.read.read.meter.call)

pub returns-in-Ok-Some-clause-served : goal.returns-in-Ok-Some-clause-served
returns-in-Ok-Some-clause-served g c =
    let s = (g.met.D.Disk g.world.𝓛 g.world.𝓜 g.world.𝓡 ((λ s x. x), (λ x. x), (λ x. x), λ x. x)).sound in
    let banks = c.args.banks.now in
    let a = c.args in
    let old = g.D.Disk.state banks.disk in
    let new = g.D.Disk.state c.read_item.new.self.disk in
    λ told st holds can. subst (λ (p : Parts). Served st (request.Read a.kind a.id a.seq) (reply.Item c.in-Ok-Some.item) (ledger_of p) old new) (sym c.read_item.ensures.parts)
    (read_given st a.kind a.id a.seq c.in-Ok-Some.item banks.parts old new (s banks.disk) c.requires.store c.requires.calm holds
    (c.if-id-in_force.false ∙ ap (λ (h : PlanHead). h.id) c.head-in_force.ensures) (sym c.in-Ok-Some.field-0-is ∙ (c.in-Ok-Some.ensures.item told).1) c.read_item.ensures.still c.read_item.ensures.time)

pub returns-in-Ok-None-clause-answers : goal.returns-in-Ok-None-clause-answers
returns-in-Ok-None-clause-answers g c =
    let banks = c.args.banks.now in
    let a = c.args in
    let old = g.D.Disk.state banks.disk in
    let new = g.D.Disk.state c.read_item.new.self.disk in (
      ap (λ (h : PlanHead). h.id) c.head-in_force.ensures,
      inr (
        false_from_ne_true old.tells (λ told. false≢true (subst (λ (o : Option Item). IsSome o) c.in-Ok-None.field-0-is (c.in-Ok-None.ensures.item told).0)),
        made (request.Read a.kind a.id a.seq) (ledger_of banks.parts) (ledger_of c.read_item.new.self.parts) (calm (ledger_of banks.parts)) old.meter new.meter c.requires.calm
            (c.if-id-in_force.false ∙ ap (λ (h : PlanHead). h.id) c.head-in_force.ensures)
            (ap ledger_of c.read_item.ensures.parts ∙ sym (is_calm (ledger_of banks.parts) c.requires.calm))
            (one_read old.meter new.meter tt c.in-Ok-None.ensures.read.read.meter) (ok_is_calm _ old.meter new.meter tt c.in-Ok-None.ensures.read.read.meter.call),
      ),
    )

pub returns-in-Err-clause-answers : goal.returns-in-Err-clause-answers
returns-in-Err-clause-answers g c =
    let banks = c.args.banks.now in
    let a = c.args in
    let old = g.D.Disk.state banks.disk in
    let new = g.D.Disk.state c.read_item.new.self.disk in
    let asked = request.Read a.kind a.id a.seq in
    subst (λ (r : Reply). Answers asked old.tells (ledger_of banks.parts) (ledger_of c.read_item.new.self.parts) old.meter new.meter r) (sym c.refused.ensures)
    (not_served c.in-Err.fault asked old.tells (ledger_of banks.parts) (ledger_of c.read_item.new.self.parts) old.meter new.meter c.requires.calm
    (c.if-id-in_force.false ∙ ap (λ (h : PlanHead). h.id) c.head-in_force.ensures)
    (ap ledger_of c.read_item.ensures.parts ∙ sym (is_calm (ledger_of banks.parts) c.requires.calm))
    (read_refusal c.in-Err.fault old.meter new.meter c.in-Err.ensures.read.read.meter))

pub returns-in-Err-clause-served : goal.returns-in-Err-clause-served
returns-in-Err-clause-served g c =
    let s = (g.met.D.Disk g.world.𝓛 g.world.𝓜 g.world.𝓡 ((λ s x. x), (λ x. x), (λ x. x), λ x. x)).sound in
    let banks = c.args.banks.now in
    let a = c.args in
    let old = g.D.Disk.state banks.disk in
    let new = g.D.Disk.state c.read_item.new.self.disk in
    let asked = request.Read a.kind a.id a.seq in
    λ told st holds can. subst (λ (r : Reply). Served st asked r (ledger_of c.read_item.new.self.parts) old new) (sym c.refused.ensures)
    (subst (λ (p : Parts). Served st asked (fault_told c.in-Err.fault) (ledger_of p) old new) (sym c.read_item.ensures.parts)
    (read_refused st a.kind a.id a.seq c.in-Err.fault banks.parts old new (s banks.disk) c.requires.store c.requires.calm holds
    (c.if-id-in_force.false ∙ ap (λ (h : PlanHead). h.id) c.head-in_force.ensures) c.read_item.ensures.still c.read_item.ensures.time))
