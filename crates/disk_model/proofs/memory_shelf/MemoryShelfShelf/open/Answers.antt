use Rattle.std.proofs.Common.{refl, sym, ◌∙◌, ap, arith}
use Rattle.disk_model.specs.Disk.{counted}
use Rattle.disk_model.specs.Shelf.{OpenCall}
use Rattle.disk_model.proofs.Shelves.{gave, refused, stored}
use Rattle.disk_model.proofs.memory_shelf.MemoryShelfShelf.open.Goals as goal

pub returns-then-not-ok-clause-call : goal.returns-then-not-ok-clause-call
returns-then-not-ok-clause-call c = refused _ _ c.args.self.now (record c.log.new.self { faults = c.counted-self.result }) _
    (c.counted-self.ensures.counted ∙ ap counted c.in_ok-log.ensures.faults) (omega (arith, c.counted-self.ensures.later, c.in_ok-log.ensures.faults))
    c.in_ok-log.ensures.ok (λ i. OpenCall c.args.size (c.in_ok-path.ensures.ok i) c.args.create (c.if-not-ok.true i))

pub returns-clause-gives : goal.returns-clause-gives
returns-clause-gives c = stored c.args.size c.args.self.now c.in-Some.disk c.renew.new.self (sym c.in_ok-log.ensures.kept ∙ sym c.take.ensures.value ∙ c.in-Some.is) (c.if-not-ok.ensures.0 refl)
    c.renew.ensures.settled c.renew.ensures.bytes c.renew.ensures.power

pub returns-clause-call : goal.returns-clause-call
returns-clause-call c = gave _ _ c.args.self.now (record c.log.new.self { kept = c.take.new.self }) _ c.renew.new.self
    c.in_ok-log.ensures.faults c.in_ok-log.ensures.ok (λ i. OpenCall c.args.size (c.in_ok-path.ensures.ok i) c.args.create (c.if-not-ok.false i))
