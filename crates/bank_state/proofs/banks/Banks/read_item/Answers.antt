use Rattle.std.proofs.Common.{◌≡◌, ◌<◌, IsTrue, slice_get, sym, subst, rules}
use Rattle.std.specs.Prelude.{IsSome}
use Rattle.bank_state.specs.declared.parts.PlanBanks.{PlanBanks}
use Rattle.bank_state.specs.Ledger.{banks_of, items_in}
use Rattle.bank_state.specs.Store.{doubts_plan, BanksStand}
use Rattle.bank_state.proofs.Reading.{store_still, item_read}
use Rattle.bank_state.proofs.banks.Banks.read_item.Goals as goal

pub returns-in_err-found-clause-store : goal.returns-in_err-found-clause-store
returns-in_err-found-clause-store g c =
    let read = c.get_record.ensures.read in
    store_still (g.D.Disk.state c.args.self.now.disk) (g.D.Disk.state c.get_record.new.disk) read.still read.time c.args.self.now.parts read.meter.call.size c.requires.store

pub returns-clause-store : goal.returns-clause-store
returns-clause-store g c =
    let read = c.get_record.ensures.read in
    store_still (g.D.Disk.state c.args.self.now.disk) (g.D.Disk.state c.get_record.new.disk) read.still read.time c.args.self.now.parts read.meter.call.size c.requires.store

pub returns-clause-item : goal.returns-clause-item
returns-clause-item g c =
    let parts = c.args.self.now.parts in
    let kind = c.args.kind in
    let old = g.D.Disk.state c.args.self.now.disk in
    let new = g.D.Disk.state c.get_record.new.disk in
    let is : c.banks_of-banks.result ≡ banks_of parts kind = search rules in
    let stand = subst (λ (b : PlanBanks). BanksStand kind (doubts_plan parts.doubt kind) b old) (sym is) (c.requires.store.each kind) in
    let below = subst (λ (b : PlanBanks). c.args.seq < b.head.count) (sym is) c.requires.seq in
    let gives = c.in_ok-found.ensures in
    let read = item_read kind (doubts_plan parts.doubt kind) c.banks_of-banks.result c.args.seq old new gives.got c.in_ok-found.found c.item_by.result _ stand below gives.read gives.found c.item_by.ensures in
    subst (λ (b : PlanBanks). IsTrue old.tells → IsSome c.item_by.result × c.item_by.result ≡ slice_get (items_in kind b.bank b.head.count old.seen) c.args.seq) is read
