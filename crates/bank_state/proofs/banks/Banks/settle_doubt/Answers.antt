use Rattle.std.proofs.Common.{◌≡◌, IsTrue, true, false, sym, subst, ap, ◌∙◌, rules}
use Rattle.gated_cell.specs.declared.cell.GatedCell.{GatedCell}
use Rattle.gated_cell.specs.Cell.{AtEachMoment, Doubtful, SameChoice, in_force}
use Rattle.bank_state.specs.declared.parts.Parts.{Parts}
use Rattle.bank_state.specs.Ledger.{cell_of}
use Rattle.bank_state.specs.Store.{IsStore}
use Rattle.bank_state.proofs.Settling.{Either, records, settled, doubted, moments}
use Rattle.bank_state.proofs.banks.Banks.settle_doubt.Goals as goal

pub returns-in-Ok-clause-records : goal.returns-in-Ok-clause-records
returns-in-Ok-clause-records g c =
    let s = (g.met.D.Disk g.world.𝓛 g.world.𝓜 g.world.𝓡 ((λ s x. x), (λ x. x), (λ x. x), λ x. x)).sound in
    let parts = c.args.self.now.parts in
    let old = g.D.Disk.state c.args.self.now.disk in
    let new = g.D.Disk.state c.resolve.new.disk in
    let so = s c.args.self.now.disk in
    let sn = s c.resolve.new.disk in
    let store = c.requires.store in
    let change = c.in-Some.change in
    let e : c.cell_of-cell.result ≡ cell_of parts change = search rules in
    let run = subst (λ (x : GatedCell). AtEachMoment x.place old new (Either x old)) e c.resolve.ensures.any_moment in
    records parts old new so sn store change c.in-Some.is run

pub returns-in-Ok-clause-any_moment : goal.returns-in-Ok-clause-any_moment
returns-in-Ok-clause-any_moment g c =
    let s = (g.met.D.Disk g.world.𝓛 g.world.𝓜 g.world.𝓡 ((λ s x. x), (λ x. x), (λ x. x), λ x. x)).sound in
    let parts = c.args.self.now.parts in
    let old = g.D.Disk.state c.args.self.now.disk in
    let new = g.D.Disk.state c.resolve.new.disk in
    let so = s c.args.self.now.disk in
    let sn = s c.resolve.new.disk in
    let store = c.requires.store in
    let change = c.in-Some.change in
    let e : c.cell_of-cell.result ≡ cell_of parts change = search rules in
    let run = subst (λ (x : GatedCell). AtEachMoment x.place old new (Either x old)) e c.resolve.ensures.any_moment in
    moments parts old new so sn store change c.in-Some.is run

pub returns-in-Ok-clause-store : goal.returns-in-Ok-clause-store
returns-in-Ok-clause-store g c =
    let s = (g.met.D.Disk g.world.𝓛 g.world.𝓜 g.world.𝓡 ((λ s x. x), (λ x. x), (λ x. x), λ x. x)).sound in
    let parts = c.args.self.now.parts in
    let old = g.D.Disk.state c.args.self.now.disk in
    let new = g.D.Disk.state c.resolve.new.disk in
    let so = s c.args.self.now.disk in
    let sn = s c.resolve.new.disk in
    let store = c.requires.store in
    let change = c.in-Some.change in
    let e : c.cell_of-cell.result ≡ cell_of parts change = search rules in
    let run = subst (λ (x : GatedCell). AtEachMoment x.place old new (Either x old)) e c.resolve.ensures.any_moment in
    let becomes = c.in-Ok.ensures.resolved ∙ ap (λ (x : GatedCell). record x { spare_closed = true; doubt = false }) e in
    let same = subst (λ (x : GatedCell). IsTrue new.tells → in_force c.resolve.new.self new ≡ in_force x old) e c.in-Ok.ensures.same in
    subst (λ (p : Parts). IsStore p new) (sym c.settle.ensures) (settled parts old new so sn store change c.resolve.new.self c.in-Some.is run becomes c.in-Ok.ensures.known same)

pub returns-in-Err-Failed-clause-records : goal.returns-in-Err-Failed-clause-records
returns-in-Err-Failed-clause-records g c =
    let s = (g.met.D.Disk g.world.𝓛 g.world.𝓜 g.world.𝓡 ((λ s x. x), (λ x. x), (λ x. x), λ x. x)).sound in
    let parts = c.args.self.now.parts in
    let old = g.D.Disk.state c.args.self.now.disk in
    let new = g.D.Disk.state c.resolve.new.disk in
    let so = s c.args.self.now.disk in
    let sn = s c.resolve.new.disk in
    let store = c.requires.store in
    let change = c.in-Some.change in
    let e : c.cell_of-cell.result ≡ cell_of parts change = search rules in
    let run = subst (λ (x : GatedCell). AtEachMoment x.place old new (Either x old)) e c.resolve.ensures.any_moment in
    records parts old new so sn store change c.in-Some.is run

pub returns-in-Err-Failed-clause-any_moment : goal.returns-in-Err-Failed-clause-any_moment
returns-in-Err-Failed-clause-any_moment g c =
    let s = (g.met.D.Disk g.world.𝓛 g.world.𝓜 g.world.𝓡 ((λ s x. x), (λ x. x), (λ x. x), λ x. x)).sound in
    let parts = c.args.self.now.parts in
    let old = g.D.Disk.state c.args.self.now.disk in
    let new = g.D.Disk.state c.resolve.new.disk in
    let so = s c.args.self.now.disk in
    let sn = s c.resolve.new.disk in
    let store = c.requires.store in
    let change = c.in-Some.change in
    let e : c.cell_of-cell.result ≡ cell_of parts change = search rules in
    let run = subst (λ (x : GatedCell). AtEachMoment x.place old new (Either x old)) e c.resolve.ensures.any_moment in
    moments parts old new so sn store change c.in-Some.is run

pub returns-in-Err-Failed-clause-store : goal.returns-in-Err-Failed-clause-store
returns-in-Err-Failed-clause-store g c =
    let s = (g.met.D.Disk g.world.𝓛 g.world.𝓜 g.world.𝓡 ((λ s x. x), (λ x. x), (λ x. x), λ x. x)).sound in
    let parts = c.args.self.now.parts in
    let old = g.D.Disk.state c.args.self.now.disk in
    let new = g.D.Disk.state c.resolve.new.disk in
    let so = s c.args.self.now.disk in
    let sn = s c.resolve.new.disk in
    let store = c.requires.store in
    let change = c.in-Some.change in
    let e : c.cell_of-cell.result ≡ cell_of parts change = search rules in
    let run = subst (λ (x : GatedCell). AtEachMoment x.place old new (Either x old)) e c.resolve.ensures.any_moment in
    let same = c.in-Err-Failed.ensures.err ∙ e in
    let doubtful = subst (λ (x : GatedCell). Doubtful x new) same c.in-Err-Failed.ensures.doubtful in
    let both = subst (λ (x : GatedCell). IsTrue new.tells → SameChoice x old (cell_of parts change) new) e
    (subst (λ (x : GatedCell). IsTrue new.tells → SameChoice c.cell_of-cell.result old x new) same c.in-Err-Failed.ensures.both) in
    doubted parts old new so sn store change c.in-Some.is run doubtful both

pub returns-in-Err-Cut-clause-records : goal.returns-in-Err-Cut-clause-records
returns-in-Err-Cut-clause-records g c =
    let s = (g.met.D.Disk g.world.𝓛 g.world.𝓜 g.world.𝓡 ((λ s x. x), (λ x. x), (λ x. x), λ x. x)).sound in
    let parts = c.args.self.now.parts in
    let old = g.D.Disk.state c.args.self.now.disk in
    let new = g.D.Disk.state c.resolve.new.disk in
    let so = s c.args.self.now.disk in
    let sn = s c.resolve.new.disk in
    let store = c.requires.store in
    let change = c.in-Some.change in
    let e : c.cell_of-cell.result ≡ cell_of parts change = search rules in
    let run = subst (λ (x : GatedCell). AtEachMoment x.place old new (Either x old)) e c.resolve.ensures.any_moment in
    records parts old new so sn store change c.in-Some.is run

pub returns-in-Err-Cut-clause-any_moment : goal.returns-in-Err-Cut-clause-any_moment
returns-in-Err-Cut-clause-any_moment g c =
    let s = (g.met.D.Disk g.world.𝓛 g.world.𝓜 g.world.𝓡 ((λ s x. x), (λ x. x), (λ x. x), λ x. x)).sound in
    let parts = c.args.self.now.parts in
    let old = g.D.Disk.state c.args.self.now.disk in
    let new = g.D.Disk.state c.resolve.new.disk in
    let so = s c.args.self.now.disk in
    let sn = s c.resolve.new.disk in
    let store = c.requires.store in
    let change = c.in-Some.change in
    let e : c.cell_of-cell.result ≡ cell_of parts change = search rules in
    let run = subst (λ (x : GatedCell). AtEachMoment x.place old new (Either x old)) e c.resolve.ensures.any_moment in
    moments parts old new so sn store change c.in-Some.is run

pub returns-in-Err-Cut-clause-store : goal.returns-in-Err-Cut-clause-store
returns-in-Err-Cut-clause-store g c =
    let s = (g.met.D.Disk g.world.𝓛 g.world.𝓜 g.world.𝓡 ((λ s x. x), (λ x. x), (λ x. x), λ x. x)).sound in
    let parts = c.args.self.now.parts in
    let old = g.D.Disk.state c.args.self.now.disk in
    let new = g.D.Disk.state c.resolve.new.disk in
    let so = s c.args.self.now.disk in
    let sn = s c.resolve.new.disk in
    let store = c.requires.store in
    let change = c.in-Some.change in
    let e : c.cell_of-cell.result ≡ cell_of parts change = search rules in
    let run = subst (λ (x : GatedCell). AtEachMoment x.place old new (Either x old)) e c.resolve.ensures.any_moment in
    let same = c.in-Err-Cut.ensures.err ∙ e in
    let doubtful = subst (λ (x : GatedCell). Doubtful x new) same c.in-Err-Cut.ensures.doubtful in
    let both = subst (λ (x : GatedCell). IsTrue new.tells → SameChoice x old (cell_of parts change) new) e
    (subst (λ (x : GatedCell). IsTrue new.tells → SameChoice c.cell_of-cell.result old x new) same c.in-Err-Cut.ensures.both) in
    doubted parts old new so sn store change c.in-Some.is run doubtful both
