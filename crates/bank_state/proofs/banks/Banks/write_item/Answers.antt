use Rattle.dataman_layout.specs.declared.layout.Layout.TheVariants.{Two}
use Rattle.std.proofs.Common.{◌≡◌, ◌-◌, ℕ, subst, rules}
use Rattle.disk_model.specs.Disk.{Writes}
use Rattle.dataman_layout.specs.Item.{item_bytes}
use Rattle.dataman_layout.specs.Places.{record_at}
use Rattle.bank_state.specs.Ledger.{banks_of}
use Rattle.bank_state.proofs.Writing.{written, store_after, moments, others}
use Rattle.bank_state.proofs.banks.Banks.write_item.Goals as goal

pub returns-clause-written : goal.returns-clause-written
returns-clause-written g c =
    let s = (g.met.D.Disk g.world.𝓛 g.world.𝓜 g.world.𝓡 ((λ s x. x), (λ x. x), (λ x. x), λ x. x)).sound in
    let parts = c.args.self.now.parts in
    let old = g.D.Disk.state c.args.self.now.disk in
    let new = g.D.Disk.state c.put_record.new.disk in
    let bytes = item_bytes c.args.kind c.args.id c.args.seq c.args.item.now in
    let is : c.spare-bank.result ≡ 1 - (banks_of parts c.args.kind).bank = search rules in
    let writes = subst (λ (b : ℕ). Writes (record_at Two c.args.kind b c.args.seq) bytes old new c.put_record.result) is c.put_record.ensures.wrote in
    written c.args.kind (1 - (banks_of parts c.args.kind).bank) c.args.seq bytes (record { kind = c.args.kind; id = c.args.id; seq = c.args.seq; item = c.args.item.now }) old new c.put_record.result c.put_record.ensures.long c.put_record.ensures.read writes

pub returns-clause-others : goal.returns-clause-others
returns-clause-others g c =
    let s = (g.met.D.Disk g.world.𝓛 g.world.𝓜 g.world.𝓡 ((λ s x. x), (λ x. x), (λ x. x), λ x. x)).sound in
    let parts = c.args.self.now.parts in
    let old = g.D.Disk.state c.args.self.now.disk in
    let new = g.D.Disk.state c.put_record.new.disk in
    let bytes = item_bytes c.args.kind c.args.id c.args.seq c.args.item.now in
    let is : c.spare-bank.result ≡ 1 - (banks_of parts c.args.kind).bank = search rules in
    let writes = subst (λ (b : ℕ). Writes (record_at Two c.args.kind b c.args.seq) bytes old new c.put_record.result) is c.put_record.ensures.wrote in
    others parts c.args.kind c.args.seq bytes old new c.put_record.result (s c.args.self.now.disk) (s c.put_record.new.disk) c.requires.store c.requires.settled c.requires.seq c.put_record.ensures.long writes

pub returns-clause-store : goal.returns-clause-store
returns-clause-store g c =
    let s = (g.met.D.Disk g.world.𝓛 g.world.𝓜 g.world.𝓡 ((λ s x. x), (λ x. x), (λ x. x), λ x. x)).sound in
    let parts = c.args.self.now.parts in
    let old = g.D.Disk.state c.args.self.now.disk in
    let new = g.D.Disk.state c.put_record.new.disk in
    let bytes = item_bytes c.args.kind c.args.id c.args.seq c.args.item.now in
    let is : c.spare-bank.result ≡ 1 - (banks_of parts c.args.kind).bank = search rules in
    let writes = subst (λ (b : ℕ). Writes (record_at Two c.args.kind b c.args.seq) bytes old new c.put_record.result) is c.put_record.ensures.wrote in
    store_after parts c.args.kind c.args.seq bytes old new c.put_record.result (s c.args.self.now.disk) (s c.put_record.new.disk) c.requires.store c.requires.settled c.requires.seq c.put_record.ensures.long writes

pub returns-clause-any_moment : goal.returns-clause-any_moment
returns-clause-any_moment g c =
    let s = (g.met.D.Disk g.world.𝓛 g.world.𝓜 g.world.𝓡 ((λ s x. x), (λ x. x), (λ x. x), λ x. x)).sound in
    let parts = c.args.self.now.parts in
    let old = g.D.Disk.state c.args.self.now.disk in
    let new = g.D.Disk.state c.put_record.new.disk in
    let bytes = item_bytes c.args.kind c.args.id c.args.seq c.args.item.now in
    let is : c.spare-bank.result ≡ 1 - (banks_of parts c.args.kind).bank = search rules in
    let writes = subst (λ (b : ℕ). Writes (record_at Two c.args.kind b c.args.seq) bytes old new c.put_record.result) is c.put_record.ensures.wrote in
    moments parts c.args.kind c.args.seq bytes old new c.put_record.result (s c.args.self.now.disk) (s c.put_record.new.disk) c.requires.store c.requires.settled c.requires.seq c.put_record.ensures.long writes
