use Rattle.dataman_layout.specs.Layouts.{most_pairs}
use Rattle.dataman_layout.specs.declared.layout.Layout.TheVariants.{Two}
use Rattle.std.proofs.Common.{◌≡◌, length, sym, subst, ap, rules}
use Rattle.std.specs.Prelude.{IfErr}
use Rattle.dataman_layout.specs.Mark.{plain_mark}
use Rattle.dataman_layout.specs.MarkLaws.{record-mark_in}
use Rattle.bank_state.specs.declared.parts.Parts.{Parts}
use Rattle.bank_state.specs.declared.parts.Doubt.TheVariants as doubt
use Rattle.bank_state.specs.Ledger.{ledger_of}
use Rattle.bank_state.specs.Store.{IsStore}
use Rattle.bank_state.specs.Outcomes.{LedgerAfter, StoreAfter}
use Rattle.bank_state.specs.Counting.{on_ok_of}
use Rattle.bank_state.proofs.Marking.{records, moments, done, stands_done, kept, ledger}
use Rattle.bank_state.proofs.banks.Banks.write_mark.Goals as goal

pub returns-in-Ok-clause-records : goal.returns-in-Ok-clause-records
returns-in-Ok-clause-records g c =
    let s = (g.met.D.Disk g.world.𝓛 g.world.𝓜 g.world.𝓡 ((λ s x. x), (λ x. x), (λ x. x), λ x. x)).sound in
    let parts = c.args.self.now.parts in
    let mark = c.args.mark.now in
    let payload = c.encode_mark.result in
    let now = c.swap-swapped.new.cell in
    let old = g.D.Disk.state c.args.self.now.disk in
    let new = g.D.Disk.state c.swap-swapped.new.disk in
    let so = s c.args.self.now.disk in
    let sn = s c.swap-swapped.new.disk in
    let r = c.requires in
    let long : length payload ≡ 135 = search rules in
    let holds = record-mark_in (most_pairs Two) payload (plain_mark mark) long c.encode_mark.ensures.read in
    let run = c.swap-swapped.ensures.any_moment in
    records parts mark payload old new so sn r.store r.calm holds r.fits run

pub returns-in-Ok-clause-any_moment : goal.returns-in-Ok-clause-any_moment
returns-in-Ok-clause-any_moment g c =
    let s = (g.met.D.Disk g.world.𝓛 g.world.𝓜 g.world.𝓡 ((λ s x. x), (λ x. x), (λ x. x), λ x. x)).sound in
    let parts = c.args.self.now.parts in
    let mark = c.args.mark.now in
    let payload = c.encode_mark.result in
    let now = c.swap-swapped.new.cell in
    let old = g.D.Disk.state c.args.self.now.disk in
    let new = g.D.Disk.state c.swap-swapped.new.disk in
    let so = s c.args.self.now.disk in
    let sn = s c.swap-swapped.new.disk in
    let r = c.requires in
    let long : length payload ≡ 135 = search rules in
    let holds = record-mark_in (most_pairs Two) payload (plain_mark mark) long c.encode_mark.ensures.read in
    let run = c.swap-swapped.ensures.any_moment in
    moments parts mark payload old new so sn r.store r.calm holds r.fits run

pub returns-in-Err-clause-records : goal.returns-in-Err-clause-records
returns-in-Err-clause-records g c =
    let s = (g.met.D.Disk g.world.𝓛 g.world.𝓜 g.world.𝓡 ((λ s x. x), (λ x. x), (λ x. x), λ x. x)).sound in
    let parts = c.args.self.now.parts in
    let mark = c.args.mark.now in
    let payload = c.encode_mark.result in
    let now = c.swap-swapped.new.cell in
    let old = g.D.Disk.state c.args.self.now.disk in
    let new = g.D.Disk.state c.swap-swapped.new.disk in
    let so = s c.args.self.now.disk in
    let sn = s c.swap-swapped.new.disk in
    let r = c.requires in
    let long : length payload ≡ 135 = search rules in
    let holds = record-mark_in (most_pairs Two) payload (plain_mark mark) long c.encode_mark.ensures.read in
    let run = c.swap-swapped.ensures.any_moment in
    records parts mark payload old new so sn r.store r.calm holds r.fits run

pub returns-in-Err-clause-any_moment : goal.returns-in-Err-clause-any_moment
returns-in-Err-clause-any_moment g c =
    let s = (g.met.D.Disk g.world.𝓛 g.world.𝓜 g.world.𝓡 ((λ s x. x), (λ x. x), (λ x. x), λ x. x)).sound in
    let parts = c.args.self.now.parts in
    let mark = c.args.mark.now in
    let payload = c.encode_mark.result in
    let now = c.swap-swapped.new.cell in
    let old = g.D.Disk.state c.args.self.now.disk in
    let new = g.D.Disk.state c.swap-swapped.new.disk in
    let so = s c.args.self.now.disk in
    let sn = s c.swap-swapped.new.disk in
    let r = c.requires in
    let long : length payload ≡ 135 = search rules in
    let holds = record-mark_in (most_pairs Two) payload (plain_mark mark) long c.encode_mark.ensures.read in
    let run = c.swap-swapped.ensures.any_moment in
    moments parts mark payload old new so sn r.store r.calm holds r.fits run

pub returns-in-Ok-clause-store : goal.returns-in-Ok-clause-store
returns-in-Ok-clause-store g c =
    let s = (g.met.D.Disk g.world.𝓛 g.world.𝓜 g.world.𝓡 ((λ s x. x), (λ x. x), (λ x. x), λ x. x)).sound in
    let parts = c.args.self.now.parts in
    let mark = c.args.mark.now in
    let payload = c.encode_mark.result in
    let now = c.swap-swapped.new.cell in
    let old = g.D.Disk.state c.args.self.now.disk in
    let new = g.D.Disk.state c.swap-swapped.new.disk in
    let so = s c.args.self.now.disk in
    let sn = s c.swap-swapped.new.disk in
    let r = c.requires in
    let long : length payload ≡ 135 = search rules in
    let holds = record-mark_in (most_pairs Two) payload (plain_mark mark) long c.encode_mark.ensures.read in
    let run = c.swap-swapped.ensures.any_moment in
    on_ok_of c.swap-swapped.result (subst (λ (p : Parts). IsStore p new) (sym c.take_mark.ensures) (done parts mark payload old new so sn r.store r.calm holds r.fits run now c.in-Ok.ensures.done c.in-Ok.ensures.known c.in-Ok.ensures.next))

pub returns-in-Ok-clause-now : goal.returns-in-Ok-clause-now
returns-in-Ok-clause-now g c =
    let s = (g.met.D.Disk g.world.𝓛 g.world.𝓜 g.world.𝓡 ((λ s x. x), (λ x. x), (λ x. x), λ x. x)).sound in
    let parts = c.args.self.now.parts in
    let mark = c.args.mark.now in
    let payload = c.encode_mark.result in
    let now = c.swap-swapped.new.cell in
    let old = g.D.Disk.state c.args.self.now.disk in
    let new = g.D.Disk.state c.swap-swapped.new.disk in
    let so = s c.args.self.now.disk in
    let sn = s c.swap-swapped.new.disk in
    let r = c.requires in
    let long : length payload ≡ 135 = search rules in
    let holds = record-mark_in (most_pairs Two) payload (plain_mark mark) long c.encode_mark.ensures.read in
    let run = c.swap-swapped.ensures.any_moment in
    on_ok_of c.swap-swapped.result (stands_done parts mark payload old new so sn r.store r.calm holds r.fits run now c.in-Ok.ensures.done c.in-Ok.ensures.known c.in-Ok.ensures.next)

pub returns-in-Err-clause-kept : goal.returns-in-Err-clause-kept
returns-in-Err-clause-kept g c =
    let s = (g.met.D.Disk g.world.𝓛 g.world.𝓜 g.world.𝓡 ((λ s x. x), (λ x. x), (λ x. x), λ x. x)).sound in
    let parts = c.args.self.now.parts in
    let mark = c.args.mark.now in
    let payload = c.encode_mark.result in
    let now = c.swap-swapped.new.cell in
    let old = g.D.Disk.state c.args.self.now.disk in
    let new = g.D.Disk.state c.swap-swapped.new.disk in
    let so = s c.args.self.now.disk in
    let sn = s c.swap-swapped.new.disk in
    let r = c.requires in
    let long : length payload ≡ 135 = search rules in
    let holds = record-mark_in (most_pairs Two) payload (plain_mark mark) long c.encode_mark.ensures.read in
    let run = c.swap-swapped.ensures.any_moment in
    subst (λ (p : Parts). IfErr c.swap-swapped.result (StoreAfter p new)) (sym c.keep.ensures)
    (kept parts mark payload old new so sn r.store r.calm holds r.fits run c.swap-swapped.result now (λ last. ap g.D.Disk.state (c.swap-swapped.ensures.spent last).1) c.swap-swapped.ensures.refused c.swap-swapped.ensures.left)

pub returns-in-Err-clause-err : goal.returns-in-Err-clause-err
returns-in-Err-clause-err g c =
    let s = (g.met.D.Disk g.world.𝓛 g.world.𝓜 g.world.𝓡 ((λ s x. x), (λ x. x), (λ x. x), λ x. x)).sound in
    let parts = c.args.self.now.parts in
    let mark = c.args.mark.now in
    let payload = c.encode_mark.result in
    let now = c.swap-swapped.new.cell in
    let old = g.D.Disk.state c.args.self.now.disk in
    let new = g.D.Disk.state c.swap-swapped.new.disk in
    let so = s c.args.self.now.disk in
    let sn = s c.swap-swapped.new.disk in
    let r = c.requires in
    let long : length payload ≡ 135 = search rules in
    let holds = record-mark_in (most_pairs Two) payload (plain_mark mark) long c.encode_mark.ensures.read in
    let run = c.swap-swapped.ensures.any_moment in
    subst (λ (p : Parts). IfErr c.swap-swapped.result (LedgerAfter (doubt.Mark mark) (ledger_of parts) (ledger_of p))) (sym c.keep.ensures) (ledger parts mark payload old new so sn r.store r.calm holds r.fits run c.swap-swapped.result now c.swap-swapped.ensures.left)
