use Rattle.mission_model.specs.PlanCode.{limit_of}
use Rattle.std.proofs.Common.{◌≡◌, ◌*◌, ◌-◌, ◌^◌, ℕ, IsTrue, Some, length, sym, subst, ap, ◌∙◌, rules}
use Rattle.std.specs.Prelude.{IfErr}
use Rattle.mission_model.specs.declared.plan.PlanHead.{PlanHead}
use Rattle.disk_model.specs.Every.{Every, Run}
use Rattle.gated_cell.specs.Cell.{in_force, opened}
use Rattle.dataman_layout.specs.State.{state_in}
use Rattle.dataman_layout.specs.StateLaws.{record-state_in}
use Rattle.bank_state.specs.declared.parts.PlanBanks.{PlanBanks}
use Rattle.bank_state.specs.declared.parts.Parts.{Parts}
use Rattle.bank_state.specs.declared.parts.Doubt.TheVariants as doubt
use Rattle.bank_state.specs.Ledger.{banks_of, ledger_of}
use Rattle.bank_state.specs.Store.{IsStore}
use Rattle.bank_state.specs.Swap.{next_with, IsBut, Swaps, Leaves, NotDone}
use Rattle.bank_state.specs.Outcomes.{LedgerAfter, StoreAfter}
use Rattle.bank_state.specs.Counting.{on_ok_of}
use Rattle.bank_state.proofs.Committing.{records, moments, done, stands_done, kept, ledger}
use Rattle.bank_state.proofs.banks.Banks.commit.Goals as goal

pub returns-in-Ok-clause-records : goal.returns-in-Ok-clause-records
returns-in-Ok-clause-records g c =
    let s = (g.met.D.Disk g.world.𝓛 g.world.𝓜 g.world.𝓡 ((λ s x. x), (λ x. x), (λ x. x), λ x. x)).sound in
    let parts = c.args.self.now.parts in
    let kind = c.args.kind in
    let head : PlanHead = record { id = c.args.id; count = c.args.count } in
    let payload = c.encode_state-payload.result in
    let now = c.swap-swapped.new.cell in
    let old = g.D.Disk.state c.args.self.now.disk in
    let new = g.D.Disk.state c.swap-swapped.new.disk in
    let so = s c.args.self.now.disk in
    let sn = s c.swap-swapped.new.disk in
    let r = c.requires in
    let e : c.banks_of-banks.result ≡ banks_of parts kind = search rules in
    let spare : c.spare.result ≡ 1 - (banks_of parts kind).bank = search rules in
    let long : length payload ≡ 7 = search rules in
    let reads = subst (λ (b : ℕ). state_in (limit_of kind) payload ≡ Some (b, head)) spare (c.encode_state-payload.ensures.read (limit_of kind) r.within) in
    let named = record-state_in (limit_of kind) payload (1 - (banks_of parts kind).bank) head long reads in
    let run = subst (λ (b : PlanBanks). Run b.cell.place.at (2 * b.cell.place.slot_bytes) (Swaps b.cell payload old) old new) e c.swap-swapped.ensures.any_moment in
    records parts kind head payload old new so sn r.store r.calm r.newer r.within named r.written r.valid run

pub returns-in-Ok-clause-any_moment : goal.returns-in-Ok-clause-any_moment
returns-in-Ok-clause-any_moment g c =
    let s = (g.met.D.Disk g.world.𝓛 g.world.𝓜 g.world.𝓡 ((λ s x. x), (λ x. x), (λ x. x), λ x. x)).sound in
    let parts = c.args.self.now.parts in
    let kind = c.args.kind in
    let head : PlanHead = record { id = c.args.id; count = c.args.count } in
    let payload = c.encode_state-payload.result in
    let now = c.swap-swapped.new.cell in
    let old = g.D.Disk.state c.args.self.now.disk in
    let new = g.D.Disk.state c.swap-swapped.new.disk in
    let so = s c.args.self.now.disk in
    let sn = s c.swap-swapped.new.disk in
    let r = c.requires in
    let e : c.banks_of-banks.result ≡ banks_of parts kind = search rules in
    let spare : c.spare.result ≡ 1 - (banks_of parts kind).bank = search rules in
    let long : length payload ≡ 7 = search rules in
    let reads = subst (λ (b : ℕ). state_in (limit_of kind) payload ≡ Some (b, head)) spare (c.encode_state-payload.ensures.read (limit_of kind) r.within) in
    let named = record-state_in (limit_of kind) payload (1 - (banks_of parts kind).bank) head long reads in
    let run = subst (λ (b : PlanBanks). Run b.cell.place.at (2 * b.cell.place.slot_bytes) (Swaps b.cell payload old) old new) e c.swap-swapped.ensures.any_moment in
    moments parts kind head payload old new so sn r.store r.calm r.newer r.within named r.written r.valid run

pub returns-in-Err-clause-records : goal.returns-in-Err-clause-records
returns-in-Err-clause-records g c =
    let s = (g.met.D.Disk g.world.𝓛 g.world.𝓜 g.world.𝓡 ((λ s x. x), (λ x. x), (λ x. x), λ x. x)).sound in
    let parts = c.args.self.now.parts in
    let kind = c.args.kind in
    let head : PlanHead = record { id = c.args.id; count = c.args.count } in
    let payload = c.encode_state-payload.result in
    let now = c.swap-swapped.new.cell in
    let old = g.D.Disk.state c.args.self.now.disk in
    let new = g.D.Disk.state c.swap-swapped.new.disk in
    let so = s c.args.self.now.disk in
    let sn = s c.swap-swapped.new.disk in
    let r = c.requires in
    let e : c.banks_of-banks.result ≡ banks_of parts kind = search rules in
    let spare : c.spare.result ≡ 1 - (banks_of parts kind).bank = search rules in
    let long : length payload ≡ 7 = search rules in
    let reads = subst (λ (b : ℕ). state_in (limit_of kind) payload ≡ Some (b, head)) spare (c.encode_state-payload.ensures.read (limit_of kind) r.within) in
    let named = record-state_in (limit_of kind) payload (1 - (banks_of parts kind).bank) head long reads in
    let run = subst (λ (b : PlanBanks). Run b.cell.place.at (2 * b.cell.place.slot_bytes) (Swaps b.cell payload old) old new) e c.swap-swapped.ensures.any_moment in
    records parts kind head payload old new so sn r.store r.calm r.newer r.within named r.written r.valid run

pub returns-in-Err-clause-any_moment : goal.returns-in-Err-clause-any_moment
returns-in-Err-clause-any_moment g c =
    let s = (g.met.D.Disk g.world.𝓛 g.world.𝓜 g.world.𝓡 ((λ s x. x), (λ x. x), (λ x. x), λ x. x)).sound in
    let parts = c.args.self.now.parts in
    let kind = c.args.kind in
    let head : PlanHead = record { id = c.args.id; count = c.args.count } in
    let payload = c.encode_state-payload.result in
    let now = c.swap-swapped.new.cell in
    let old = g.D.Disk.state c.args.self.now.disk in
    let new = g.D.Disk.state c.swap-swapped.new.disk in
    let so = s c.args.self.now.disk in
    let sn = s c.swap-swapped.new.disk in
    let r = c.requires in
    let e : c.banks_of-banks.result ≡ banks_of parts kind = search rules in
    let spare : c.spare.result ≡ 1 - (banks_of parts kind).bank = search rules in
    let long : length payload ≡ 7 = search rules in
    let reads = subst (λ (b : ℕ). state_in (limit_of kind) payload ≡ Some (b, head)) spare (c.encode_state-payload.ensures.read (limit_of kind) r.within) in
    let named = record-state_in (limit_of kind) payload (1 - (banks_of parts kind).bank) head long reads in
    let run = subst (λ (b : PlanBanks). Run b.cell.place.at (2 * b.cell.place.slot_bytes) (Swaps b.cell payload old) old new) e c.swap-swapped.ensures.any_moment in
    moments parts kind head payload old new so sn r.store r.calm r.newer r.within named r.written r.valid run

pub returns-in-Ok-clause-store : goal.returns-in-Ok-clause-store
returns-in-Ok-clause-store g c =
    let s = (g.met.D.Disk g.world.𝓛 g.world.𝓜 g.world.𝓡 ((λ s x. x), (λ x. x), (λ x. x), λ x. x)).sound in
    let parts = c.args.self.now.parts in
    let kind = c.args.kind in
    let head : PlanHead = record { id = c.args.id; count = c.args.count } in
    let payload = c.encode_state-payload.result in
    let now = c.swap-swapped.new.cell in
    let old = g.D.Disk.state c.args.self.now.disk in
    let new = g.D.Disk.state c.swap-swapped.new.disk in
    let so = s c.args.self.now.disk in
    let sn = s c.swap-swapped.new.disk in
    let r = c.requires in
    let e : c.banks_of-banks.result ≡ banks_of parts kind = search rules in
    let spare : c.spare.result ≡ 1 - (banks_of parts kind).bank = search rules in
    let long : length payload ≡ 7 = search rules in
    let reads = subst (λ (b : ℕ). state_in (limit_of kind) payload ≡ Some (b, head)) spare (c.encode_state-payload.ensures.read (limit_of kind) r.within) in
    let named = record-state_in (limit_of kind) payload (1 - (banks_of parts kind).bank) head long reads in
    let run = subst (λ (b : PlanBanks). Run b.cell.place.at (2 * b.cell.place.slot_bytes) (Swaps b.cell payload old) old new) e c.swap-swapped.ensures.any_moment in
    let becomes = c.in-Ok.ensures.done ∙ ap (λ (b : PlanBanks). opened b.cell) e in
    let next = subst (λ (b : PlanBanks). IsTrue new.tells → in_force now new ≡ next_with b.cell payload) e c.in-Ok.ensures.next in
    let synced = subst (λ (b : PlanBanks). Every (IsBut b.cell old) new) e c.in-Ok.ensures.synced in
    on_ok_of c.swap-swapped.result (subst (λ (p : Parts). IsStore p new) (sym c.take_plan.ensures) (done parts kind head payload old new so sn r.store r.calm r.newer r.within named r.written r.valid run now becomes c.in-Ok.ensures.known next synced))

pub returns-in-Ok-clause-now : goal.returns-in-Ok-clause-now
returns-in-Ok-clause-now g c =
    let s = (g.met.D.Disk g.world.𝓛 g.world.𝓜 g.world.𝓡 ((λ s x. x), (λ x. x), (λ x. x), λ x. x)).sound in
    let parts = c.args.self.now.parts in
    let kind = c.args.kind in
    let head : PlanHead = record { id = c.args.id; count = c.args.count } in
    let payload = c.encode_state-payload.result in
    let now = c.swap-swapped.new.cell in
    let old = g.D.Disk.state c.args.self.now.disk in
    let new = g.D.Disk.state c.swap-swapped.new.disk in
    let so = s c.args.self.now.disk in
    let sn = s c.swap-swapped.new.disk in
    let r = c.requires in
    let e : c.banks_of-banks.result ≡ banks_of parts kind = search rules in
    let spare : c.spare.result ≡ 1 - (banks_of parts kind).bank = search rules in
    let long : length payload ≡ 7 = search rules in
    let reads = subst (λ (b : ℕ). state_in (limit_of kind) payload ≡ Some (b, head)) spare (c.encode_state-payload.ensures.read (limit_of kind) r.within) in
    let named = record-state_in (limit_of kind) payload (1 - (banks_of parts kind).bank) head long reads in
    let run = subst (λ (b : PlanBanks). Run b.cell.place.at (2 * b.cell.place.slot_bytes) (Swaps b.cell payload old) old new) e c.swap-swapped.ensures.any_moment in
    let becomes = c.in-Ok.ensures.done ∙ ap (λ (b : PlanBanks). opened b.cell) e in
    let next = subst (λ (b : PlanBanks). IsTrue new.tells → in_force now new ≡ next_with b.cell payload) e c.in-Ok.ensures.next in
    let synced = subst (λ (b : PlanBanks). Every (IsBut b.cell old) new) e c.in-Ok.ensures.synced in
    on_ok_of c.swap-swapped.result (stands_done parts kind head payload old new so sn r.store r.calm r.newer r.within named r.written r.valid run now becomes c.in-Ok.ensures.known next synced)

pub returns-in-Err-clause-kept : goal.returns-in-Err-clause-kept
returns-in-Err-clause-kept g c =
    let s = (g.met.D.Disk g.world.𝓛 g.world.𝓜 g.world.𝓡 ((λ s x. x), (λ x. x), (λ x. x), λ x. x)).sound in
    let parts = c.args.self.now.parts in
    let kind = c.args.kind in
    let head : PlanHead = record { id = c.args.id; count = c.args.count } in
    let payload = c.encode_state-payload.result in
    let now = c.swap-swapped.new.cell in
    let old = g.D.Disk.state c.args.self.now.disk in
    let new = g.D.Disk.state c.swap-swapped.new.disk in
    let so = s c.args.self.now.disk in
    let sn = s c.swap-swapped.new.disk in
    let r = c.requires in
    let e : c.banks_of-banks.result ≡ banks_of parts kind = search rules in
    let spare : c.spare.result ≡ 1 - (banks_of parts kind).bank = search rules in
    let long : length payload ≡ 7 = search rules in
    let reads = subst (λ (b : ℕ). state_in (limit_of kind) payload ≡ Some (b, head)) spare (c.encode_state-payload.ensures.read (limit_of kind) r.within) in
    let named = record-state_in (limit_of kind) payload (1 - (banks_of parts kind).bank) head long reads in
    let run = subst (λ (b : PlanBanks). Run b.cell.place.at (2 * b.cell.place.slot_bytes) (Swaps b.cell payload old) old new) e c.swap-swapped.ensures.any_moment in
    let left = subst (λ (b : PlanBanks). IfErr c.swap-swapped.result (Leaves b.cell payload old now new)) e c.swap-swapped.ensures.left in
    let refused = subst (λ (b : PlanBanks). IfErr c.swap-swapped.result (NotDone b.cell.generation old.meter new.meter)) e c.swap-swapped.ensures.refused in
    let spent = subst (λ (b : PlanBanks). b.cell.generation ≡ 2 ^ 64 - 1 → new ≡ old) e (λ last. ap g.D.Disk.state (c.swap-swapped.ensures.spent last).1) in
    subst (λ (p : Parts). IfErr c.swap-swapped.result (StoreAfter p new)) (sym c.keep.ensures) (kept parts kind head payload old new so sn r.store r.calm r.newer r.within named r.written r.valid run c.swap-swapped.result now spent refused left)

pub returns-in-Err-clause-err : goal.returns-in-Err-clause-err
returns-in-Err-clause-err g c =
    let s = (g.met.D.Disk g.world.𝓛 g.world.𝓜 g.world.𝓡 ((λ s x. x), (λ x. x), (λ x. x), λ x. x)).sound in
    let parts = c.args.self.now.parts in
    let kind = c.args.kind in
    let head : PlanHead = record { id = c.args.id; count = c.args.count } in
    let payload = c.encode_state-payload.result in
    let now = c.swap-swapped.new.cell in
    let old = g.D.Disk.state c.args.self.now.disk in
    let new = g.D.Disk.state c.swap-swapped.new.disk in
    let so = s c.args.self.now.disk in
    let sn = s c.swap-swapped.new.disk in
    let r = c.requires in
    let e : c.banks_of-banks.result ≡ banks_of parts kind = search rules in
    let spare : c.spare.result ≡ 1 - (banks_of parts kind).bank = search rules in
    let long : length payload ≡ 7 = search rules in
    let reads = subst (λ (b : ℕ). state_in (limit_of kind) payload ≡ Some (b, head)) spare (c.encode_state-payload.ensures.read (limit_of kind) r.within) in
    let named = record-state_in (limit_of kind) payload (1 - (banks_of parts kind).bank) head long reads in
    let run = subst (λ (b : PlanBanks). Run b.cell.place.at (2 * b.cell.place.slot_bytes) (Swaps b.cell payload old) old new) e c.swap-swapped.ensures.any_moment in
    let left = subst (λ (b : PlanBanks). IfErr c.swap-swapped.result (Leaves b.cell payload old now new)) e c.swap-swapped.ensures.left in
    subst (λ (p : Parts). IfErr c.swap-swapped.result (LedgerAfter (doubt.Plan kind head) (ledger_of parts) (ledger_of p))) (sym c.keep.ensures) (ledger parts kind head payload old new so sn r.store r.calm r.newer r.within named r.written r.valid run c.swap-swapped.result now left)
