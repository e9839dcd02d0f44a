use Rattle.std.specs.Prelude.{◌≡◌, IsTrue}
use Rattle.std.proofs.Common.{sym, ap, subst, ◌∙◌}
use Rattle.disk_model.specs.Disk.{Only}
use Rattle.disk_model.specs.Every.{Steady}
use Rattle.disk_model.specs.Moments.{LeavesOnly}
use Rattle.bank_state.specs.declared.parts.Parts.{Parts}
use Rattle.bank_state.specs.Ledger.{ledger_of}
use Rattle.recovery.specs.Booting.{IsOfBoot, BootCalls, StandsAgain, parts_of}
use Rattle.recovery.specs.Standing.{TellsBanks, items_of}
use Rattle.recovery.proofs.Up.{ready_found, stands_up, just_up, some_up, calls_up, sound_down}
use Rattle.recovery.proofs.Within.{in_limits}
use Rattle.recovery.proofs.pass.boot.Goals as goal

pub from_parts-banks-requires-clause-ready : goal.from_parts-banks-requires-clause-ready
from_parts-banks-requires-clause-ready g c κs within =
    let sound = (g.met.D.Disk g.world.𝓛 g.world.𝓜 g.world.𝓡 ((λ s x. x), (λ x. x), (λ x. x), λ x. x)).sound in
    let z = g.D.Disk.state c.gather.new.disk in
    ready_found 1 (g.D.Disk.state c.args.disk) z (sound c.gather.new.disk) c.in-Ok.found c.in-Ok.ensures c.requires.room

pub returns-in-Ok-clause-told : goal.returns-in-Ok-clause-told
returns-in-Ok-clause-told g c =
    let tells : TellsBanks c.told-state.result (ledger_of (parts_of c.in-Ok.found)) = record { heads = c.told-state.ensures.heads; marked = c.told-state.ensures.marked } in
    subst (λ (p : Parts). TellsBanks c.told-state.result (ledger_of p)) (sym c.from_parts-banks.ensures.parts) tells

pub returns-in-Ok-clause-within : goal.returns-in-Ok-clause-within
returns-in-Ok-clause-within g c = in_limits c.told-state.result c.in-Ok.found (record { heads = c.told-state.ensures.heads; marked = c.told-state.ensures.marked }) c.in-Ok.ensures.ends.0.states c.in-Ok.ensures.ends.0.within

pub returns-in-Ok-clause-durable : goal.returns-in-Ok-clause-durable
returns-in-Ok-clause-durable g c = subst (λ d. Only (g.D.Disk.state d).seen (g.D.Disk.state d).images) (sym c.from_parts-banks.ensures.disk) c.in-Ok.ensures.ends.0.only

pub returns-in-Ok-clause-stands : goal.returns-in-Ok-clause-stands
returns-in-Ok-clause-stands g c =
    let sound = (g.met.D.Disk g.world.𝓛 g.world.𝓜 g.world.𝓡 ((λ s x. x), (λ x. x), (λ x. x), λ x. x)).sound in
    let up = c.from_parts-banks.result in
    stands_up up.parts (g.D.Disk.state up.disk) (sound up.disk) (ap (λ (p : Parts). p.doubt) c.from_parts-banks.ensures.parts) c.from_parts-banks.ensures.store

pub returns-in-Ok-clause-just : goal.returns-in-Ok-clause-just
returns-in-Ok-clause-just g c =
    let sound = (g.met.D.Disk g.world.𝓛 g.world.𝓜 g.world.𝓡 ((λ s x. x), (λ x. x), (λ x. x), λ x. x)).sound in
    let a = g.D.Disk.state c.args.disk in
    let up = c.from_parts-banks.result in
    let tells : TellsBanks c.told-state.result (ledger_of (parts_of c.in-Ok.found)) = record { heads = c.told-state.ensures.heads; marked = c.told-state.ensures.marked } in
    just_up c.told-state.result up.parts a (g.D.Disk.state up.disk) (sound up.disk) (ap (λ (p : Parts). p.doubt) c.from_parts-banks.ensures.parts) c.from_parts-banks.ensures.store
    (subst (λ (p : Parts). TellsBanks c.told-state.result (ledger_of p)) (sym c.from_parts-banks.ensures.parts) tells) (ap (λ d. (g.D.Disk.state d).tells) c.from_parts-banks.ensures.disk ∙ c.in-Ok.ensures.tells)
    (subst (λ d. IsTrue a.tells → StandsAgain a.seen (g.D.Disk.state d).seen) (sym c.from_parts-banks.ensures.disk) (λ told. (c.in-Ok.ensures.ends.2 told).1))

pub returns-in-Ok-clause-some : goal.returns-in-Ok-clause-some
returns-in-Ok-clause-some g c = λ told. some_up (g.D.Disk.state c.args.disk).seen (c.in-Ok.ensures.ends.2 told).0

pub returns-in-Ok-clause-images : goal.returns-in-Ok-clause-images
returns-in-Ok-clause-images g c =
    subst (λ d. LeavesOnly (g.D.Disk.state c.args.disk) (g.D.Disk.state d) (IsOfBoot (g.D.Disk.state c.args.disk))) (sym c.from_parts-banks.ensures.disk) c.in-Ok.ensures.images

pub returns-in-Ok-clause-steady : goal.returns-in-Ok-clause-steady
returns-in-Ok-clause-steady g c = subst (λ d. Steady (g.D.Disk.state c.args.disk).meter (g.D.Disk.state d).meter) (sym c.from_parts-banks.ensures.disk) c.in-Ok.ensures.steady

pub returns-in-Ok-clause-tells : goal.returns-in-Ok-clause-tells
returns-in-Ok-clause-tells g c = subst (λ d. (g.D.Disk.state d).tells ≡ (g.D.Disk.state c.args.disk).tells) (sym c.from_parts-banks.ensures.disk) c.in-Ok.ensures.tells

pub returns-in-Ok-clause-calls : goal.returns-in-Ok-clause-calls
returns-in-Ok-clause-calls g c =
    subst (λ d. BootCalls (items_of c.told-state.result.heads) (g.D.Disk.state c.args.disk) (g.D.Disk.state d)) (sym c.from_parts-banks.ensures.disk)
    (calls_up (g.D.Disk.state c.args.disk) (g.D.Disk.state c.gather.new.disk) c.in-Ok.found c.told-state.result (record { heads = c.told-state.ensures.heads; marked = c.told-state.ensures.marked }) c.in-Ok.ensures.ends.3)

pub returns-in-Err-clause-sound : goal.returns-in-Err-clause-sound
returns-in-Err-clause-sound g c = λ told plans mark stands. sound_down (g.D.Disk.state c.args.disk).seen plans mark c.in-Err.fault stands (c.in-Err.ensures.ends.0 told)
