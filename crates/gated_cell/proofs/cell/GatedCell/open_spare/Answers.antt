use Rattle.gated_cell.specs.Slots.{known_again, either_again}
use Rattle.gated_cell.specs.Cell.{stored, staged, opened, spare_of, InForce}
use Rattle.std.proofs.Common.{ℕ, List, ap, sym, subst, ◌∙◌, ◌+◌}
use Rattle.gated_cell.specs.declared.cell.GatedCell.{GatedCell}
use Rattle.gated_cell.specs.Cell.{Known, in_force}
use Rattle.gated_cell.proofs.Opening.{at_first, gate, gate_run, gate_sync, gate_sync_run, opened_kept}
use Rattle.gated_cell.proofs.Counting.{refused_first, refused_second, made_both, calm_both}
use Rattle.gated_cell.proofs.Opening.{same_choice}
use Rattle.gated_cell.proofs.Counting.{asks_first, asks_both}
use Rattle.gated_cell.proofs.cell.GatedCell.open_spare.Goals as goal

pub returns-in-Err-clause-doubtful : goal.returns-in-Err-clause-doubtful
returns-in-Err-clause-doubtful g c =
    let s = (g.met.D.Disk g.world.𝓛 g.world.𝓜 g.world.𝓡 ((λ s x. x), (λ x. x), (λ x. x), λ x. x)).sound in
    let cell = c.args.self.now in
    let nine = c.requires.slot in
    let old = g.D.Disk.state c.args.disk.now in
    let first = at_first cell nine old c.requires.known c.requires.staged in
    let mid = g.D.Disk.state c.write_gate.new.disk in
    let so = s c.args.disk.now in
    either_again cell _ (stored cell old.seen) (staged cell old.seen) mid (s c.write_gate.new.disk) (gate cell nine old so first 165 mid _ c.write_gate.ensures)

pub returns-in-Err-clause-any_moment : goal.returns-in-Err-clause-any_moment
returns-in-Err-clause-any_moment g c =
    let s = (g.met.D.Disk g.world.𝓛 g.world.𝓜 g.world.𝓡 ((λ s x. x), (λ x. x), (λ x. x), λ x. x)).sound in
    let cell = c.args.self.now in
    let nine = c.requires.slot in
    let old = g.D.Disk.state c.args.disk.now in
    let first = at_first cell nine old c.requires.known c.requires.staged in
    let mid = g.D.Disk.state c.write_gate.new.disk in
    let so = s c.args.disk.now in
    gate_run cell nine old so first 165 mid _ c.write_gate.ensures

pub returns-in-Err-sync-clause-doubtful : goal.returns-in-Err-sync-clause-doubtful
returns-in-Err-sync-clause-doubtful g c =
    let s = (g.met.D.Disk g.world.𝓛 g.world.𝓜 g.world.𝓡 ((λ s x. x), (λ x. x), (λ x. x), λ x. x)).sound in
    let cell = c.args.self.now in
    let nine = c.requires.slot in
    let old = g.D.Disk.state c.args.disk.now in
    let first = at_first cell nine old c.requires.known c.requires.staged in
    let mid = g.D.Disk.state c.write_gate.new.disk in
    let so = s c.args.disk.now in
    let new = g.D.Disk.state c.sync.new.self in
    either_again cell _ (stored cell old.seen) (staged cell old.seen) new (s c.sync.new.self) (gate_sync cell nine old so first 165 mid new _ _ c.write_gate.ensures c.sync.ensures)

pub returns-in-Err-sync-clause-any_moment : goal.returns-in-Err-sync-clause-any_moment
returns-in-Err-sync-clause-any_moment g c =
    let s = (g.met.D.Disk g.world.𝓛 g.world.𝓜 g.world.𝓡 ((λ s x. x), (λ x. x), (λ x. x), λ x. x)).sound in
    let cell = c.args.self.now in
    let nine = c.requires.slot in
    let old = g.D.Disk.state c.args.disk.now in
    let first = at_first cell nine old c.requires.known c.requires.staged in
    let mid = g.D.Disk.state c.write_gate.new.disk in
    let so = s c.args.disk.now in
    let new = g.D.Disk.state c.sync.new.self in
    gate_sync_run cell nine old so first 165 mid new _ _ c.write_gate.ensures c.sync.ensures

pub returns-clause-known : goal.returns-clause-known
returns-clause-known g c =
    let s = (g.met.D.Disk g.world.𝓛 g.world.𝓜 g.world.𝓡 ((λ s x. x), (λ x. x), (λ x. x), λ x. x)).sound in
    let cell = c.args.self.now in
    let nine = c.requires.slot in
    let old = g.D.Disk.state c.args.disk.now in
    let first = at_first cell nine old c.requires.known c.requires.staged in
    let mid = g.D.Disk.state c.write_gate.new.disk in
    let so = s c.args.disk.now in
    let new = g.D.Disk.state c.sync.new.self in
    let kept = opened_kept cell nine old mid new _ _ (s c.sync.new.self) first c.in-Ok.ensures c.in-Ok-sync.ensures in
    subst (λ (x : GatedCell). Known x new) (sym c.take_over.ensures) (known_again (opened cell) (staged cell old.seen) new (s c.sync.new.self) kept)

pub returns-clause-next : goal.returns-clause-next
returns-clause-next g c =
    let s = (g.met.D.Disk g.world.𝓛 g.world.𝓜 g.world.𝓡 ((λ s x. x), (λ x. x), (λ x. x), λ x. x)).sound in
    let cell = c.args.self.now in
    let nine = c.requires.slot in
    let old = g.D.Disk.state c.args.disk.now in
    let first = at_first cell nine old c.requires.known c.requires.staged in
    let mid = g.D.Disk.state c.write_gate.new.disk in
    let so = s c.args.disk.now in
    let new = g.D.Disk.state c.sync.new.self in
    let kept = opened_kept cell nine old mid new _ _ (s c.sync.new.self) first c.in-Ok.ensures c.in-Ok-sync.ensures in
    λ told. ap (λ (x : GatedCell). in_force x new) c.take_over.ensures ∙ ap (λ (p : List ℕ). InForce (spare_of cell.in_force) (cell.generation + 1) p) (kept.reads told).force.2

pub returns-clause-any_moment : goal.returns-clause-any_moment
returns-clause-any_moment g c =
    let s = (g.met.D.Disk g.world.𝓛 g.world.𝓜 g.world.𝓡 ((λ s x. x), (λ x. x), (λ x. x), λ x. x)).sound in
    let cell = c.args.self.now in
    let nine = c.requires.slot in
    let old = g.D.Disk.state c.args.disk.now in
    let first = at_first cell nine old c.requires.known c.requires.staged in
    let mid = g.D.Disk.state c.write_gate.new.disk in
    let so = s c.args.disk.now in
    let new = g.D.Disk.state c.sync.new.self in
    gate_sync_run cell nine old so first 165 mid new _ _ c.write_gate.ensures c.sync.ensures

pub returns-in-Err-clause-refused : goal.returns-in-Err-clause-refused
returns-in-Err-clause-refused g c =
    let old = g.D.Disk.state c.args.disk.now in
    let mid = g.D.Disk.state c.write_gate.new.disk in
    refused_first c.in-Err.refused c.into.result old.meter mid.meter c.in-Err.ensures.meter c.into.ensures

pub returns-in-Err-sync-clause-refused : goal.returns-in-Err-sync-clause-refused
returns-in-Err-sync-clause-refused g c =
    let old = g.D.Disk.state c.args.disk.now in
    let mid = g.D.Disk.state c.write_gate.new.disk in
    let new = g.D.Disk.state c.sync.new.self in
    refused_second c.in-Err-sync.refused c.into-in-Err-sync.result _ old.meter mid.meter new.meter c.in-Ok.ensures.meter c.in-Err-sync.ensures.meter c.into-in-Err-sync.ensures

pub returns-clause-calls : goal.returns-clause-calls
returns-clause-calls g c =
    let old = g.D.Disk.state c.args.disk.now in
    let mid = g.D.Disk.state c.write_gate.new.disk in
    let new = g.D.Disk.state c.sync.new.self in
    made_both old.meter mid.meter new.meter _ _ c.in-Ok.ensures.meter c.in-Ok-sync.ensures.meter

pub returns-clause-no_fault : goal.returns-clause-no_fault
returns-clause-no_fault g c =
    let old = g.D.Disk.state c.args.disk.now in
    let mid = g.D.Disk.state c.write_gate.new.disk in
    let new = g.D.Disk.state c.sync.new.self in
    calm_both old.meter mid.meter new.meter _ _ c.in-Ok.ensures.meter c.in-Ok-sync.ensures.meter

pub returns-in-Err-clause-both : goal.returns-in-Err-clause-both
returns-in-Err-clause-both g c =
    let s = (g.met.D.Disk g.world.𝓛 g.world.𝓜 g.world.𝓡 ((λ s x. x), (λ x. x), (λ x. x), λ x. x)).sound in
    let cell = c.args.self.now in
    let nine = c.requires.slot in
    let old = g.D.Disk.state c.args.disk.now in
    let mid = g.D.Disk.state c.write_gate.new.disk in
    same_choice cell nine old _ mid (gate cell nine old (s c.args.disk.now) (at_first cell nine old c.requires.known c.requires.staged) 165 mid _ c.write_gate.ensures)

pub returns-in-Err-sync-clause-both : goal.returns-in-Err-sync-clause-both
returns-in-Err-sync-clause-both g c =
    let s = (g.met.D.Disk g.world.𝓛 g.world.𝓜 g.world.𝓡 ((λ s x. x), (λ x. x), (λ x. x), λ x. x)).sound in
    let cell = c.args.self.now in
    let nine = c.requires.slot in
    let old = g.D.Disk.state c.args.disk.now in
    let mid = g.D.Disk.state c.write_gate.new.disk in
    let new = g.D.Disk.state c.sync.new.self in
    same_choice cell nine old _ new (gate_sync cell nine old (s c.args.disk.now) (at_first cell nine old c.requires.known c.requires.staged) 165 mid new _ _ c.write_gate.ensures c.sync.ensures)

pub returns-in-Err-clause-asked : goal.returns-in-Err-clause-asked
returns-in-Err-clause-asked g c =
    let old = g.D.Disk.state c.args.disk.now in
    let mid = g.D.Disk.state c.write_gate.new.disk in
    asks_first _ c.in-Err.refused old.meter mid.meter c.in-Err.ensures.meter c.into.ensures

pub returns-in-Err-sync-clause-asked : goal.returns-in-Err-sync-clause-asked
returns-in-Err-sync-clause-asked g c =
    let old = g.D.Disk.state c.args.disk.now in
    let mid = g.D.Disk.state c.write_gate.new.disk in
    let new = g.D.Disk.state c.sync.new.self in
    asks_both _ _ old.meter mid.meter new.meter _ c.in-Ok.ensures.meter c.in-Err-sync.ensures.meter

pub returns-clause-asked : goal.returns-clause-asked
returns-clause-asked g c =
    let old = g.D.Disk.state c.args.disk.now in
    let mid = g.D.Disk.state c.write_gate.new.disk in
    let new = g.D.Disk.state c.sync.new.self in
    asks_both _ _ old.meter mid.meter new.meter _ c.in-Ok.ensures.meter c.in-Ok-sync.ensures.meter
