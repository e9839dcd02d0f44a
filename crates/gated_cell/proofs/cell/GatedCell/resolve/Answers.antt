use Rattle.gated_cell.specs.Slots.{known_again, either_here, on_err_of}
use Rattle.gated_cell.specs.Cell.{stored, staged}
use Rattle.std.proofs.Common.{true, false}
use Rattle.gated_cell.proofs.Closing.{same_force}
use Rattle.gated_cell.proofs.Opening.{gate, gate_run, gate_sync, gate_sync_run, resolved_kept}
use Rattle.gated_cell.proofs.Counting.{if_err, refused_first, refused_second, made_both, calm_both}
use Rattle.gated_cell.proofs.Opening.{same_choice}
use Rattle.gated_cell.proofs.Counting.{asks_first, asks_both}
use Rattle.gated_cell.proofs.cell.GatedCell.resolve.Goals as goal

pub returns-in_err-write_gate-clause-doubtful : goal.returns-in_err-write_gate-clause-doubtful
returns-in_err-write_gate-clause-doubtful g c =
    let s = (g.met.D.Disk g.world.𝓛 g.world.𝓜 g.world.𝓡 ((λ s x. x), (λ x. x), (λ x. x), λ x. x)).sound in
    let cell = c.args.self.now in
    let nine = c.requires.slot in
    let old = g.D.Disk.state c.args.disk.now in
    let first = c.requires.doubtful in
    let mid = g.D.Disk.state c.write_gate.new.disk in
    let so = s c.args.disk.now in
    on_err_of c.from_residual.result (either_here cell (stored cell old.seen) (staged cell old.seen) mid (s c.write_gate.new.disk) (gate cell nine old so first 0 mid _ c.write_gate.ensures))

pub returns-in_err-write_gate-clause-any_moment : goal.returns-in_err-write_gate-clause-any_moment
returns-in_err-write_gate-clause-any_moment g c =
    let s = (g.met.D.Disk g.world.𝓛 g.world.𝓜 g.world.𝓡 ((λ s x. x), (λ x. x), (λ x. x), λ x. x)).sound in
    let cell = c.args.self.now in
    let nine = c.requires.slot in
    let old = g.D.Disk.state c.args.disk.now in
    let first = c.requires.doubtful in
    let mid = g.D.Disk.state c.write_gate.new.disk in
    let so = s c.args.disk.now in
    gate_run cell nine old so first 0 mid _ c.write_gate.ensures

pub returns-in_err-sync-clause-doubtful : goal.returns-in_err-sync-clause-doubtful
returns-in_err-sync-clause-doubtful g c =
    let s = (g.met.D.Disk g.world.𝓛 g.world.𝓜 g.world.𝓡 ((λ s x. x), (λ x. x), (λ x. x), λ x. x)).sound in
    let cell = c.args.self.now in
    let nine = c.requires.slot in
    let old = g.D.Disk.state c.args.disk.now in
    let first = c.requires.doubtful in
    let mid = g.D.Disk.state c.write_gate.new.disk in
    let so = s c.args.disk.now in
    let new = g.D.Disk.state c.sync.new.self in
    on_err_of c.from_residual-in_err-sync.result (either_here cell (stored cell old.seen) (staged cell old.seen) new (s c.sync.new.self) (gate_sync cell nine old so first 0 mid new _ _ c.write_gate.ensures c.sync.ensures))

pub returns-in_err-sync-clause-any_moment : goal.returns-in_err-sync-clause-any_moment
returns-in_err-sync-clause-any_moment g c =
    let s = (g.met.D.Disk g.world.𝓛 g.world.𝓜 g.world.𝓡 ((λ s x. x), (λ x. x), (λ x. x), λ x. x)).sound in
    let cell = c.args.self.now in
    let nine = c.requires.slot in
    let old = g.D.Disk.state c.args.disk.now in
    let first = c.requires.doubtful in
    let mid = g.D.Disk.state c.write_gate.new.disk in
    let so = s c.args.disk.now in
    let new = g.D.Disk.state c.sync.new.self in
    gate_sync_run cell nine old so first 0 mid new _ _ c.write_gate.ensures c.sync.ensures

pub returns-clause-known : goal.returns-clause-known
returns-clause-known g c =
    let s = (g.met.D.Disk g.world.𝓛 g.world.𝓜 g.world.𝓡 ((λ s x. x), (λ x. x), (λ x. x), λ x. x)).sound in
    let cell = c.args.self.now in
    let nine = c.requires.slot in
    let old = g.D.Disk.state c.args.disk.now in
    let first = c.requires.doubtful in
    let mid = g.D.Disk.state c.write_gate.new.disk in
    let so = s c.args.disk.now in
    let new = g.D.Disk.state c.sync.new.self in
    let kept = resolved_kept cell nine old mid new _ _ (s c.sync.new.self) first c.in_ok-write_gate.ensures c.in_ok-sync.ensures in
    known_again (record cell { spare_closed = true; doubt = false }) (stored cell old.seen) new (s c.sync.new.self) kept

pub returns-clause-same : goal.returns-clause-same
returns-clause-same g c =
    let s = (g.met.D.Disk g.world.𝓛 g.world.𝓜 g.world.𝓡 ((λ s x. x), (λ x. x), (λ x. x), λ x. x)).sound in
    let cell = c.args.self.now in
    let nine = c.requires.slot in
    let old = g.D.Disk.state c.args.disk.now in
    let first = c.requires.doubtful in
    let mid = g.D.Disk.state c.write_gate.new.disk in
    let so = s c.args.disk.now in
    let new = g.D.Disk.state c.sync.new.self in
    let kept = resolved_kept cell nine old mid new _ _ (s c.sync.new.self) first c.in_ok-write_gate.ensures c.in_ok-sync.ensures in
    same_force (record cell { spare_closed = true; doubt = false }) old new kept

pub returns-clause-any_moment : goal.returns-clause-any_moment
returns-clause-any_moment g c =
    let s = (g.met.D.Disk g.world.𝓛 g.world.𝓜 g.world.𝓡 ((λ s x. x), (λ x. x), (λ x. x), λ x. x)).sound in
    let cell = c.args.self.now in
    let nine = c.requires.slot in
    let old = g.D.Disk.state c.args.disk.now in
    let first = c.requires.doubtful in
    let mid = g.D.Disk.state c.write_gate.new.disk in
    let so = s c.args.disk.now in
    let new = g.D.Disk.state c.sync.new.self in
    gate_sync_run cell nine old so first 0 mid new _ _ c.write_gate.ensures c.sync.ensures

pub returns-in_err-write_gate-clause-refused : goal.returns-in_err-write_gate-clause-refused
returns-in_err-write_gate-clause-refused g c =
    let old = g.D.Disk.state c.args.disk.now in
    let mid = g.D.Disk.state c.write_gate.new.disk in
    if_err c.from_residual.result c.in_err-write_gate.field-0.0 _ c.from_residual.ensures.1
    (λ e gives. refused_first c.in_err-write_gate.field-0.0 e old.meter mid.meter c.in_err-write_gate.ensures.meter gives)

pub returns-in_err-sync-clause-refused : goal.returns-in_err-sync-clause-refused
returns-in_err-sync-clause-refused g c =
    let old = g.D.Disk.state c.args.disk.now in
    let mid = g.D.Disk.state c.write_gate.new.disk in
    let new = g.D.Disk.state c.sync.new.self in
    if_err c.from_residual-in_err-sync.result c.in_err-sync.field-0.0 _ c.from_residual-in_err-sync.ensures.1
    (λ e gives. refused_second c.in_err-sync.field-0.0 e _ old.meter mid.meter new.meter c.in_ok-write_gate.ensures.meter c.in_err-sync.ensures.meter gives)

pub returns-clause-calls : goal.returns-clause-calls
returns-clause-calls g c =
    let old = g.D.Disk.state c.args.disk.now in
    let mid = g.D.Disk.state c.write_gate.new.disk in
    let new = g.D.Disk.state c.sync.new.self in
    made_both old.meter mid.meter new.meter _ _ c.in_ok-write_gate.ensures.meter c.in_ok-sync.ensures.meter

pub returns-clause-no_fault : goal.returns-clause-no_fault
returns-clause-no_fault g c =
    let old = g.D.Disk.state c.args.disk.now in
    let mid = g.D.Disk.state c.write_gate.new.disk in
    let new = g.D.Disk.state c.sync.new.self in
    calm_both old.meter mid.meter new.meter _ _ c.in_ok-write_gate.ensures.meter c.in_ok-sync.ensures.meter

pub returns-in_err-write_gate-clause-asked : goal.returns-in_err-write_gate-clause-asked
returns-in_err-write_gate-clause-asked g c =
    let old = g.D.Disk.state c.args.disk.now in
    let mid = g.D.Disk.state c.write_gate.new.disk in
    asks_first c.from_residual.result c.in_err-write_gate.field-0.0 old.meter mid.meter c.in_err-write_gate.ensures.meter c.from_residual.ensures.1

pub returns-in_err-sync-clause-asked : goal.returns-in_err-sync-clause-asked
returns-in_err-sync-clause-asked g c =
    let old = g.D.Disk.state c.args.disk.now in
    let mid = g.D.Disk.state c.write_gate.new.disk in
    let new = g.D.Disk.state c.sync.new.self in
    asks_both c.from_residual-in_err-sync.result _ old.meter mid.meter new.meter _ c.in_ok-write_gate.ensures.meter c.in_err-sync.ensures.meter

pub returns-clause-asked : goal.returns-clause-asked
returns-clause-asked g c =
    let old = g.D.Disk.state c.args.disk.now in
    let mid = g.D.Disk.state c.write_gate.new.disk in
    let new = g.D.Disk.state c.sync.new.self in
    asks_both _ _ old.meter mid.meter new.meter _ c.in_ok-write_gate.ensures.meter c.in_ok-sync.ensures.meter

pub returns-in_err-write_gate-clause-both : goal.returns-in_err-write_gate-clause-both
returns-in_err-write_gate-clause-both g c =
    let s = (g.met.D.Disk g.world.𝓛 g.world.𝓜 g.world.𝓡 ((λ s x. x), (λ x. x), (λ x. x), λ x. x)).sound in
    let cell = c.args.self.now in
    let nine = c.requires.slot in
    let old = g.D.Disk.state c.args.disk.now in
    let mid = g.D.Disk.state c.write_gate.new.disk in
    on_err_of c.from_residual.result (same_choice cell nine old cell.doubt mid (gate cell nine old (s c.args.disk.now) c.requires.doubtful 0 mid _ c.write_gate.ensures))

pub returns-in_err-sync-clause-both : goal.returns-in_err-sync-clause-both
returns-in_err-sync-clause-both g c =
    let s = (g.met.D.Disk g.world.𝓛 g.world.𝓜 g.world.𝓡 ((λ s x. x), (λ x. x), (λ x. x), λ x. x)).sound in
    let cell = c.args.self.now in
    let nine = c.requires.slot in
    let old = g.D.Disk.state c.args.disk.now in
    let mid = g.D.Disk.state c.write_gate.new.disk in
    let new = g.D.Disk.state c.sync.new.self in
    on_err_of c.from_residual-in_err-sync.result (same_choice cell nine old cell.doubt new (gate_sync cell nine old (s c.args.disk.now) c.requires.doubtful 0 mid new _ _ c.write_gate.ensures c.sync.ensures))
