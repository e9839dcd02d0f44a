use Rattle.gated_cell.specs.Slots.{known_again}
use Rattle.gated_cell.specs.Cell.{stored}
use Rattle.gated_cell.proofs.Closing.{same_force, cell_sync, sync_run}
use Rattle.gated_cell.proofs.Writing.{putting, put_run, next_kept, staged_as}
use Rattle.gated_cell.proofs.Counting.{if_err, refused_first, refused_second, made_both, calm_both}
use Rattle.gated_cell.proofs.Counting.{asks_first, asks_both}
use Rattle.gated_cell.proofs.cell.GatedCell.write_spare.Goals as goal

pub returns-in_err-put_next-clause-known : goal.returns-in_err-put_next-clause-known
returns-in_err-put_next-clause-known g c =
    let s = (g.met.D.Disk g.world.𝓛 g.world.𝓜 g.world.𝓡 ((λ s x. x), (λ x. x), (λ x. x), λ x. x)).sound in
    let cell = c.args.self.now in
    let nine = c.requires.slot in
    let next = c.args.payload.now in
    let old = g.D.Disk.state c.args.disk.now in
    let mid = g.D.Disk.state c.put_next.new.disk in
    let wrote = putting cell nine next c.requires.length c.requires.closed old mid _ c.requires.known c.put_next.ensures in
    known_again cell (stored cell old.seen) mid (s c.put_next.new.disk) wrote

pub returns-in_err-put_next-clause-same : goal.returns-in_err-put_next-clause-same
returns-in_err-put_next-clause-same g c =
    let s = (g.met.D.Disk g.world.𝓛 g.world.𝓜 g.world.𝓡 ((λ s x. x), (λ x. x), (λ x. x), λ x. x)).sound in
    let cell = c.args.self.now in
    let nine = c.requires.slot in
    let next = c.args.payload.now in
    let old = g.D.Disk.state c.args.disk.now in
    let mid = g.D.Disk.state c.put_next.new.disk in
    let wrote = putting cell nine next c.requires.length c.requires.closed old mid _ c.requires.known c.put_next.ensures in
    same_force cell old mid wrote

pub returns-in_err-put_next-clause-any_moment : goal.returns-in_err-put_next-clause-any_moment
returns-in_err-put_next-clause-any_moment g c =
    let s = (g.met.D.Disk g.world.𝓛 g.world.𝓜 g.world.𝓡 ((λ s x. x), (λ x. x), (λ x. x), λ x. x)).sound in
    let cell = c.args.self.now in
    let nine = c.requires.slot in
    let next = c.args.payload.now in
    let old = g.D.Disk.state c.args.disk.now in
    let mid = g.D.Disk.state c.put_next.new.disk in
    let wrote = putting cell nine next c.requires.length c.requires.closed old mid _ c.requires.known c.put_next.ensures in
    let run = put_run cell nine next c.requires.length c.requires.closed old mid _ (s c.args.disk.now) c.requires.known c.put_next.ensures in
    run

pub returns-in_err-sync-clause-known : goal.returns-in_err-sync-clause-known
returns-in_err-sync-clause-known g c =
    let s = (g.met.D.Disk g.world.𝓛 g.world.𝓜 g.world.𝓡 ((λ s x. x), (λ x. x), (λ x. x), λ x. x)).sound in
    let cell = c.args.self.now in
    let nine = c.requires.slot in
    let next = c.args.payload.now in
    let old = g.D.Disk.state c.args.disk.now in
    let mid = g.D.Disk.state c.put_next.new.disk in
    let wrote = putting cell nine next c.requires.length c.requires.closed old mid _ c.requires.known c.put_next.ensures in
    let new = g.D.Disk.state c.sync.new.self in
    known_again cell (stored cell old.seen) new (s c.sync.new.self) (cell_sync cell old mid new _ wrote c.sync.ensures)

pub returns-in_err-sync-clause-same : goal.returns-in_err-sync-clause-same
returns-in_err-sync-clause-same g c =
    let s = (g.met.D.Disk g.world.𝓛 g.world.𝓜 g.world.𝓡 ((λ s x. x), (λ x. x), (λ x. x), λ x. x)).sound in
    let cell = c.args.self.now in
    let nine = c.requires.slot in
    let next = c.args.payload.now in
    let old = g.D.Disk.state c.args.disk.now in
    let mid = g.D.Disk.state c.put_next.new.disk in
    let wrote = putting cell nine next c.requires.length c.requires.closed old mid _ c.requires.known c.put_next.ensures in
    let new = g.D.Disk.state c.sync.new.self in
    same_force cell old new (cell_sync cell old mid new _ wrote c.sync.ensures)

pub returns-in_err-sync-clause-any_moment : goal.returns-in_err-sync-clause-any_moment
returns-in_err-sync-clause-any_moment g c =
    let s = (g.met.D.Disk g.world.𝓛 g.world.𝓜 g.world.𝓡 ((λ s x. x), (λ x. x), (λ x. x), λ x. x)).sound in
    let cell = c.args.self.now in
    let nine = c.requires.slot in
    let next = c.args.payload.now in
    let old = g.D.Disk.state c.args.disk.now in
    let mid = g.D.Disk.state c.put_next.new.disk in
    let wrote = putting cell nine next c.requires.length c.requires.closed old mid _ c.requires.known c.put_next.ensures in
    let run = put_run cell nine next c.requires.length c.requires.closed old mid _ (s c.args.disk.now) c.requires.known c.put_next.ensures in
    let new = g.D.Disk.state c.sync.new.self in
    sync_run cell old mid new _ wrote c.sync.ensures run

pub returns-clause-known : goal.returns-clause-known
returns-clause-known g c =
    let s = (g.met.D.Disk g.world.𝓛 g.world.𝓜 g.world.𝓡 ((λ s x. x), (λ x. x), (λ x. x), λ x. x)).sound in
    let cell = c.args.self.now in
    let nine = c.requires.slot in
    let next = c.args.payload.now in
    let old = g.D.Disk.state c.args.disk.now in
    let mid = g.D.Disk.state c.put_next.new.disk in
    let wrote = putting cell nine next c.requires.length c.requires.closed old mid _ c.requires.known c.put_next.ensures in
    let new = g.D.Disk.state c.sync.new.self in
    known_again cell (stored cell old.seen) new (s c.sync.new.self) (cell_sync cell old mid new _ wrote c.sync.ensures)

pub returns-clause-same : goal.returns-clause-same
returns-clause-same g c =
    let s = (g.met.D.Disk g.world.𝓛 g.world.𝓜 g.world.𝓡 ((λ s x. x), (λ x. x), (λ x. x), λ x. x)).sound in
    let cell = c.args.self.now in
    let nine = c.requires.slot in
    let next = c.args.payload.now in
    let old = g.D.Disk.state c.args.disk.now in
    let mid = g.D.Disk.state c.put_next.new.disk in
    let wrote = putting cell nine next c.requires.length c.requires.closed old mid _ c.requires.known c.put_next.ensures in
    let new = g.D.Disk.state c.sync.new.self in
    same_force cell old new (cell_sync cell old mid new _ wrote c.sync.ensures)

pub returns-clause-any_moment : goal.returns-clause-any_moment
returns-clause-any_moment g c =
    let s = (g.met.D.Disk g.world.𝓛 g.world.𝓜 g.world.𝓡 ((λ s x. x), (λ x. x), (λ x. x), λ x. x)).sound in
    let cell = c.args.self.now in
    let nine = c.requires.slot in
    let next = c.args.payload.now in
    let old = g.D.Disk.state c.args.disk.now in
    let mid = g.D.Disk.state c.put_next.new.disk in
    let wrote = putting cell nine next c.requires.length c.requires.closed old mid _ c.requires.known c.put_next.ensures in
    let run = put_run cell nine next c.requires.length c.requires.closed old mid _ (s c.args.disk.now) c.requires.known c.put_next.ensures in
    let new = g.D.Disk.state c.sync.new.self in
    sync_run cell old mid new _ wrote c.sync.ensures run

pub returns-clause-staged : goal.returns-clause-staged
returns-clause-staged g c =
    let s = (g.met.D.Disk g.world.𝓛 g.world.𝓜 g.world.𝓡 ((λ s x. x), (λ x. x), (λ x. x), λ x. x)).sound in
    let cell = c.args.self.now in
    let nine = c.requires.slot in
    let next = c.args.payload.now in
    let old = g.D.Disk.state c.args.disk.now in
    let mid = g.D.Disk.state c.put_next.new.disk in
    let wrote = putting cell nine next c.requires.length c.requires.closed old mid _ c.requires.known c.put_next.ensures in
    let new = g.D.Disk.state c.sync.new.self in
    let kept = next_kept cell nine next c.requires.length c.requires.closed old mid new _ _ (s c.sync.new.self) c.requires.below c.requires.known c.in_ok-put_next.ensures c.in_ok-sync.ensures in
    staged_as cell nine next new (s c.sync.new.self) kept

pub returns-clause-payload : goal.returns-clause-payload
returns-clause-payload g c =
    let s = (g.met.D.Disk g.world.𝓛 g.world.𝓜 g.world.𝓡 ((λ s x. x), (λ x. x), (λ x. x), λ x. x)).sound in
    let cell = c.args.self.now in
    let nine = c.requires.slot in
    let next = c.args.payload.now in
    let old = g.D.Disk.state c.args.disk.now in
    let mid = g.D.Disk.state c.put_next.new.disk in
    let wrote = putting cell nine next c.requires.length c.requires.closed old mid _ c.requires.known c.put_next.ensures in
    let new = g.D.Disk.state c.sync.new.self in
    let kept = next_kept cell nine next c.requires.length c.requires.closed old mid new _ _ (s c.sync.new.self) c.requires.below c.requires.known c.in_ok-put_next.ensures c.in_ok-sync.ensures in
    λ told. (kept.reads told).payload

pub returns-in_err-put_next-clause-refused : goal.returns-in_err-put_next-clause-refused
returns-in_err-put_next-clause-refused g c =
    let old = g.D.Disk.state c.args.disk.now in
    let mid = g.D.Disk.state c.put_next.new.disk in
    if_err c.from_residual.result c.in_err-put_next.field-0.0 _ c.from_residual.ensures.1
    (λ e gives. refused_first c.in_err-put_next.field-0.0 e old.meter mid.meter c.in_err-put_next.ensures.meter gives)

pub returns-in_err-sync-clause-refused : goal.returns-in_err-sync-clause-refused
returns-in_err-sync-clause-refused g c =
    let old = g.D.Disk.state c.args.disk.now in
    let mid = g.D.Disk.state c.put_next.new.disk in
    let new = g.D.Disk.state c.sync.new.self in
    if_err c.from_residual-in_err-sync.result c.in_err-sync.field-0.0 _ c.from_residual-in_err-sync.ensures.1
    (λ e gives. refused_second c.in_err-sync.field-0.0 e _ old.meter mid.meter new.meter c.in_ok-put_next.ensures.meter c.in_err-sync.ensures.meter gives)

pub returns-clause-calls : goal.returns-clause-calls
returns-clause-calls g c =
    let old = g.D.Disk.state c.args.disk.now in
    let mid = g.D.Disk.state c.put_next.new.disk in
    let new = g.D.Disk.state c.sync.new.self in
    made_both old.meter mid.meter new.meter _ _ c.in_ok-put_next.ensures.meter c.in_ok-sync.ensures.meter

pub returns-clause-no_fault : goal.returns-clause-no_fault
returns-clause-no_fault g c =
    let old = g.D.Disk.state c.args.disk.now in
    let mid = g.D.Disk.state c.put_next.new.disk in
    let new = g.D.Disk.state c.sync.new.self in
    calm_both old.meter mid.meter new.meter _ _ c.in_ok-put_next.ensures.meter c.in_ok-sync.ensures.meter

pub returns-in_err-put_next-clause-asked : goal.returns-in_err-put_next-clause-asked
returns-in_err-put_next-clause-asked g c =
    let old = g.D.Disk.state c.args.disk.now in
    let mid = g.D.Disk.state c.put_next.new.disk in
    asks_first c.from_residual.result c.in_err-put_next.field-0.0 old.meter mid.meter c.in_err-put_next.ensures.meter c.from_residual.ensures.1

pub returns-in_err-sync-clause-asked : goal.returns-in_err-sync-clause-asked
returns-in_err-sync-clause-asked g c =
    let old = g.D.Disk.state c.args.disk.now in
    let mid = g.D.Disk.state c.put_next.new.disk in
    let new = g.D.Disk.state c.sync.new.self in
    asks_both c.from_residual-in_err-sync.result _ old.meter mid.meter new.meter _ c.in_ok-put_next.ensures.meter c.in_err-sync.ensures.meter

pub returns-clause-asked : goal.returns-clause-asked
returns-clause-asked g c =
    let old = g.D.Disk.state c.args.disk.now in
    let mid = g.D.Disk.state c.put_next.new.disk in
    let new = g.D.Disk.state c.sync.new.self in
    asks_both _ _ old.meter mid.meter new.meter _ c.in_ok-put_next.ensures.meter c.in_ok-sync.ensures.meter
