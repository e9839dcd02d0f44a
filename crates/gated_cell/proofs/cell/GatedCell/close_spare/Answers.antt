use Rattle.gated_cell.specs.Slots.{known_again}
use Rattle.gated_cell.specs.Cell.{stored}
use Rattle.std.proofs.Common.{true}
use Rattle.gated_cell.proofs.Closing.{cell_start, same_force, shutting, shut_run, cell_sync, sync_run, shut_kept}
use Rattle.gated_cell.proofs.Counting.{if_err, not_closed, refused_first, refused_second, made_both, calm_both}
use Rattle.gated_cell.proofs.Counting.{asks_first, asks_both}
use Rattle.gated_cell.proofs.cell.GatedCell.close_spare.Goals as goal

pub returns-then-self-clause-any_moment : goal.returns-then-self-clause-any_moment
returns-then-self-clause-any_moment g c =
    let old = g.D.Disk.state c.args.disk.now in
    cell_start c.args.self.now old ((g.met.D.Disk g.world.𝓛 g.world.𝓜 g.world.𝓡 ((λ s x. x), (λ x. x), (λ x. x), λ x. x)).sound c.args.disk.now) c.requires.known

pub returns-in_err-shut_spare-clause-known : goal.returns-in_err-shut_spare-clause-known
returns-in_err-shut_spare-clause-known g c =
    let s = (g.met.D.Disk g.world.𝓛 g.world.𝓜 g.world.𝓡 ((λ s x. x), (λ x. x), (λ x. x), λ x. x)).sound in
    let cell = c.args.self.now in
    let nine = c.requires.slot in
    let old = g.D.Disk.state c.args.disk.now in
    let mid = g.D.Disk.state c.shut_spare.new.disk in
    let wrote = shutting cell nine old mid _ c.requires.known c.shut_spare.ensures in
    known_again cell (stored cell old.seen) mid (s c.shut_spare.new.disk) wrote

pub returns-in_err-shut_spare-clause-same : goal.returns-in_err-shut_spare-clause-same
returns-in_err-shut_spare-clause-same g c =
    let s = (g.met.D.Disk g.world.𝓛 g.world.𝓜 g.world.𝓡 ((λ s x. x), (λ x. x), (λ x. x), λ x. x)).sound in
    let cell = c.args.self.now in
    let nine = c.requires.slot in
    let old = g.D.Disk.state c.args.disk.now in
    let mid = g.D.Disk.state c.shut_spare.new.disk in
    let wrote = shutting cell nine old mid _ c.requires.known c.shut_spare.ensures in
    same_force cell old mid wrote

pub returns-in_err-shut_spare-clause-any_moment : goal.returns-in_err-shut_spare-clause-any_moment
returns-in_err-shut_spare-clause-any_moment g c =
    let s = (g.met.D.Disk g.world.𝓛 g.world.𝓜 g.world.𝓡 ((λ s x. x), (λ x. x), (λ x. x), λ x. x)).sound in
    let cell = c.args.self.now in
    let nine = c.requires.slot in
    let old = g.D.Disk.state c.args.disk.now in
    let mid = g.D.Disk.state c.shut_spare.new.disk in
    let wrote = shutting cell nine old mid _ c.requires.known c.shut_spare.ensures in
    let run = shut_run cell nine old mid _ (s c.args.disk.now) c.requires.known c.shut_spare.ensures in
    run

pub returns-in_err-sync-clause-known : goal.returns-in_err-sync-clause-known
returns-in_err-sync-clause-known g c =
    let s = (g.met.D.Disk g.world.𝓛 g.world.𝓜 g.world.𝓡 ((λ s x. x), (λ x. x), (λ x. x), λ x. x)).sound in
    let cell = c.args.self.now in
    let nine = c.requires.slot in
    let old = g.D.Disk.state c.args.disk.now in
    let mid = g.D.Disk.state c.shut_spare.new.disk in
    let wrote = shutting cell nine old mid _ c.requires.known c.shut_spare.ensures in
    let new = g.D.Disk.state c.sync.new.self in
    known_again cell (stored cell old.seen) new (s c.sync.new.self) (cell_sync cell old mid new _ wrote c.sync.ensures)

pub returns-in_err-sync-clause-same : goal.returns-in_err-sync-clause-same
returns-in_err-sync-clause-same g c =
    let s = (g.met.D.Disk g.world.𝓛 g.world.𝓜 g.world.𝓡 ((λ s x. x), (λ x. x), (λ x. x), λ x. x)).sound in
    let cell = c.args.self.now in
    let nine = c.requires.slot in
    let old = g.D.Disk.state c.args.disk.now in
    let mid = g.D.Disk.state c.shut_spare.new.disk in
    let wrote = shutting cell nine old mid _ c.requires.known c.shut_spare.ensures in
    let new = g.D.Disk.state c.sync.new.self in
    same_force cell old new (cell_sync cell old mid new _ wrote c.sync.ensures)

pub returns-in_err-sync-clause-any_moment : goal.returns-in_err-sync-clause-any_moment
returns-in_err-sync-clause-any_moment g c =
    let s = (g.met.D.Disk g.world.𝓛 g.world.𝓜 g.world.𝓡 ((λ s x. x), (λ x. x), (λ x. x), λ x. x)).sound in
    let cell = c.args.self.now in
    let nine = c.requires.slot in
    let old = g.D.Disk.state c.args.disk.now in
    let mid = g.D.Disk.state c.shut_spare.new.disk in
    let wrote = shutting cell nine old mid _ c.requires.known c.shut_spare.ensures in
    let run = shut_run cell nine old mid _ (s c.args.disk.now) c.requires.known c.shut_spare.ensures in
    let new = g.D.Disk.state c.sync.new.self in
    sync_run cell old mid new _ wrote c.sync.ensures run

pub returns-clause-known : goal.returns-clause-known
returns-clause-known g c =
    let s = (g.met.D.Disk g.world.𝓛 g.world.𝓜 g.world.𝓡 ((λ s x. x), (λ x. x), (λ x. x), λ x. x)).sound in
    let cell = c.args.self.now in
    let nine = c.requires.slot in
    let old = g.D.Disk.state c.args.disk.now in
    let mid = g.D.Disk.state c.shut_spare.new.disk in
    let wrote = shutting cell nine old mid _ c.requires.known c.shut_spare.ensures in
    let new = g.D.Disk.state c.sync.new.self in
    known_again (record cell { spare_closed = true }) (stored cell old.seen) new (s c.sync.new.self) (shut_kept cell nine old mid new _ _ (s c.sync.new.self) c.requires.known c.in_ok-shut_spare.ensures c.in_ok-sync.ensures)

pub returns-clause-same : goal.returns-clause-same
returns-clause-same g c =
    let s = (g.met.D.Disk g.world.𝓛 g.world.𝓜 g.world.𝓡 ((λ s x. x), (λ x. x), (λ x. x), λ x. x)).sound in
    let cell = c.args.self.now in
    let nine = c.requires.slot in
    let old = g.D.Disk.state c.args.disk.now in
    let mid = g.D.Disk.state c.shut_spare.new.disk in
    let wrote = shutting cell nine old mid _ c.requires.known c.shut_spare.ensures in
    let new = g.D.Disk.state c.sync.new.self in
    same_force cell old new (cell_sync cell old mid new _ wrote c.sync.ensures)

pub returns-clause-any_moment : goal.returns-clause-any_moment
returns-clause-any_moment g c =
    let s = (g.met.D.Disk g.world.𝓛 g.world.𝓜 g.world.𝓡 ((λ s x. x), (λ x. x), (λ x. x), λ x. x)).sound in
    let cell = c.args.self.now in
    let nine = c.requires.slot in
    let old = g.D.Disk.state c.args.disk.now in
    let mid = g.D.Disk.state c.shut_spare.new.disk in
    let wrote = shutting cell nine old mid _ c.requires.known c.shut_spare.ensures in
    let run = shut_run cell nine old mid _ (s c.args.disk.now) c.requires.known c.shut_spare.ensures in
    let new = g.D.Disk.state c.sync.new.self in
    sync_run cell old mid new _ wrote c.sync.ensures run

pub returns-in_err-shut_spare-clause-refused : goal.returns-in_err-shut_spare-clause-refused
returns-in_err-shut_spare-clause-refused g c =
    let old = g.D.Disk.state c.args.disk.now in
    let mid = g.D.Disk.state c.shut_spare.new.disk in
    if_err c.from_residual.result c.in_err-shut_spare.field-0.0 _ c.from_residual.ensures.1
    (λ e gives. not_closed c.args.self.now.generation old.meter mid.meter e (refused_first c.in_err-shut_spare.field-0.0 e old.meter mid.meter c.in_err-shut_spare.ensures.meter gives))

pub returns-in_err-sync-clause-refused : goal.returns-in_err-sync-clause-refused
returns-in_err-sync-clause-refused g c =
    let old = g.D.Disk.state c.args.disk.now in
    let mid = g.D.Disk.state c.shut_spare.new.disk in
    let new = g.D.Disk.state c.sync.new.self in
    if_err c.from_residual-in_err-sync.result c.in_err-sync.field-0.0 _ c.from_residual-in_err-sync.ensures.1
    (λ e gives. not_closed c.args.self.now.generation old.meter new.meter e (refused_second c.in_err-sync.field-0.0 e _ old.meter mid.meter new.meter c.in_ok-shut_spare.ensures.meter c.in_err-sync.ensures.meter gives))

pub returns-clause-calls : goal.returns-clause-calls
returns-clause-calls g c =
    let old = g.D.Disk.state c.args.disk.now in
    let mid = g.D.Disk.state c.shut_spare.new.disk in
    let new = g.D.Disk.state c.sync.new.self in
    made_both old.meter mid.meter new.meter _ _ c.in_ok-shut_spare.ensures.meter c.in_ok-sync.ensures.meter

pub returns-clause-no_fault : goal.returns-clause-no_fault
returns-clause-no_fault g c =
    let old = g.D.Disk.state c.args.disk.now in
    let mid = g.D.Disk.state c.shut_spare.new.disk in
    let new = g.D.Disk.state c.sync.new.self in
    calm_both old.meter mid.meter new.meter _ _ c.in_ok-shut_spare.ensures.meter c.in_ok-sync.ensures.meter

pub returns-in_err-shut_spare-clause-asked : goal.returns-in_err-shut_spare-clause-asked
returns-in_err-shut_spare-clause-asked g c = λ below.
    let old = g.D.Disk.state c.args.disk.now in
    let mid = g.D.Disk.state c.shut_spare.new.disk in
    asks_first c.from_residual.result c.in_err-shut_spare.field-0.0 old.meter mid.meter c.in_err-shut_spare.ensures.meter c.from_residual.ensures.1

pub returns-in_err-sync-clause-asked : goal.returns-in_err-sync-clause-asked
returns-in_err-sync-clause-asked g c = λ below.
    let old = g.D.Disk.state c.args.disk.now in
    let mid = g.D.Disk.state c.shut_spare.new.disk in
    let new = g.D.Disk.state c.sync.new.self in
    asks_both c.from_residual-in_err-sync.result _ old.meter mid.meter new.meter _ c.in_ok-shut_spare.ensures.meter c.in_err-sync.ensures.meter

pub returns-clause-asked : goal.returns-clause-asked
returns-clause-asked g c = λ below.
    let old = g.D.Disk.state c.args.disk.now in
    let mid = g.D.Disk.state c.shut_spare.new.disk in
    let new = g.D.Disk.state c.sync.new.self in
    asks_both _ _ old.meter mid.meter new.meter _ c.in_ok-shut_spare.ensures.meter c.in_ok-sync.ensures.meter
