use Rattle.std.specs.Prelude.{◌≡◌, ◌+◌, IsTrue, IfErr, Err, None, List}
use Rattle.std.proofs.Common.{sym, subst, ◌∙◌}
use Rattle.dataman_layout.specs.declared.layout.Layout.{Layout}
use Rattle.dataman_layout.specs.declared.layout.Layout.TheVariants.{One}
use Rattle.recovery.specs.declared.fault.BootFault.{BootFault}
use Rattle.recovery.specs.Booting.{MigrationCalls}
use Rattle.recovery.specs.Faults.{fault_behind}
use Rattle.recovery.specs.Found.{AllRead}
use Rattle.recovery.specs.Steps.{StoppedBy, IsOfDisk}
use Rattle.recovery.proofs.Booted.{compat_stopped, behind_stopped, looked, only_looked, known_looked, told_looked, layout_last, read_last, migration_of_disk, migration_stopped, still_stands, migration_images, migration_calls, not_two, moved_all}
use Rattle.recovery.proofs.Gathered.{of_first}
use Rattle.recovery.proofs.Steps.{passed_on, step_then, step_found, steady_trans}
use Rattle.recovery.proofs.migration.migrate.Goals as goal

pub returns-in_err-cell-clause-images : goal.returns-in_err-cell-clause-images
returns-in_err-cell-clause-images g c = λ told.
    let sound = (g.met.D.Disk g.world.𝓛 g.world.𝓜 g.world.𝓡 ((λ s x. x), (λ x. x), (λ x. x), λ x. x)).sound in
    let a = g.D.Disk.state c.args.disk.now in
    let b = g.D.Disk.state c.open_compat.new.disk in
    still_stands a (sound c.args.disk.now) c.requires.only b 2 _ c.open_compat.ensures.step

pub returns-in_err-cell-clause-tells : goal.returns-in_err-cell-clause-tells
returns-in_err-cell-clause-tells g c = c.open_compat.ensures.step.time.tells

pub returns-in_err-cell-clause-steady : goal.returns-in_err-cell-clause-steady
returns-in_err-cell-clause-steady g c = c.open_compat.ensures.step.steady

pub returns-in_err-cell-clause-of_disk : goal.returns-in_err-cell-clause-of_disk
returns-in_err-cell-clause-of_disk g c = λ told.
    let a = g.D.Disk.state c.args.disk.now in
    let f = c.in_err-cell.field-0.0 in
    passed_on (λ r. IfErr r IsOfDisk) c.from_residual.result f c.from_residual.ensures.1 (migration_of_disk a f c.requires.stands (λ t. compat_stopped a.seen f (c.in_err-cell.ensures.answers t)) told)

pub returns-in_err-cell-clause-calls : goal.returns-in_err-cell-clause-calls
returns-in_err-cell-clause-calls g c =
    let sound = (g.met.D.Disk g.world.𝓛 g.world.𝓜 g.world.𝓡 ((λ s x. x), (λ x. x), (λ x. x), λ x. x)).sound in
    let a = g.D.Disk.state c.args.disk.now in
    let b = g.D.Disk.state c.open_compat.new.disk in
    let f = c.in_err-cell.field-0.0 in
    passed_on (MigrationCalls a b) c.from_residual.result f c.from_residual.ensures.1 (migration_stopped a (sound c.args.disk.now) c.requires.only 2 b f c.in_err-cell.ensures.step)

pub returns-in_err-_one-clause-images : goal.returns-in_err-_one-clause-images
returns-in_err-_one-clause-images g c = λ told.
    let sound = (g.met.D.Disk g.world.𝓛 g.world.𝓜 g.world.𝓡 ((λ s x. x), (λ x. x), (λ x. x), λ x. x)).sound in
    let a = g.D.Disk.state c.args.disk.now in
    let b = g.D.Disk.state c.open_compat.new.disk in
    still_stands a (sound c.args.disk.now) c.requires.only b 2 _ c.open_compat.ensures.step

pub returns-in_err-_one-clause-tells : goal.returns-in_err-_one-clause-tells
returns-in_err-_one-clause-tells g c = c.open_compat.ensures.step.time.tells

pub returns-in_err-_one-clause-steady : goal.returns-in_err-_one-clause-steady
returns-in_err-_one-clause-steady g c = c.open_compat.ensures.step.steady

pub returns-in_err-_one-clause-of_disk : goal.returns-in_err-_one-clause-of_disk
returns-in_err-_one-clause-of_disk g c = λ told. absurd (not_two (g.D.Disk.state c.args.disk.now) c.in_ok-cell.layout c.requires.stands (λ t. (c.in_ok-cell.ensures.answers t).1.1) told c.in_err-_one.ensures.two.1)

pub returns-in_err-_one-clause-calls : goal.returns-in_err-_one-clause-calls
returns-in_err-_one-clause-calls g c =
    let sound = (g.met.D.Disk g.world.𝓛 g.world.𝓜 g.world.𝓡 ((λ s x. x), (λ x. x), (λ x. x), λ x. x)).sound in
    let a = g.D.Disk.state c.args.disk.now in
    let b = g.D.Disk.state c.open_compat.new.disk in
    let f = c.in_err-_one.field-0.0 in
    passed_on (MigrationCalls a b) c.from_residual-in_err-_one.result f c.from_residual-in_err-_one.ensures.1
    (migration_stopped a (sound c.args.disk.now) c.requires.only {T = Unit {0}} 2 b f (step_found 2 2 a b (c.in_ok-cell.cell, c.in_ok-cell.layout) f (subst (λ (x : BootFault). IsOfDisk x → ⊥) (sym c.in_err-_one.ensures.two.0) (λ no. no)) c.in_ok-cell.ensures.step))

pub returns-in_err-found-clause-images : goal.returns-in_err-found-clause-images
returns-in_err-found-clause-images g c = λ told.
    let sound = (g.met.D.Disk g.world.𝓛 g.world.𝓜 g.world.𝓡 ((λ s x. x), (λ x. x), (λ x. x), λ x. x)).sound in
    let a = g.D.Disk.state c.args.disk.now in
    let b = g.D.Disk.state c.open_compat.new.disk in
    let d = g.D.Disk.state c.find_behind.new.disk in
    still_stands a (sound c.args.disk.now) c.requires.only d (2 + 0) _ (step_then 2 0 a b d (c.in_ok-cell.cell, c.in_ok-cell.layout) (Err c.in_err-found.field-0.0) c.in_ok-cell.ensures.step c.in_err-found.ensures.step)

pub returns-in_err-found-clause-tells : goal.returns-in_err-found-clause-tells
returns-in_err-found-clause-tells g c = c.find_behind.ensures.step.time.tells ∙ c.open_compat.ensures.step.time.tells

pub returns-in_err-found-clause-steady : goal.returns-in_err-found-clause-steady
returns-in_err-found-clause-steady g c =
    steady_trans (g.D.Disk.state c.args.disk.now).meter (g.D.Disk.state c.open_compat.new.disk).meter (g.D.Disk.state c.find_behind.new.disk).meter c.open_compat.ensures.step.steady c.find_behind.ensures.step.steady

pub returns-in_err-found-clause-of_disk : goal.returns-in_err-found-clause-of_disk
returns-in_err-found-clause-of_disk g c = λ told.
    let a = g.D.Disk.state c.args.disk.now in
    let b = g.D.Disk.state c.open_compat.new.disk in
    let f = c.in_err-found.field-0.0 in
    let one = c.in_ok-cell.ensures.step in
    let behind = of_first a b one.still.seen one.time.tells (λ (l : List _). StoppedBy (fault_behind One l) f) c.in_err-found.ensures.answers in
    let first = λ (t : IsTrue a.tells). behind_stopped a.seen One f (c.in_ok-cell.ensures.answers t).0 (sym c.in_ok-_one.ensures.one ∙ (c.in_ok-cell.ensures.answers t).1.1) (behind t) in
    passed_on (λ r. IfErr r IsOfDisk) c.from_residual-in_err-found.result f c.from_residual-in_err-found.ensures.1 (migration_of_disk a f c.requires.stands first told)

pub returns-in_err-found-clause-calls : goal.returns-in_err-found-clause-calls
returns-in_err-found-clause-calls g c =
    let sound = (g.met.D.Disk g.world.𝓛 g.world.𝓜 g.world.𝓡 ((λ s x. x), (λ x. x), (λ x. x), λ x. x)).sound in
    let a = g.D.Disk.state c.args.disk.now in
    let b = g.D.Disk.state c.open_compat.new.disk in
    let d = g.D.Disk.state c.find_behind.new.disk in
    let f = c.in_err-found.field-0.0 in
    passed_on (MigrationCalls a d) c.from_residual-in_err-found.result f c.from_residual-in_err-found.ensures.1
    (migration_stopped a (sound c.args.disk.now) c.requires.only (2 + 0) d f (step_then 2 0 a b d (c.in_ok-cell.cell, c.in_ok-cell.layout) (Err f) c.in_ok-cell.ensures.step c.in_err-found.ensures.step))

pub move_store-requires-clause-only : goal.move_store-requires-clause-only
move_store-requires-clause-only g c κs within =
    let sound = (g.met.D.Disk g.world.𝓛 g.world.𝓜 g.world.𝓡 ((λ s x. x), (λ x. x), (λ x. x), λ x. x)).sound in
    let a = g.D.Disk.state c.args.disk.now in
    let b = g.D.Disk.state c.open_compat.new.disk in
    let d = g.D.Disk.state c.find_behind.new.disk in
    let found = c.in_ok-found.found in
    let answers = subst (λ (l : Layout). IsTrue b.tells → (fault_behind l b.seen ≡ None) × AllRead l b.seen found.states found.mark_cell found.mark) (sym c.in_ok-_one.ensures.one) c.in_ok-found.ensures.answers in
    only_looked a b d c.in_ok-cell.layout c.in_ok-cell.cell found (sound c.find_behind.new.disk) c.requires.only c.in_ok-cell.ensures.step c.in_ok-found.ensures.step c.in_ok-cell.ensures.answers answers

pub move_store-requires-clause-known : goal.move_store-requires-clause-known
move_store-requires-clause-known g c κs within =
    let sound = (g.met.D.Disk g.world.𝓛 g.world.𝓜 g.world.𝓡 ((λ s x. x), (λ x. x), (λ x. x), λ x. x)).sound in
    let a = g.D.Disk.state c.args.disk.now in
    let b = g.D.Disk.state c.open_compat.new.disk in
    let d = g.D.Disk.state c.find_behind.new.disk in
    let found = c.in_ok-found.found in
    let answers = subst (λ (l : Layout). IsTrue b.tells → (fault_behind l b.seen ≡ None) × AllRead l b.seen found.states found.mark_cell found.mark) (sym c.in_ok-_one.ensures.one) c.in_ok-found.ensures.answers in
    known_looked a b d c.in_ok-cell.layout c.in_ok-cell.cell found (sound c.find_behind.new.disk) c.requires.only c.in_ok-cell.ensures.step c.in_ok-found.ensures.step c.in_ok-cell.ensures.answers answers

pub move_store-requires-clause-layout : goal.move_store-requires-clause-layout
move_store-requires-clause-layout g c κs within =
    let sound = (g.met.D.Disk g.world.𝓛 g.world.𝓜 g.world.𝓡 ((λ s x. x), (λ x. x), (λ x. x), λ x. x)).sound in
    let a = g.D.Disk.state c.args.disk.now in
    let b = g.D.Disk.state c.open_compat.new.disk in
    let d = g.D.Disk.state c.find_behind.new.disk in
    let found = c.in_ok-found.found in
    let answers = subst (λ (l : Layout). IsTrue b.tells → (fault_behind l b.seen ≡ None) × AllRead l b.seen found.states found.mark_cell found.mark) (sym c.in_ok-_one.ensures.one) c.in_ok-found.ensures.answers in
    layout_last a b d c.in_ok-cell.layout c.in_ok-cell.cell found (sound c.find_behind.new.disk) c.requires.only c.in_ok-cell.ensures.step c.in_ok-found.ensures.step c.in_ok-cell.ensures.answers answers One c.in_ok-_one.ensures.one

pub move_store-requires-clause-read : goal.move_store-requires-clause-read
move_store-requires-clause-read g c κs within =
    let sound = (g.met.D.Disk g.world.𝓛 g.world.𝓜 g.world.𝓡 ((λ s x. x), (λ x. x), (λ x. x), λ x. x)).sound in
    let a = g.D.Disk.state c.args.disk.now in
    let b = g.D.Disk.state c.open_compat.new.disk in
    let d = g.D.Disk.state c.find_behind.new.disk in
    let found = c.in_ok-found.found in
    let answers = subst (λ (l : Layout). IsTrue b.tells → (fault_behind l b.seen ≡ None) × AllRead l b.seen found.states found.mark_cell found.mark) (sym c.in_ok-_one.ensures.one) c.in_ok-found.ensures.answers in
    read_last a b d c.in_ok-cell.layout c.in_ok-cell.cell found (sound c.find_behind.new.disk) c.requires.only c.in_ok-cell.ensures.step c.in_ok-found.ensures.step c.in_ok-cell.ensures.answers answers One c.in_ok-_one.ensures.one

pub returns-clause-images : goal.returns-clause-images
returns-clause-images g c =
    let sound = (g.met.D.Disk g.world.𝓛 g.world.𝓜 g.world.𝓡 ((λ s x. x), (λ x. x), (λ x. x), λ x. x)).sound in
    let a = g.D.Disk.state c.args.disk.now in
    let b = g.D.Disk.state c.open_compat.new.disk in
    let d = g.D.Disk.state c.find_behind.new.disk in
    let found = c.in_ok-found.found in
    let answers = subst (λ (l : Layout). IsTrue b.tells → (fault_behind l b.seen ≡ None) × AllRead l b.seen found.states found.mark_cell found.mark) (sym c.in_ok-_one.ensures.one) c.in_ok-found.ensures.answers in
    let z = g.D.Disk.state c.move_store.new.disk in
    migration_images a (sound c.args.disk.now) c.requires.only d found (looked a b d c.in_ok-cell.layout c.in_ok-cell.cell found (sound c.find_behind.new.disk) c.requires.only c.in_ok-cell.ensures.step c.in_ok-found.ensures.step c.in_ok-cell.ensures.answers answers) z c.move_store.ensures.images

pub returns-clause-moved : goal.returns-clause-moved
returns-clause-moved g c =
    let sound = (g.met.D.Disk g.world.𝓛 g.world.𝓜 g.world.𝓡 ((λ s x. x), (λ x. x), (λ x. x), λ x. x)).sound in
    let a = g.D.Disk.state c.args.disk.now in
    let b = g.D.Disk.state c.open_compat.new.disk in
    let d = g.D.Disk.state c.find_behind.new.disk in
    let found = c.in_ok-found.found in
    let answers = subst (λ (l : Layout). IsTrue b.tells → (fault_behind l b.seen ≡ None) × AllRead l b.seen found.states found.mark_cell found.mark) (sym c.in_ok-_one.ensures.one) c.in_ok-found.ensures.answers in
    let z = g.D.Disk.state c.move_store.new.disk in
    moved_all a (sound c.args.disk.now) c.requires.only d found (looked a b d c.in_ok-cell.layout c.in_ok-cell.cell found (sound c.find_behind.new.disk) c.requires.only c.in_ok-cell.ensures.step c.in_ok-found.ensures.step c.in_ok-cell.ensures.answers answers) z c.move_store.result c.move_store.ensures.tells c.move_store.ensures.moved c.move_store.ensures.durable

pub returns-clause-tells : goal.returns-clause-tells
returns-clause-tells g c = c.move_store.ensures.tells ∙ c.find_behind.ensures.step.time.tells ∙ c.open_compat.ensures.step.time.tells

pub returns-clause-steady : goal.returns-clause-steady
returns-clause-steady g c =
    let a = (g.D.Disk.state c.args.disk.now).meter in
    let b = (g.D.Disk.state c.open_compat.new.disk).meter in
    let d = (g.D.Disk.state c.find_behind.new.disk).meter in
    steady_trans a b (g.D.Disk.state c.move_store.new.disk).meter c.open_compat.ensures.step.steady (steady_trans b d (g.D.Disk.state c.move_store.new.disk).meter c.find_behind.ensures.step.steady c.move_store.ensures.steady)

pub returns-clause-calls : goal.returns-clause-calls
returns-clause-calls g c =
    let sound = (g.met.D.Disk g.world.𝓛 g.world.𝓜 g.world.𝓡 ((λ s x. x), (λ x. x), (λ x. x), λ x. x)).sound in
    let a = g.D.Disk.state c.args.disk.now in
    let b = g.D.Disk.state c.open_compat.new.disk in
    let d = g.D.Disk.state c.find_behind.new.disk in
    let found = c.in_ok-found.found in
    let answers = subst (λ (l : Layout). IsTrue b.tells → (fault_behind l b.seen ≡ None) × AllRead l b.seen found.states found.mark_cell found.mark) (sym c.in_ok-_one.ensures.one) c.in_ok-found.ensures.answers in
    let z = g.D.Disk.state c.move_store.new.disk in
    migration_calls a (sound c.args.disk.now) c.requires.only d found (looked a b d c.in_ok-cell.layout c.in_ok-cell.cell found (sound c.find_behind.new.disk) c.requires.only c.in_ok-cell.ensures.step c.in_ok-found.ensures.step c.in_ok-cell.ensures.answers answers) z c.move_store.result (λ t. (told_looked a b d c.in_ok-cell.layout c.in_ok-cell.cell found (sound c.find_behind.new.disk) c.requires.only c.in_ok-cell.ensures.step c.in_ok-found.ensures.step c.in_ok-cell.ensures.answers answers One c.in_ok-_one.ensures.one t).3) c.move_store.ensures.went
