use Rattle.std.specs.Prelude.{◌+◌, List, Err}
use Rattle.std.proofs.Common.{subst}
use Rattle.dataman_layout.specs.declared.layout.Layout.{Layout}
use Rattle.dataman_layout.specs.declared.layout.Layout.TheVariants.{One, Two}
use Rattle.recovery.specs.Booting.{Boots}
use Rattle.recovery.specs.Faults.{fault_behind}
use Rattle.recovery.specs.Found.{AreStates}
use Rattle.recovery.specs.Steps.{StoppedBy}
use Rattle.recovery.proofs.Booted.{boots_stopped, boots_two, boots_one, compat_stopped, behind_stopped, looked, only_looked, known_looked, told_looked, layout_last, read_last, found_two}
use Rattle.recovery.proofs.Gathered.{of_first}
use Rattle.recovery.proofs.Steps.{passed_on, step_then}
use Rattle.recovery.proofs.pass.find.Goals as goal

pub returns-in_err-cell : goal.returns-in_err-cell
returns-in_err-cell g c =
    let sound = (g.met.D.Disk g.world.𝓛 g.world.𝓜 g.world.𝓡 ((λ s x. x), (λ x. x), (λ x. x), λ x. x)).sound in
    let a = g.D.Disk.state c.args.disk.now in
    let b = g.D.Disk.state c.open_compat.new.disk in
    let f = c.in_err-cell.field-0.0 in
    passed_on (λ r. Boots 0 a b r) c.from_residual.result f c.from_residual.ensures.1 (boots_stopped a (sound c.args.disk.now) 2 b f c.in_err-cell.ensures.step (λ told. compat_stopped a.seen f (c.in_err-cell.ensures.answers told)))

pub returns-in_err-found : goal.returns-in_err-found
returns-in_err-found g c =
    let sound = (g.met.D.Disk g.world.𝓛 g.world.𝓜 g.world.𝓡 ((λ s x. x), (λ x. x), (λ x. x), λ x. x)).sound in
    let a = g.D.Disk.state c.args.disk.now in
    let b = g.D.Disk.state c.open_compat.new.disk in
    let d = g.D.Disk.state c.find_behind.new.disk in
    let layout = c.in_ok-cell.layout in
    let f = c.in_err-found.field-0.0 in
    let one = c.in_ok-cell.ensures.step in
    let behind = of_first a b one.still.seen one.time.tells (λ (l : List _). StoppedBy (fault_behind layout l) f) c.in_err-found.ensures.answers in
    passed_on (λ r. Boots 0 a d r) c.from_residual-in_err-found.result f c.from_residual-in_err-found.ensures.1
    (boots_stopped a (sound c.args.disk.now) (2 + 0) d f (step_then 2 0 a b d (c.in_ok-cell.cell, layout) (Err f) one c.in_err-found.ensures.step)
    (λ told. behind_stopped a.seen layout f (c.in_ok-cell.ensures.answers told).0 (c.in_ok-cell.ensures.answers told).1.1 (behind told)))

pub find_moved-requires-clause-only : goal.find_moved-requires-clause-only
find_moved-requires-clause-only g c κs within =
    let sound = (g.met.D.Disk g.world.𝓛 g.world.𝓜 g.world.𝓡 ((λ s x. x), (λ x. x), (λ x. x), λ x. x)).sound in
    let a = g.D.Disk.state c.args.disk.now in
    let b = g.D.Disk.state c.open_compat.new.disk in
    let d = g.D.Disk.state c.find_behind.new.disk in
    let layout = c.in_ok-cell.layout in
    let cell = c.in_ok-cell.cell in
    let found = c.in_ok-found.found in
    only_looked a b d layout cell found (sound c.find_behind.new.disk) c.requires.only c.in_ok-cell.ensures.step c.in_ok-found.ensures.step c.in_ok-cell.ensures.answers c.in_ok-found.ensures.answers

pub find_moved-requires-clause-known : goal.find_moved-requires-clause-known
find_moved-requires-clause-known g c κs within =
    let sound = (g.met.D.Disk g.world.𝓛 g.world.𝓜 g.world.𝓡 ((λ s x. x), (λ x. x), (λ x. x), λ x. x)).sound in
    let a = g.D.Disk.state c.args.disk.now in
    let b = g.D.Disk.state c.open_compat.new.disk in
    let d = g.D.Disk.state c.find_behind.new.disk in
    let layout = c.in_ok-cell.layout in
    let cell = c.in_ok-cell.cell in
    let found = c.in_ok-found.found in
    known_looked a b d layout cell found (sound c.find_behind.new.disk) c.requires.only c.in_ok-cell.ensures.step c.in_ok-found.ensures.step c.in_ok-cell.ensures.answers c.in_ok-found.ensures.answers

pub find_moved-requires-clause-layout : goal.find_moved-requires-clause-layout
find_moved-requires-clause-layout g c κs within =
    let sound = (g.met.D.Disk g.world.𝓛 g.world.𝓜 g.world.𝓡 ((λ s x. x), (λ x. x), (λ x. x), λ x. x)).sound in
    let a = g.D.Disk.state c.args.disk.now in
    let b = g.D.Disk.state c.open_compat.new.disk in
    let d = g.D.Disk.state c.find_behind.new.disk in
    let layout = c.in_ok-cell.layout in
    let cell = c.in_ok-cell.cell in
    let found = c.in_ok-found.found in
    layout_last a b d layout cell found (sound c.find_behind.new.disk) c.requires.only c.in_ok-cell.ensures.step c.in_ok-found.ensures.step c.in_ok-cell.ensures.answers c.in_ok-found.ensures.answers One c.in-One.is

pub find_moved-requires-clause-states : goal.find_moved-requires-clause-states
find_moved-requires-clause-states g c κs within = subst (λ (l : Layout). AreStates l c.in_ok-found.found.states) c.in-One.is c.in_ok-found.ensures.states

pub find_moved-requires-clause-read : goal.find_moved-requires-clause-read
find_moved-requires-clause-read g c κs within =
    let sound = (g.met.D.Disk g.world.𝓛 g.world.𝓜 g.world.𝓡 ((λ s x. x), (λ x. x), (λ x. x), λ x. x)).sound in
    let a = g.D.Disk.state c.args.disk.now in
    let b = g.D.Disk.state c.open_compat.new.disk in
    let d = g.D.Disk.state c.find_behind.new.disk in
    let layout = c.in_ok-cell.layout in
    let cell = c.in_ok-cell.cell in
    let found = c.in_ok-found.found in
    read_last a b d layout cell found (sound c.find_behind.new.disk) c.requires.only c.in_ok-cell.ensures.step c.in_ok-found.ensures.step c.in_ok-cell.ensures.answers c.in_ok-found.ensures.answers One c.in-One.is

pub returns-in-One : goal.returns-in-One
returns-in-One g c =
    let sound = (g.met.D.Disk g.world.𝓛 g.world.𝓜 g.world.𝓡 ((λ s x. x), (λ x. x), (λ x. x), λ x. x)).sound in
    let a = g.D.Disk.state c.args.disk.now in
    let b = g.D.Disk.state c.open_compat.new.disk in
    let d = g.D.Disk.state c.find_behind.new.disk in
    let layout = c.in_ok-cell.layout in
    let cell = c.in_ok-cell.cell in
    let found = c.in_ok-found.found in
    let z = g.D.Disk.state c.find_moved.new.disk in
    boots_one a (sound c.args.disk.now) d found (looked a b d layout cell found (sound c.find_behind.new.disk) c.requires.only c.in_ok-cell.ensures.step c.in_ok-found.ensures.step c.in_ok-cell.ensures.answers c.in_ok-found.ensures.answers)
    (told_looked a b d layout cell found (sound c.find_behind.new.disk) c.requires.only c.in_ok-cell.ensures.step c.in_ok-found.ensures.step c.in_ok-cell.ensures.answers c.in_ok-found.ensures.answers One c.in-One.is) z c.find_moved.ensures.images c.find_moved.ensures.tells c.find_moved.ensures.steady
    c.find_moved.result c.find_moved.ensures.found c.find_moved.ensures.moved c.find_moved.ensures.of_disk c.find_moved.ensures.went

pub returns-in-Two : goal.returns-in-Two
returns-in-Two g c =
    let sound = (g.met.D.Disk g.world.𝓛 g.world.𝓜 g.world.𝓡 ((λ s x. x), (λ x. x), (λ x. x), λ x. x)).sound in
    let a = g.D.Disk.state c.args.disk.now in
    let b = g.D.Disk.state c.open_compat.new.disk in
    let d = g.D.Disk.state c.find_behind.new.disk in
    let layout = c.in_ok-cell.layout in
    let cell = c.in_ok-cell.cell in
    let found = c.in_ok-found.found in
    boots_two a (sound c.args.disk.now) d found (looked a b d layout cell found (sound c.find_behind.new.disk) c.requires.only c.in_ok-cell.ensures.step c.in_ok-found.ensures.step c.in_ok-cell.ensures.answers c.in_ok-found.ensures.answers)
    (found_two a b d layout cell found (sound c.find_behind.new.disk) c.requires.only c.in_ok-cell.ensures.step c.in_ok-found.ensures.step c.in_ok-cell.ensures.answers c.in_ok-found.ensures.answers c.in-Two.is c.in_ok-found.ensures.states c.in_ok-found.ensures.place c.in_ok-found.ensures.calm c.in_ok-found.ensures.within)
    (λ told. let all = told_looked a b d layout cell found (sound c.find_behind.new.disk) c.requires.only c.in_ok-cell.ensures.step c.in_ok-found.ensures.step c.in_ok-cell.ensures.answers c.in_ok-found.ensures.answers Two c.in-Two.is told in (all.0, all.1, all.2))
