-- The crew is what is told at the beginning, and it fits.
use Rattle.std.proofs.Common.{[], List, sym, subst}
use Rattle.mission_model.specs.declared.flight_line.Actor.{Actor}
use Rattle.mission_model.specs.declared.schedule.InputLine.{InputLine}
use Rattle.vehicle_core.specs.declared.local.Local.{Local}
use Rattle.vehicle_core.specs.Seats.{Sorted}
use Rattle.vehicle_core.specs.Told.{begun}
use Rattle.vehicle_core.specs.Fits.{SharedFits}
use Rattle.vehicle_core.specs.CoreState.{Tells, CoreFits}
use Rattle.vehicle_core.proofs.Beginning.{shared_fits, crew_fits, crew_told}
use Rattle.vehicle_core.proofs.boot_core.Core.new.Goals as goal

pub returns-clause-fits : goal.returns-clause-fits
returns-clause-fits g c =
    let boot = c.args.boot in
    let sorted : Sorted boot.links boot.watchers boot.inputs [] c.in_ok-schedules.schedules.items = subst (λ (all : List (Actor × InputLine)). Sorted boot.links boot.watchers all [] c.in_ok-schedules.schedules.items) c.into_vec.ensures c.in_ok-schedules.ensures in
    let shared : SharedFits c.in_ok-shared.shared = shared_fits boot.links boot.watchers c.args.state.now c.in_ok-shared.shared c.requires.state c.in_ok-shared.ensures in
    subst (λ (ls : List (Local g.row.W.Denot)). CoreFits g.W.Watcher.waits (record { shared = c.in_ok-shared.shared; locals = ls; links = boot.links })) (sym c.in_ok-locals.ensures)
    (crew_fits g.W.Watcher.waits boot c.args.state.now c.in_ok-shared.shared c.in_ok-shared.ensures shared c.requires.limits c.in_ok-navigator.navigator c.in_ok-schedules.schedules.items c.args.watchers.items c.requires.watchers c.in_ok-navigator.ensures.begun c.in_ok-navigator.ensures.shown sorted)

pub returns-clause-begun : goal.returns-clause-begun
returns-clause-begun g c =
    let boot = c.args.boot in
    let sorted : Sorted boot.links boot.watchers boot.inputs [] c.in_ok-schedules.schedules.items = subst (λ (all : List (Actor × InputLine)). Sorted boot.links boot.watchers all [] c.in_ok-schedules.schedules.items) c.into_vec.ensures c.in_ok-schedules.ensures in
    subst (λ (ls : List (Local g.row.W.Denot)). Tells c.in_ok-shared.shared ls (begun boot c.args.state.now c.args.watchers.items)) (sym c.in_ok-locals.ensures)
    (crew_told boot c.args.state.now c.in_ok-shared.shared c.in_ok-navigator.navigator c.in_ok-schedules.schedules.items c.args.watchers.items c.requires.watchers c.in_ok-shared.ensures c.in_ok-navigator.ensures.begun c.in_ok-navigator.ensures.shown sorted)
