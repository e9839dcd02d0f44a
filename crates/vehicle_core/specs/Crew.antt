-- The locals at the beginning of a boot: worker, links, Navigator and watchers, with the schedules of all but the worker.
use Rattle.std.specs.Prelude.{ℕ, zero, suc, ◌+◌, false, List, [], ◌∷◌, None}
use Rattle.upload_session.specs.declared.session.Stage.TheVariants as stage
use Rattle.navigator.specs.NavState.{NavState}
use Rattle.vehicle_core.specs.declared.local.Local.{Local}
use Rattle.vehicle_core.specs.declared.local.Role.TheVariants as role
use Rattle.vehicle_core.specs.ScheduleState.{ScheduleState}

module _ {W : Type 0} where
  abbrev pub worker_local : Local W
  worker_local = record { number = 0; role = role.Worker None }

  abbrev pub link_local : ℕ → ScheduleState → Local W
  link_local number schedule = record { number = 1 + number; role = role.Link (record { number = number; session = record { link = number; stage = stage.Free }; schedule = schedule }) }

  abbrev pub nav_local : ℕ → NavState → ScheduleState → Local W
  nav_local links navigator schedule = record { number = 1 + links; role = role.Nav (record { navigator = navigator; schedule = schedule }) }

  abbrev pub watch_local : ℕ → ℕ → W → ScheduleState → Local W
  watch_local links number watcher schedule = record { number = 2 + links + number; role = role.Watch (record { number = number; watcher = watcher; busy = false; schedule = schedule }) }

  -- these watchers, from a number on
  abbrev pub watch_crew : ℕ → ℕ → List ScheduleState → List W → List (Local W)
  watch_crew links number (schedule ∷ schedules) (watcher ∷ watchers) = watch_local links number watcher schedule ∷ watch_crew links (suc number) schedules watchers
  watch_crew links number schedules watchers = []

  -- so many links from a number on, and behind them the Navigator and the watchers
  abbrev pub link_crew : ℕ → ℕ → NavState → List ScheduleState → List W → List (Local W)
  link_crew number (suc count) navigator (schedule ∷ schedules) watchers = link_local number schedule ∷ link_crew (suc number) count navigator schedules watchers
  link_crew number zero navigator (schedule ∷ schedules) watchers = nav_local number navigator schedule ∷ watch_crew number 0 schedules watchers
  link_crew number count navigator [] watchers = []

  abbrev pub crew_of : ℕ → NavState → List ScheduleState → List W → List (Local W)
  crew_of links navigator schedules watchers = worker_local ∷ link_crew 0 links navigator schedules watchers
