-- What the lines of a boot tell so far: where the board, the transfer and the meeting places stand, and of each actor what
-- its part below defines and the rest of its schedule. It names no vehicle and no store.
use Rattle.std.specs.Prelude.{ℕ, zero, suc, ◌==◌, Bool, true, List, [], ◌∷◌, ◌++◌, if◌then◌else◌}
use Rattle.mission_model.specs.declared.plan.PlanHead.{PlanHead}
use Rattle.mission_model.specs.declared.flight_line.Actor.{Actor}
use Rattle.mission_model.specs.declared.flight_line.Actor.TheVariants as actor
use Rattle.mission_model.specs.declared.schedule.BootScript.{BootScript}
use Rattle.mission_model.specs.declared.schedule.InputLine.{InputLine}
use Rattle.mission_model.specs.declared.vehicle.BootState.{BootState}
use Rattle.request_board.specs.BoardState.{BoardState}
use Rattle.request_board.specs.BoardCalls.{opened}
use Rattle.request_board.specs.WatchLaw.{WatchState, watch_begins}
use Rattle.transfer_lock.specs.TransferState.{TransferState}
use Rattle.transfer_lock.specs.TransferState as transfer
use Rattle.upload_session.specs.UploadState.{UploadState, Free}
use Rattle.navigator.specs.NavState.{NavTaken}
use Rattle.navigator.specs.EventLaw.{nav_at_boot}
use Rattle.vehicle_core.specs.ScheduleState.{ScheduleState, fresh, inputs_of}

-- what all actors share: the board, the transfer, the meeting places that clients came to, the last first, and whether the
-- power is on
pub record SharedTold : Type 0 where
  pub board : BoardState
  pub transfer : TransferState
  pub arrived : List ℕ
  pub power : Bool

-- how many clients came to a meeting place
abbrev pub arrivals : List ℕ → ℕ → ℕ
arrivals [] place = 0
arrivals (other ∷ places) place = if other == place then suc (arrivals places place) else arrivals places place

-- a link: its number, where it is with the plans that it brings, and its schedule
pub record LinkTold : Type 0 where
  pub number : ℕ
  pub upload : UploadState
  pub schedule : ScheduleState

-- the Navigator and its schedule
pub record NavTold : Type 0 where
  pub nav : NavTaken
  pub schedule : ScheduleState

-- a watcher: its number, the watcher as its lines lead it on, and its schedule
pub record WatchTold (W : Type 0) : Type 0 where
  pub number : ℕ
  pub watch : WatchState W
  pub schedule : ScheduleState

-- an actor; of the worker the board tells all
pub data ActorTold (W : Type 0) : Type 0 where
  Worker : ActorTold W
  Link : LinkTold → ActorTold W
  Nav : NavTold → ActorTold W
  Watch : WatchTold W → ActorTold W

-- the shared part, and the actors in the order of a round: worker, links, Navigator, watchers
pub record BootTold (W : Type 0) : Type 0 where
  pub shared : SharedTold
  pub actors : List (ActorTold W)

module _ {W : Type 0} where
  abbrev pub name_of : ActorTold W → Actor
  name_of Worker = actor.Worker
  name_of (Link l) = actor.Link l.number
  name_of (Nav n) = actor.Nav
  name_of (Watch w) = actor.Watch w.number

  -- their names, in their order
  abbrev pub names_of : List (ActorTold W) → List Actor
  names_of [] = []
  names_of (a ∷ actors) = name_of a ∷ names_of actors

-- the shared part at the beginning of a boot of so many links and watchers: nothing was asked, no grant is out, nobody came
-- to a meeting place
abbrev pub shared_begun : ℕ → ℕ → List PlanHead → SharedTold
shared_begun links watchers heads = record { board = opened links watchers heads; transfer = transfer.opened heads; arrived = []; power = true }

abbrev pub link_begun : ℕ → List (Actor × InputLine) → LinkTold
link_begun number inputs = record { number = number; upload = Free; schedule = fresh (inputs_of (actor.Link number) inputs) }

abbrev pub nav_begun : BootScript → BootState → NavTold
nav_begun boot state = record { nav = nav_at_boot boot.params boot.home state; schedule = fresh (inputs_of actor.Nav boot.inputs) }

module _ {W : Type 0} where
  abbrev pub watch_begun : ℕ → W → List (Actor × InputLine) → WatchTold W
  watch_begun number watcher inputs = record { number = number; watch = watch_begins watcher; schedule = fresh (inputs_of (actor.Watch number) inputs) }

  -- so many links from a number on
  abbrev pub links_begun : ℕ → ℕ → List (Actor × InputLine) → List (ActorTold W)
  links_begun number zero inputs = []
  links_begun number (suc count) inputs = Link (link_begun number inputs) ∷ links_begun (suc number) count inputs

  -- these watchers, from a number on
  abbrev pub watches_begun : ℕ → List W → List (Actor × InputLine) → List (ActorTold W)
  watches_begun number [] inputs = []
  watches_begun number (watcher ∷ watchers) inputs = Watch (watch_begun number watcher inputs) ∷ watches_begun (suc number) watchers inputs

  abbrev pub actors_begun : BootScript → BootState → List W → List (ActorTold W)
  actors_begun boot state watchers = Worker ∷ (links_begun 0 boot.links boot.inputs ++ Nav (nav_begun boot state) ∷ watches_begun 0 watchers boot.inputs)

  -- what is told at the boot line of a boot that found these heads and this mark, with these watchers
  abbrev pub begun : BootScript → BootState → List W → BootTold W
  begun boot state watchers = record { shared = shared_begun boot.links boot.watchers state.heads; actors = actors_begun boot state watchers }
