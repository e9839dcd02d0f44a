-- What each script that is read today keeps within: one boot of one link and the Navigator, over plain missions.
use Rattle.std.specs.Prelude.{◌≡◌, ◌⊎◌, ℕ, ◌<◌, ◌≤◌, List, [], ◌∷◌, length, All, count_by, None, ⊤}
use Rattle.first_model.specs.declared.limits.TheConstants.{MAX_PLACES, MAX_PLANS, MAX_SCHEDULE_LINES, MAX_UPLOAD_LINES, MAX_TURN_WORDS}
use Rattle.first_model.specs.declared.flight_line.Actor.{Actor}
use Rattle.first_model.specs.declared.flight_line.Actor.TheVariants.{Worker, Link, Nav, Watch}
use Rattle.first_model.specs.declared.schedule.InputLine.{InputLine}
use Rattle.first_model.specs.declared.schedule.InputLine.TheVariants.{Upload, Wait, Meet, Vehicle}
use Rattle.first_model.specs.declared.schedule.BootScript.{BootScript}
use Rattle.first_model.specs.declared.schedule.Script.{Script}
use Rattle.first_model.specs.declared.vehicle.Mode.TheVariants as mode
use Rattle.first_model.specs.declared.vehicle.VehicleLine.{VehicleLine}
use Rattle.first_model.specs.declared.vehicle.VehicleLine.TheVariants.{Tick, Go, Reached, Mode}
use Rattle.first_script.specs.Plain.{IsPlain}
use Rattle.first_script.specs.Entries.{no_params}
use Rattle.first_script.specs.Uploads.{is_upload}

-- an event that asks for neither a return nor a position
abbrev pub IsPlainEvent : VehicleLine → Type 0
IsPlainEvent Tick = ⊤
IsPlainEvent Go = ⊤
IsPlainEvent Reached = ⊤
IsPlainEvent (Mode mode.Hold) = ⊤
IsPlainEvent (Mode mode.Mission) = ⊤
IsPlainEvent _ = ⊥

-- an input of link 0: a whole upload of a plain mission, a wait or a meeting
abbrev pub IsLinkInput : InputLine → Type 0
IsLinkInput (Upload kind items) = IsPlain kind items
IsLinkInput Wait = ⊤
IsLinkInput (Meet place count) = (place < MAX_PLACES) × (1 ≤ count)
IsLinkInput _ = ⊥

-- an input of the Navigator: an event, a wait or a meeting
abbrev pub IsNavInput : InputLine → Type 0
IsNavInput (Vehicle event) = IsPlainEvent event
IsNavInput Wait = ⊤
IsNavInput (Meet place count) = (place < MAX_PLACES) × (1 ≤ count)
IsNavInput _ = ⊥

-- an input of an actor that may have it
abbrev pub IsListed : Actor × InputLine → Type 0
IsListed (Link _, input) = IsLinkInput input
IsListed (Nav, input) = IsNavInput input
IsListed (_, _) = ⊥

-- an input that is no event of the vehicle
abbrev pub IsNoEvent : Actor × InputLine → Type 0
IsNoEvent (_, Vehicle _) = ⊥
IsNoEvent (_, _) = ⊤

-- an actor of a run with so many links and no watcher
abbrev pub IsOfRun : ℕ → Actor → Type 0
IsOfRun links Worker = ⊤
IsOfRun links Nav = ⊤
IsOfRun links (Link link) = link < links
IsOfRun links (Watch _) = ⊥

-- a boot without a cut, within the limits, whose actors are all of its run; the vehicle's events come only where no parameter is set
pub record IsFlyableBoot (boot : BootScript) : Type 0 where
  pub cut : boot.cut ≡ None
  pub watchers : boot.watchers ≡ 0
  pub links : boot.links ≤ 1
  pub inputs : All IsListed boot.inputs
  pub input_actors : All (λ input. IsOfRun boot.links input.0) boot.inputs
  pub turns : All (IsOfRun boot.links) boot.turns
  pub schedule : length boot.inputs ≤ MAX_SCHEDULE_LINES
  pub uploads : count_by is_upload boot.inputs ≤ MAX_UPLOAD_LINES
  pub turn_words : length boot.turns ≤ MAX_TURN_WORDS
  pub events : All IsNoEvent boot.inputs ⊎ (boot.params ≡ no_params)

-- the boots are one, and it is flyable
abbrev pub AreFlyable : List BootScript → Type 0
AreFlyable (boot ∷ []) = IsFlyableBoot boot
AreFlyable _ = ⊥

-- a script of one boot
pub record IsFlyable (script : Script) : Type 0 where
  pub few : length script.plans ≤ MAX_PLANS
  pub boots : AreFlyable script.boots
