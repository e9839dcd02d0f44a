-- All inputs but the rest are sorted, and the rest are inputs of actors.
use Rattle.std.proofs.Common.{◌≡◌}
use Rattle.std.specs.List.{All}
use Rattle.mission_model.specs.BootScripts.{ActorInput}
use Rattle.vehicle_core.specs.Seats.{Sorted}
use Rattle.vehicle_core.proofs.seats.sorted.Given as goal

abbrev pub invariant-loop-actor : goal.invariant-loop-actor
invariant-loop-actor l = Sorted l.fn.links l.fn.watchers l.fn.inputs.items l.actor-iterator.rest.items l.schedules.items × All (ActorInput l.fn.links l.fn.watchers) l.actor-iterator.rest.items × (l.links ≡ l.fn.links)
