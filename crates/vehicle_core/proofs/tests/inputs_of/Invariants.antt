-- Each input that was added is one that its actor can have.
use Rattle.std.specs.List.{All}
use Rattle.mission_model.specs.BootScripts.{ActorInput}
use Rattle.vehicle_core.proofs.tests.inputs_of.Given as goal

abbrev pub invariant-loop-actor : goal.invariant-loop-actor
invariant-loop-actor l = All (ActorInput 2 2) l.inputs.items
