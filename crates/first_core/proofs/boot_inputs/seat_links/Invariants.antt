-- The links before this one have their inputs, and the inputs of the others are left.
use Rattle.std.proofs.Common.{◌≡◌, ◌≤◌, ℕ}
use Rattle.first_model.specs.declared.flight_line.Actor.TheVariants.{Nav, Link}
use Rattle.first_core.specs.ScheduleState.{inputs_of}
use Rattle.first_core.specs.NewCore.{new_links}
use Rattle.first_core.proofs.boot_inputs.seat_links.Given as goal

abbrev pub invariant-loop-number : goal.invariant-loop-number
invariant-loop-number l =
    (l.links.items ≡ new_links l.number l.initial.rest.items)
    × (inputs_of Nav l.rest.items ≡ inputs_of Nav l.initial.rest.items)
    × ((k : ℕ) → l.number ≤ k → inputs_of (Link k) l.rest.items ≡ inputs_of (Link k) l.initial.rest.items)
