-- What was taken, and what is left of it, are together the actor's inputs, and so for the others.
use Rattle.std.proofs.Common.{◌≡◌, ◌++◌, length}
use Rattle.std.specs.Vec.Iter.{into_iter_items, into_iter_len}
use Rattle.first_core.specs.ScheduleState.{inputs_of, others_of}
use Rattle.first_core.proofs.boot_inputs.split.Given as goal

abbrev pub invariant-loop-other : goal.invariant-loop-other
invariant-loop-other l =
    (l.own.items ++ inputs_of l.actor (into_iter_items l.other-iterator) ≡ inputs_of l.initial.actor (into_iter_items l.initial.other-iterator))
    × (l.others.items ++ others_of l.actor (into_iter_items l.other-iterator) ≡ others_of l.initial.actor (into_iter_items l.initial.other-iterator))
    × (into_iter_len l.other-iterator ≡ length (into_iter_items l.other-iterator))
