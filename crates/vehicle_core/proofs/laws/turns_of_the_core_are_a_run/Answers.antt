-- Turns are a run.
use Rattle.vehicle_core.proofs.TurnRuns.{turns_told, turns_lead, boot_up, boot_whole}
use Rattle.vehicle_core.proofs.laws.turns_of_the_core_are_a_run.Goals as goal

pub returns-clause-in_turn : goal.returns-clause-in_turn
returns-clause-in_turn g c = turns_told

pub returns-clause-lead : goal.returns-clause-lead
returns-clause-lead g c = turns_lead

pub returns-clause-up : goal.returns-clause-up
returns-clause-up g c = boot_up

pub returns-clause-whole : goal.returns-clause-whole
returns-clause-whole g c = boot_whole
