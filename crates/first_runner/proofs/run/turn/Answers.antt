use Rattle.first_model.specs.declared.flight_line.Actor.TheVariants.{Worker}
use Rattle.first_store.specs.MapStore.{held}
use Rattle.first_runner.proofs.TiedTurns.{turn_other, turn_sound}
use Rattle.first_runner.proofs.run.turn.Goals as goal

pub returns-in-Worker-clause-sound : goal.returns-in-Worker-clause-sound
returns-in-Worker-clause-sound c =
    turn_sound c.args.core.now (held c.args.store.now) Worker c.worker_turn.result c.worker_turn.new.core (held c.worker_turn.new.store) c.requires c.worker_turn.ensures.turn c.worker_turn.ensures.fits

pub returns-in_default : goal.returns-in_default
returns-in_default c =
    let st = held c.args.store.now in
    let turn = turn_other c.args.core.now st c.args.actor c.step.result c.step.new.self c.in_default.not-Worker c.step.ensures.step in
    record { turn = turn; sound = turn_sound c.args.core.now st c.args.actor c.step.result c.step.new.self st c.requires turn c.step.ensures.fits }
