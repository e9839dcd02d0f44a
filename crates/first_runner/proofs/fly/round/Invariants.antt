use Rattle.std.proofs.Common.{◌≡◌, ◌∷◌}
use Rattle.first_model.specs.declared.flight_line.Actor.TheVariants.{Worker}
use Rattle.first_runner.specs.Round.{links_below}
use Rattle.first_runner.proofs.fly.round.Given as goal

abbrev pub invariant-loop-link : goal.invariant-loop-link
invariant-loop-link l = l.actors.items ≡ Worker ∷ links_below l.link
