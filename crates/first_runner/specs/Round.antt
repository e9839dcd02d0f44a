-- The stated order of the actors: rounds of all of them.
use Rattle.std.specs.Prelude.{ℕ, zero, suc, List, [], ◌∷◌, ◌++◌}
use Rattle.first_model.specs.declared.flight_line.Actor.{Actor}
use Rattle.first_model.specs.declared.flight_line.Actor.TheVariants.{Worker, Link, Nav}

-- the links below a number, in their order
abbrev pub links_below : ℕ → List Actor
links_below zero = []
links_below (suc n) = links_below n ++ Link n ∷ []

-- a round: the worker, the links in their order, the Navigator
abbrev pub round_of : ℕ → List Actor
round_of links = Worker ∷ links_below links ++ Nav ∷ []
