-- Names and places stay.
use Rattle.vehicle_core.proofs.Names.{line_made, leads_named}
use Rattle.vehicle_core.proofs.laws.actors_keep_their_places.Goals as goal

pub returns-clause-maker : goal.returns-clause-maker
returns-clause-maker g c = line_made

pub returns-clause-places : goal.returns-clause-places
returns-clause-places g c = leads_named
