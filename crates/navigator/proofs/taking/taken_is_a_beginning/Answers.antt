use Rattle.navigator.specs.Begins.{whole_taking-begins, stops_at_unknown, whole_is_plan}
use Rattle.navigator.proofs.taking.taken_is_a_beginning.Goals as goal

pub returns : goal.returns
returns c = record { begins = whole_taking-begins; stops = stops_at_unknown; whole = whole_is_plan }
