-- The standing marks: what the Navigator takes to be the mark of its place.
use Rattle.std.specs.Prelude.{Bool, List, [], ◌∷◌, unwrap_or, if◌then◌else◌}
use Rattle.circular_buffer.specs.Buffer.{last_item}
use Rattle.mission_model.specs.declared.counts.Mark.{Mark}

-- the mark that stands for good: the boot's, the first of a new mission, or the last that was done; and behind it those that
-- were asked for this mission and have no reply yet, in their order
pub record MarksState : Type 0 where
  pub stood : Mark
  pub asked : List Mark

-- the last of the standing marks
abbrev pub last_standing : MarksState → Mark
last_standing m = unwrap_or (last_item m.asked) m.stood

-- the reply to the mark that was asked first: one that is not done stands no longer
abbrev pub answered_from : Mark → Bool → List Mark → MarksState
answered_from stood done [] = record { stood = stood; asked = [] }
answered_from stood done (first ∷ rest) = record { stood = if done then first else stood; asked = rest }

abbrev pub mark_answered : MarksState → Bool → MarksState
mark_answered m done = answered_from m.stood done m.asked
