-- What is pushed so far is the text of the pairs before this place.
use Rattle.std.proofs.Common.{◌≡◌, ◌++◌, take}
use Rattle.mission_model.specs.CountsList.{pairs_of}
use Rattle.record_text.specs.Plans.{pairs_text}
use Rattle.record_text.proofs.plans.push_pairs.Given as goal

abbrev pub invariant-loop-place : goal.invariant-loop-place
invariant-loop-place l = l.out.items ≡ l.initial.out.items ++ pairs_text (take l.place (pairs_of l.counts))
