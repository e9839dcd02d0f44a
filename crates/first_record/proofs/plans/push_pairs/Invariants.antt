-- What is pushed so far is the text of the pairs before this place.
use Rattle.std.proofs.Common.{◌≡◌, ◌++◌, take}
use Rattle.first_model.specs.CountsList.{pairs_of}
use Rattle.first_record.specs.Plans.{pairs_text}
use Rattle.first_record.proofs.plans.push_pairs.Given as goal

abbrev pub invariant-loop-place : goal.invariant-loop-place
invariant-loop-place l = l.out ≡ l.initial.out ++ pairs_text (take l.place (pairs_of l.counts))
