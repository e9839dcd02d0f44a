-- The pair at the place is what the step adds.
use Rattle.std.proofs.Common.{arith}
use Rattle.std.proofs.lemmas.Grind.{common_steps}
use Rattle.first_model.specs.CountsList.{pairs_of}
use Rattle.first_record.specs.Plans.{pair_text}
use Rattle.first_record.proofs.Joined.{flat_map-take_more}
use Rattle.first_record.proofs.plans.push_pairs.Goals as goal

pub loop-place-preserved : goal.loop-place-preserved
loop-place-preserved c =
    grind (arith, common_steps, flat_map-take_more pair_text (pairs_of c.args.counts.now) c.loop-place.place c.pair.result c.pair.ensures)
