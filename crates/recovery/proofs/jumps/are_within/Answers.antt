use Rattle.std.proofs.Common.{rules, refl, nat_le}
use Rattle.mission_model.specs.CountsList.{pairs_of}
use Rattle.mission_model.specs.Pairs.{used_of}
use Rattle.recovery.proofs.Lists.{stops, goes}
use Rattle.recovery.proofs.jumps.are_within.Goals as goal

pub returns-then-not-is_within-clause-within : goal.returns-then-not-is_within-clause-within
returns-then-not-is_within-clause-within c =
    stops (λ pair. nat_le pair.1 (used_of (pairs_of c.args.repeats.now) pair.0)) (pairs_of c.args.counts.now) c.loop-place.place c.pair-seq.result c.pair-seq.ensures (search rules) c.loop-place.invariant.rest

pub loop-place-preserved : goal.loop-place-preserved
loop-place-preserved c = record {
  end = c.loop-place.invariant.end;
  rise = c.loop-place.invariant.rise;
  rest = goes (λ pair. nat_le pair.1 (used_of (pairs_of c.args.repeats.now) pair.0)) (pairs_of c.args.counts.now) c.loop-place.place _ c.pair-seq.result refl c.pair-seq.ensures (search rules) c.loop-place.invariant.rest;
}
