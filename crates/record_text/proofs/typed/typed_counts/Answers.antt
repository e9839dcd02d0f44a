-- One more pair has numbers of its types, and at the end all have.
use Rattle.std.proofs.Common.{arith}
use Rattle.mission_model.specs.CountsList.{pairs_of}
use Rattle.record_text.specs.Typed.{IsTypedPair}
use Rattle.record_text.proofs.Joined.{all-take_more, all-take_all}
use Rattle.record_text.proofs.typed.typed_counts.Goals as goal

pub loop-place-preserved : goal.loop-place-preserved
loop-place-preserved c =
    let fits : IsTypedPair c.pair-seq.result = (omega arith, omega arith) in
    all-take_more IsTypedPair (pairs_of c.args.counts.now) c.loop-place.place c.pair-seq.result c.pair-seq.ensures c.loop-place.invariant fits

pub returns : goal.returns
returns c =
    (c.capacity-cells.ensures.cells, all-take_all IsTypedPair (pairs_of c.args.counts.now) c.loop-place.place (omega (arith, c.len-place-end.ensures.pairs)) c.loop-place.invariant)
