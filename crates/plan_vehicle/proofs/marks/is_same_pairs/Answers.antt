use Rattle.std.proofs.Common.{◌≡◌, ℕ, sym, ap₂, ◌∙◌}
use Rattle.std.proofs.lemmas.List.{take_more_same}
use Rattle.std.proofs.lemmas.Option.{get_or_from_slice_get, slice_get_within}
use Rattle.mission_model.specs.CountsList.{pairs_of}
use Rattle.plan_vehicle.proofs.marks.is_same_pairs.Goals as goal

pub loop-place-preserved : goal.loop-place-preserved
loop-place-preserved c =
    let left = pairs_of c.args.left.now in
    let right = pairs_of c.args.right.now in
    let place = c.loop-place.place in
    let same : c.pair-seq.result ≡ c.pair-other.result = ap₂ (λ (a b : ℕ). (a, b)) c.if-seq-other.false c.if-used-count.false in
    take_more_same left right place (0, 0) (slice_get_within left place _ c.pair-seq.ensures) (slice_get_within right place _ c.pair-other.ensures) c.loop-place.invariant
    (get_or_from_slice_get left place _ (0, 0) c.pair-seq.ensures ∙ same ∙ sym (get_or_from_slice_get right place _ (0, 0) c.pair-other.ensures))
