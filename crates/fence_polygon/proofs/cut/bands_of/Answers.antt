use Rattle.std.proofs.Common.{◌≡◌, ◌≤◌, sym, ap, subst, ◌∙◌, length, map, drop, ℤ}
use Rattle.std.proofs.lemmas.List.{take_at, length-map}
use Rattle.fence_polygon.specs.Bands.{CutAt, CutInBands, fence_edges, range_of}
use Rattle.fence_polygon.specs.Marks.{InOrder, with_edges}
use Rattle.fence_polygon.proofs.Order.{InOrder-cut}
use Rattle.fence_polygon.proofs.Puts.{ranges-with_edges}
use Rattle.fence_polygon.proofs.Spans.{CutInBands-made}
use Rattle.fence_polygon.proofs.cut.bands_of.Goals as goal

pub put_edges-requires-clause-order : goal.put_edges-requires-clause-order
put_edges-requires-clause-order c = subst InOrder (sym c.as_mut_slice.ensures.value) (InOrder-cut c.as_slice.result.now c.empty_bands-bands.result.items c.empty_bands-bands.ensures.cut)

pub returns : goal.returns
returns c =
    let bands = c.empty_bands-bands.result.items in
    let after = c.put_edges.new.bands in
    let made : after ≡ with_edges 0 (fence_edges c.args.vertices.now) bands = c.put_edges.ensures ∙ ap (with_edges 0 (fence_edges c.args.vertices.now)) c.as_mut_slice.ensures.value in
    let kept : length after ≡ length bands = sym (length-map after range_of) ∙ ap (λ l. length (map range_of l)) made ∙ ap (length {A = ℤ × ℤ}) (ranges-with_edges 0 (fence_edges c.args.vertices.now) bands) ∙ length-map bands range_of in
    let cut : CutAt c.sorted_latitudes.result.items (map range_of bands) = subst (λ xs. CutAt xs (map range_of bands)) c.as_slice.ensures.value c.empty_bands-bands.ensures.cut in
    subst (CutInBands c.args.vertices.now) (sym (take_at after (drop (length after) bands) (length bands) kept))
    (CutInBands-made c.args.vertices.now c.sorted_latitudes.result.items bands after c.sorted_latitudes.ensures.same cut c.empty_bands-bands.ensures.empty (subst (λ l. length l ≤ 127) c.as_mut_slice.ensures.value c.as_mut_slice.ensures.fits) made)
