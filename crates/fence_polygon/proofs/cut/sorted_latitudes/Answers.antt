use Rattle.std.proofs.Common.{sym, ap, subst, ◌∙◌, length, drop}
use Rattle.std.proofs.lemmas.List.{take_at}
use Rattle.fence_polygon.specs.Marks.{Rises}
use Rattle.fence_polygon.proofs.Ranges.{Rises-from_sort}
use Rattle.fence_polygon.proofs.cut.sorted_latitudes.Goals as goal

pub returns-clause-rises : goal.returns-clause-rises
returns-clause-rises c =
    let sorted = c.sort_unstable.new.self in
    let items = c.loop-vertex.sorted.items in
    subst Rises (sym (take_at sorted (drop (length sorted) items) (length items) (c.sort_unstable.ensures.len ∙ ap length c.as_mut_slice.ensures.value))) (Rises-from_sort sorted c.sort_unstable.ensures.sorted)
