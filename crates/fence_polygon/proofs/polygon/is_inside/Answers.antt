use Rattle.std.proofs.Common.{◌+◌, ◌<◌, sym, ap, ◌∙◌, arith, not, cond, length, refl}
use Rattle.std.specs.Int.{w32, w64, trailing_zeros}
use Rattle.std.proofs.lemmas.Int.{to_z-of_z}
use Rattle.fence_polygon.proofs.Edges.{Walked-begin, Walked-end, Next-found, Next-on, Next-off}
use Rattle.fence_polygon.proofs.polygon.is_inside.Goals as goal
use Rattle.fence_polygon.proofs.polygon.is_inside.Goals.{then-crosses, else-crosses}

pub loop-left-init : goal.loop-left-init
loop-left-init c = rw (to_z-of_z w32 c.args.x c.ranges.x, to_z-of_z w32 c.args.y c.ranges.y) (Walked-begin c.args.polygon.now c.args.x c.args.y c.args.edges c.requires.edges)

pub bounds-polygon-at : goal.bounds-polygon-at
bounds-polygon-at c = (Next-found c.args.polygon.now _ _ c.loop-left.at c.loop-left.is_odd c.loop-left.left (trailing_zeros w64 c.loop-left.left) c.requires.few c.loop-left.invariant (omega arith) refl).within

pub vertex_after-to-requires : goal.vertex_after-to-requires
vertex_after-to-requires c = (Next-found c.args.polygon.now _ _ c.loop-left.at c.loop-left.is_odd c.loop-left.left (trailing_zeros w64 c.loop-left.left) c.requires.few c.loop-left.invariant (omega arith) refl).within

pub overflow_add-at : goal.overflow_add-at
overflow_add-at c =
    let within : c.loop-left.at + trailing_zeros w64 c.loop-left.left < length c.args.polygon.now = (Next-found c.args.polygon.now _ _ c.loop-left.at c.loop-left.is_odd c.loop-left.left (trailing_zeros w64 c.loop-left.left) c.requires.few c.loop-left.invariant (omega arith) refl).within in
    omega arith

pub offset_bounds-polygon-at : goal.offset_bounds-polygon-at
offset_bounds-polygon-at c =
    let within : c.loop-left.at + trailing_zeros w64 c.loop-left.left < length c.args.polygon.now = (Next-found c.args.polygon.now _ _ c.loop-left.at c.loop-left.is_odd c.loop-left.left (trailing_zeros w64 c.loop-left.left) c.requires.few c.loop-left.invariant (omega arith) refl).within in
    omega arith

pub overflow_add-at-in-loop-left : goal.overflow_add-at-in-loop-left
overflow_add-at-in-loop-left c =
    let within : c.loop-left.at + trailing_zeros w64 c.loop-left.left < length c.args.polygon.now = (Next-found c.args.polygon.now _ _ c.loop-left.at c.loop-left.is_odd c.loop-left.left (trailing_zeros w64 c.loop-left.left) c.requires.few c.loop-left.invariant (omega arith) refl).within in
    omega arith

pub returns-then-is_on_edge : goal.returns-then-is_on_edge
returns-then-is_on_edge c =
    let next = Next-found c.args.polygon.now _ _ c.loop-left.at c.loop-left.is_odd c.loop-left.left (trailing_zeros w64 c.loop-left.left) c.requires.few c.loop-left.invariant (omega arith) refl in
    rw (← to_z-of_z w32 c.args.x c.ranges.x, ← to_z-of_z w32 c.args.y c.ranges.y)
    (sym (Next-on c.args.polygon.now _ _ _ c.loop-left.is_odd _ _ _ next (sym c.index-polygon-at.is) c.vertex_after-to.ensures (sym c.is_on_edge.ensures ∙ c.if-is_on_edge.true)))

pub loop-left-preserved : goal.loop-left-preserved
loop-left-preserved c =
    let next = Next-found c.args.polygon.now _ _ c.loop-left.at c.loop-left.is_odd c.loop-left.left (trailing_zeros w64 c.loop-left.left) c.requires.few c.loop-left.invariant (omega arith) refl in
    Next-off c.args.polygon.now _ _ _ c.loop-left.is_odd c.if-crosses.is_odd _ _ _ next (sym c.index-polygon-at.is) c.vertex_after-to.ensures (sym c.is_on_edge.ensures ∙ c.if-is_on_edge.false)
    (elim c.if-crosses.branch [
      | then-crosses w ↦ w.is_odd-is ∙ ap (λ b. cond b (not c.loop-left.is_odd) c.loop-left.is_odd) (sym (sym c.crosses.ensures ∙ w.if-crosses.true))
      | else-crosses w ↦ w.is_odd-is ∙ ap (λ b. cond b (not c.loop-left.is_odd) c.loop-left.is_odd) (sym (sym c.crosses.ensures ∙ w.if-crosses.false))
    ])

pub returns : goal.returns
returns c =
    rw (← to_z-of_z w32 c.args.x c.ranges.x, ← to_z-of_z w32 c.args.y c.ranges.y)
    (Walked-end c.args.polygon.now _ _ c.loop-left.at c.loop-left.is_odd c.loop-left.left c.loop-left.invariant (omega arith))
