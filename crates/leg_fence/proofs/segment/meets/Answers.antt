use Rattle.std.proofs.Common.{◌≡◌, true, false, sym, ◌∙◌}
use Rattle.leg_fence.proofs.Sound.{boxes-meet, lines-meet}
use Rattle.leg_fence.proofs.Complete.{Meets-crossing}
use Rattle.leg_fence.proofs.segment.meets.Goals as goal

pub returns-then-boxes_overlap : goal.returns-then-boxes_overlap
returns-then-boxes_overlap c = (
  λ h. Meets-crossing c.args.p c.args.q c.args.a c.args.b (sym c.boxes_overlap.ensures ∙ c.if-boxes_overlap.true) (sym c.lines_cross.ensures ∙ h),
  λ m. c.lines_cross.ensures ∙ lines-meet c.args.p c.args.q c.args.a c.args.b m,
)

pub returns-else-boxes_overlap : goal.returns-else-boxes_overlap
returns-else-boxes_overlap c = (
  λ h. absurd (let off : false ≡ true = sym c.if-boxes_overlap.false ∙ h in cc),
  λ m. c.boxes_overlap.ensures ∙ boxes-meet c.args.p c.args.q c.args.a c.args.b m,
)
