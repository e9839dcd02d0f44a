use Rattle.std.proofs.Common.{List, sym, ◌∙◌}
use Rattle.mission_model.specs.declared.plan.Item.{Item}
use Rattle.mission_model.specs.PlanCheck.{Checked}
use Rattle.client_cache.specs.CacheState.{count_of}
use Rattle.navigator.proofs.NextItems.{next_taken, next_unfit, next_with_code}
use Rattle.navigator.proofs.taking.take_next.Goals as goal
use Rattle.navigator.proofs.taking.take_next.Goals.{then-go_with+in-Err, else-go_with}

pub returns-in-Ok : goal.returns-in-Ok
returns-in-Ok c = λ (items : List Item) (h : Checked c.args.check.now c.args.kind (count_of c.args.cache.now.head) items).
    next_taken c.args.kind c.args.uses.now c.args.cache.now items c.in_ok-item.item c.taken-seq.result c.next.new.self
    (c.taken-seq.ensures c.args.kind (count_of c.args.cache.now.head) items h) (sym c.in_ok-item.was ∙ c.known.ensures) (sym c.go_with.ensures ∙ c.if-go_with.true) (c.in-Ok.ensures.code c.args.kind (count_of c.args.cache.now.head) items h) (c.in-Ok.ensures.ok c.args.kind (count_of c.args.cache.now.head) items h)

pub returns : goal.returns
returns c = elim c.if-go_with.branch [
  | then-go_with+in-Err w ↦ λ (items : List Item) (h : Checked c.args.check.now c.args.kind (count_of c.args.cache.now.head) items).
      next_with_code c.args.kind c.args.uses.now c.args.cache.now items c.in_ok-item.item c.taken-seq.result c.args.check.now c.if-go_with.check c.forget.new.self w.in-Err.field-0 h
      (c.taken-seq.ensures c.args.kind (count_of c.args.cache.now.head) items h) (sym c.in_ok-item.was ∙ c.known.ensures) (w.in-Err.ensures.code c.args.kind (count_of c.args.cache.now.head) items h) c.forget.ensures (w.check-is ∙ w.in-Err.ensures.err)
  | else-go_with w ↦ λ (items : List Item) (h : Checked c.args.check.now c.args.kind (count_of c.args.cache.now.head) items).
      next_unfit c.args.kind c.args.uses.now c.args.cache.now items c.in_ok-item.item c.taken-seq.result c.args.check.now c.if-go_with.check c.forget.new.self h
      (c.taken-seq.ensures c.args.kind (count_of c.args.cache.now.head) items h) (sym c.in_ok-item.was ∙ c.known.ensures) (sym c.go_with.ensures ∙ w.if-go_with.false) c.forget.ensures w.check-is
]
