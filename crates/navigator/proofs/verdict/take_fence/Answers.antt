use Rattle.std.proofs.Common.{◌≢◌, ◌<◌, List, [], length, arith, subst}
use Rattle.mission_model.specs.declared.plan.Item.{Item}
use Rattle.client_cache.specs.CacheState.{count_of}
use Rattle.navigator.specs.Judging.{FedBy, ShownTo, no_uses}
use Rattle.navigator.proofs.Verdicts.{taking-whole, FedBy-begun}
use Rattle.navigator.proofs.verdict.take_fence.Goals as goal

pub returns-then-is_whole-clause-fence : goal.returns-then-is_whole-clause-fence
returns-then-is_whole-clause-fence c = taking-whole no_uses c.args.fence.now (c.is_whole.ensures.whole.0 c.if-is_whole.true)

pub returns-then-is_whole-2-clause-fed : goal.returns-then-is_whole-2-clause-fed
returns-then-is_whole-2-clause-fed c = λ (items : List Item) (h : FedBy c.args.params c.args.home c.args.fence.now c.args.mission.now items).
    let lacks : length c.args.fence.now.taken ≢ count_of c.args.fence.now.cache.head = λ e. cc (c.is_whole.ensures.whole.1 e, c.if-is_whole.false) in
    let part : length c.args.fence.now.taken < count_of c.args.fence.now.cache.head = omega (arith, lacks, c.is_whole.ensures.within) in
    let shown : ShownTo c.restart.new.self c.args.params c.args.home c.take_on.new.self.taken [] = subst (λ (f : List Item). ShownTo c.restart.new.self c.args.params c.args.home f []) c.fence.ensures c.restart.ensures.shown in
    FedBy-begun c.args.params c.args.home c.args.fence.now c.take_on.new.self c.args.mission.now c.restart.new.self items h part (c.is_whole-2.ensures.whole.0 c.if-is_whole-2.true) shown
