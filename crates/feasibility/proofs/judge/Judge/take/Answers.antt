use Rattle.std.proofs.Common.{◌<◌, length, sym, ap, subst, ◌∙◌}
use Rattle.mission_model.specs.declared.limits.TheConstants.{MAX_JUMPS}
use Rattle.feasibility.specs.declared.judge.Judge.{Judge}
use Rattle.feasibility.proofs.Joined.{Shown-next, jumps_room}
use Rattle.feasibility.proofs.judge.Judge.take.Goals as goal

pub feed-requires-2 : goal.feed-requires-2
feed-requires-2 c jumps =
    let r = c.requires in
    subst (λ l. length l < MAX_JUMPS) (sym (ap (λ (j : Judge). j.jumps.list.items) c.find_faults.ensures ∙ r.judged.shown.jumps)) (jumps_room r.items c.args.item.now r.rest r.valid jumps)

pub returns : goal.returns
returns c = Shown-next c.args.self.now c.find_faults.new.self c.args.item.now c.with-self.result c.feed.new.self c.feed-2.new.self c.feed-3.new.self c.find_faults.ensures c.with-self.ensures c.feed.ensures c.feed-2.ensures c.feed-3.ensures.list c.feed-3.ensures.last c.requires
