use Rattle.std.proofs.Common.{sym, subst, arith}
use Rattle.return_mode.proofs.Nearest.{BestSoFar, BestSoFar-begin, BestSoFar-more, BestSoFar-some, BestSoFar-none}
use Rattle.return_mode.proofs.choice.nearest.Goals as goal

pub loop-seq-init : goal.loop-seq-init
loop-seq-init c = BestSoFar-begin c.args.position c.args.home c.args.fence.now c.args.safe.now _ c.measured_home-best.ensures

pub loop-seq-preserved : goal.loop-seq-preserved
loop-seq-preserved c = BestSoFar-more c.args.position c.args.home c.args.fence.now c.args.safe.now c.loop-seq.seq _ c.loop-seq.best _ c.loop-seq-test.true c.with_safe_point-best.ensures c.loop-seq.invariant

pub returns-in-Some : goal.returns-in-Some
returns-in-Some c = sym (BestSoFar-some c.args.position c.args.home c.args.fence.now c.args.safe.now c.loop-seq.seq c.in-Some.field-0-0 c.in-Some.target (omega arith) (subst (λ b. BestSoFar c.args.position c.args.home c.args.fence.now c.args.safe.now c.loop-seq.seq b) c.in-Some.is c.loop-seq.invariant))

pub returns-in-None : goal.returns-in-None
returns-in-None c = sym (BestSoFar-none c.args.position c.args.home c.args.fence.now c.args.safe.now c.loop-seq.seq (omega arith) (subst (λ b. BestSoFar c.args.position c.args.home c.args.fence.now c.args.safe.now c.loop-seq.seq b) c.in-None.is c.loop-seq.invariant))
