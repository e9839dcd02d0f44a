use Rattle.std.proofs.Common.{◌∙◌, sym}
use Rattle.first_runner.proofs.Results.{any_err}
use Rattle.first_runner.proofs.Turns.{went_more, stopped_within}
use Rattle.first_runner.proofs.run.Run.go_round.Goals as goal

pub returns-in_err-act_all-clause-err : goal.returns-in_err-act_all-clause-err
returns-in_err-act_all-clause-err c =
    any_err _ _ (stopped_within _ _ _ _ _ _ _ _ _ _ c.loop-self.invariant.went c.in_err-act_all.ensures.err)

pub loop-self-preserved : goal.loop-self-preserved
loop-self-preserved c =
    let before = c.len-before.ensures ∙ c.loop-self.self.lines.ok.0 in
    let after = c.len.ensures ∙ c.act_all.new.self.lines.ok.0 in
    record {
      went = went_more _ _ _ _ _ _ _ _ _ _ c.loop-self.invariant.went c.in_ok-act_all.ensures.ok (λ e. c.if-len-before.false (after ∙ (e ∙ sym before)));
      sound = c.in_ok-act_all.ensures.sound;
    }
