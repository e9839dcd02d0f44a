use Rattle.std.proofs.Common.{subst}
use Rattle.first_runner.specs.declared.words.Command.{Command}
use Rattle.first_runner.specs.Commands.{Ran}
use Rattle.first_runner.proofs.Commands.{one_command}
use Rattle.first_runner.proofs.command.flight.Goals as goal

pub returns-in-Some-clause-ran : goal.returns-in-Some-clause-ran
returns-in-Some-clause-ran g c =
    let source = g.S.Source in
    let sink = g.K.Sink in
    let old = c.args in
    let new = c.run.new in
    let out = c.run.result in
    λ command is. subst (λ (x : Command). Ran x out.status out.lines.items (source.faults old.input.now) (source.faults new.input) (source.left old.input.now) (source.left new.input) (sink.faults old.output.now) (sink.faults new.output) (sink.held old.output.now) (sink.held new.output)) (one_command _ _ _ c.in-Some.ensures is) c.run.ensures.ran
