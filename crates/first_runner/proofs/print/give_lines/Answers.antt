use Rattle.std.proofs.Common.{◌∙◌, sym, arith}
use Rattle.first_runner.proofs.Results.{at_err, at_ok}
use Rattle.first_runner.proofs.Printing.{part_given, line_given, front_given, Rose-earlier}
use Rattle.first_runner.proofs.print.give_lines.Goals as goal

pub returns-in_default-clause-err : goal.returns-in_default-clause-err
returns-in_default-clause-err g c = part_given c.args.lines.now c.loop-line.line-index _ _ c.loop-line.invariant.given

pub returns-then-is_err-clause-err : goal.returns-then-is_err-clause-err
returns-then-is_err-clause-err g c =
    let failed = sym c.is_err.ensures.value ∙ c.if-is_err.true in (
      Rose-earlier _ _ _ c.loop-line.invariant.faults (at_err _ _ c.give_all.ensures.failed failed),
      front_given c.args.lines.now c.loop-line.line-index c.line-item.result c.as_slice.result.now _ _ _ c.loop-line-test.true c.line-item.is (c.as_slice.ensures.value ∙ c.in-Ok.ensures) c.loop-line.invariant.given (at_err _ _ c.give_all.ensures.err failed),
    )

pub loop-line-preserved : goal.loop-line-preserved
loop-line-preserved g c =
    let went = sym c.is_err.ensures.value ∙ c.if-is_err.false in
    record {
      given = line_given c.args.lines.now c.loop-line.line-index c.line-item.result c.as_slice.result.now _ _ _ c.loop-line-test.true c.line-item.is (c.as_slice.ensures.value ∙ c.in-Ok.ensures) c.loop-line.invariant.given (at_ok _ _ c.give_all.ensures.ok went);
      faults = omega (arith, c.loop-line.invariant.faults, c.give_all.ensures.never_falls);
    }
