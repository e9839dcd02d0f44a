use Rattle.std.proofs.Common.{arith}
use Rattle.std.specs.List.{slice_range}
use Rattle.nav_text.specs.Words.{is_blank}
use Rattle.nav_text.proofs.Places.{end_is}
use Rattle.nav_text.proofs.SpanText.{length-slice_range}
use Rattle.nav_text.proofs.cursor.blank_from.Goals as goal

pub returns-in-None-clause-place : goal.returns-in-None-clause-place
returns-in-None-clause-place c =
    let place = end_is is_blank (slice_range c.args.text.now c.args.from c.args.to) c.in-None.ensures in
    let size = length-slice_range c.args.text.now c.args.from c.args.to c.requires.rising c.requires.inside in
    omega arith
