use Rattle.std.proofs.Common.{◌≡◌, ◌+◌, ◌-◌, length, drop, ap, arith}
use Rattle.std.proofs.lemmas.List.{length-drop, take_rest}
use Rattle.first_text.specs.Lines.{is_line_feed}
use Rattle.first_text.proofs.Places.{place_is, end_is, place_within}
use Rattle.first_text.proofs.lines.line_feed_from.Goals as goal

pub returns-in-Some-clause-place : goal.returns-in-Some-clause-place
returns-in-Some-clause-place c = ap (λ n. c.args.from + n) (place_is is_line_feed (drop c.args.from c.args.text.now) c.in-Some.place (rw take_rest at c.in-Some.ensures))

pub returns-in-None-clause-place : goal.returns-in-None-clause-place
returns-in-None-clause-place c =
    let place = end_is is_line_feed (drop c.args.from c.args.text.now) (rw take_rest at c.in-None.ensures) in
    let len : length (drop c.args.from c.args.text.now) ≡ length c.args.text.now - c.args.from = length-drop c.args.from c.args.text.now in
    omega arith

pub returns-in-Some-clause-inside : goal.returns-in-Some-clause-inside
returns-in-Some-clause-inside c =
    let place = place_within is_line_feed (drop c.args.from c.args.text.now) c.in-Some.place (rw take_rest at c.in-Some.ensures) in
    let len : length (drop c.args.from c.args.text.now) ≡ length c.args.text.now - c.args.from = length-drop c.args.from c.args.text.now in
    omega arith
