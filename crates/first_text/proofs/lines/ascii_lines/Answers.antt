use Rattle.std.proofs.Common.{◌≡◌, ◌+◌, ◌∷◌, ◌++◌, [], drop, map, ap, ◌∙◌, sym, arith, append-nil, vec_len, Some}
use Rattle.std.specs.List.{position_from}
use Rattle.first_text.specs.Spans.{text_of}
use Rattle.first_text.specs.Lines.{lines_of, line_spans}
use Rattle.first_text.specs.Faults.{is_long}
use Rattle.first_text.proofs.SpanText.{length-slice_range}
use Rattle.first_text.proofs.LineSteps.{no_lines, no_line_spans}
use Rattle.first_text.proofs.FaultSteps.{fault_long, fault_none, long_here, short_here}
use Rattle.first_text.proofs.Loops.{one_more, one_more_mapped, rising_more, all_inside}
use Rattle.first_text.proofs.lines.ascii_lines.Goals as goal

pub returns-then-line-gt-MAX_LINE_BYTES-clause-fault : goal.returns-then-line-gt-MAX_LINE_BYTES-clause-fault
returns-then-line-gt-MAX_LINE_BYTES-clause-fault c =
    let size = length-slice_range c.args.text.now c.line_from-next.result.0.from c.line_from-next.result.0.to c.line_from-next.ensures.to (omega arith) in
    let long = long_here (vec_len c.loop-from.spans + 1) (text_of c.args.text.now c.line_from-next.result.0) (lines_of (drop c.line_from-next.result.1 c.args.text.now)) (omega arith) in
    let found : position_from is_long (vec_len c.loop-from.spans + 1) (lines_of (drop c.loop-from.from c.args.text.now)) ≡ Some (vec_len c.loop-from.spans + 1) =
    ap (position_from is_long (vec_len c.loop-from.spans + 1)) c.line_from-next.ensures.line ∙ long in
    fault_long c.args.text.now (c.len.result + 1) c.requires.ascii (sym c.loop-from.invariant.short ∙ found ∙ ap (λ n. Some (n + 1)) (sym c.len.ensures))

pub loop-from-preserved : goal.loop-from-preserved
loop-from-preserved c =
    let from = c.loop-from.from in
    let next = c.line_from-next.result.1 in
    let line = c.line_from-next.result.0 in
    let text = c.args.text.now in
    let items : c.push.new.self.items ≡ c.loop-from.spans.items ++ line ∷ [] = c.in_ok-push.ensures.items in
    let len : vec_len c.push.new.self ≡ vec_len c.loop-from.spans + 1 = c.in_ok-push.ensures.len in
    let size = length-slice_range text line.from line.to c.line_from-next.ensures.to (omega arith) in
    let short = short_here (vec_len c.loop-from.spans + 1) (text_of text line) (lines_of (drop next text)) (omega arith) in
    record {
      within = c.line_from-next.ensures.inside;
      count = omega arith;
      lines = rw items (one_more_mapped (text_of text) c.loop-from.spans.items line (lines_of (drop from text)) (lines_of (drop next text)) (lines_of text) c.loop-from.invariant.lines c.line_from-next.ensures.line);
      spans = rw items (one_more c.loop-from.spans.items line (line_spans from (drop from text)) (line_spans next (drop next text)) (line_spans 0 text) c.loop-from.invariant.spans c.line_from-next.ensures.span);
      rising = rw items (rising_more 0 c.loop-from.spans.items from line next c.loop-from.invariant.rising (omega arith) c.line_from-next.ensures.to c.line_from-next.ensures.before);
      short = rw len (sym short ∙ sym (ap (position_from is_long (vec_len c.loop-from.spans + 1)) c.line_from-next.ensures.line) ∙ c.loop-from.invariant.short);
    }

pub returns-clause-lines : goal.returns-clause-lines
returns-clause-lines c =
    let none : lines_of (drop c.loop-from.from c.args.text.now) ≡ [] = no_lines c.loop-from.from c.args.text.now (omega arith) in
    sym (append-nil _) ∙ ap (λ rest. map (text_of c.args.text.now) c.loop-from.spans.items ++ rest) (sym none) ∙ c.loop-from.invariant.lines

pub returns-clause-spans : goal.returns-clause-spans
returns-clause-spans c =
    let none : line_spans c.loop-from.from (drop c.loop-from.from c.args.text.now) ≡ [] = no_line_spans c.loop-from.from c.args.text.now (omega arith) in
    sym (append-nil _) ∙ ap (λ rest. c.loop-from.spans.items ++ rest) (sym none) ∙ c.loop-from.invariant.spans

pub returns-clause-sound : goal.returns-clause-sound
returns-clause-sound c =
    let none : lines_of (drop c.loop-from.from c.args.text.now) ≡ [] = no_lines c.loop-from.from c.args.text.now (omega arith) in
    fault_none c.args.text.now c.requires.ascii (sym c.loop-from.invariant.short ∙ ap (position_from is_long (vec_len c.loop-from.spans + 1)) none)

pub returns-clause-inside : goal.returns-clause-inside
returns-clause-inside c = all_inside c.args.text.now 0 c.loop-from.spans.items c.loop-from.from c.loop-from.invariant.rising c.loop-from.invariant.within
