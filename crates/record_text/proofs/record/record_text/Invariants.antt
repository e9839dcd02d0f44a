-- What is pushed so far is the text of the lines before this one.
use Rattle.std.proofs.Common.{◌≡◌, take}
use Rattle.record_text.specs.Record.{record_text_of}
use Rattle.record_text.proofs.record.record_text.Given as goal

abbrev pub invariant-loop-line : goal.invariant-loop-line
invariant-loop-line l = l.out.items ≡ record_text_of (take l.line-index l.lines)
