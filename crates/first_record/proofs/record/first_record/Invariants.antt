-- What is pushed so far is the text of the lines before this one.
use Rattle.std.proofs.Common.{◌≡◌, take}
use Rattle.first_record.specs.Record.{record_text_of}
use Rattle.first_record.proofs.record.first_record.Given as goal

abbrev pub invariant-loop-line : goal.invariant-loop-line
invariant-loop-line l = l.out ≡ record_text_of (take l.line-index l.lines)
