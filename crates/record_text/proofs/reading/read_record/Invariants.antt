-- The bytes are the text of the lines so far, and then the rest; each line has at least one byte.
use Rattle.std.proofs.Common.{length}
use Rattle.record_text.proofs.RecordLaws.{GoesOn}
use Rattle.record_text.proofs.reading.read_record.Given as goal

abbrev pub invariant-loop-rest : goal.invariant-loop-rest
invariant-loop-rest l = GoesOn l.bytes l.lines.items l.rest

abbrev pub decreases-loop-rest : goal.decreases-loop-rest
decreases-loop-rest l = length l.rest
