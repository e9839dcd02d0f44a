-- The reader tells the lines from their text.
use Rattle.record_text.proofs.RecordLaws.{one_record}
use Rattle.record_text.proofs.reading.texts_differ.Goals as goal

pub returns : goal.returns
returns c = one_record
