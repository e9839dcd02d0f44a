-- Counts are those of their pairs.
use Rattle.std.proofs.Common.{◌∙◌, ap}
use Rattle.mission_model.specs.CountsList.{pairs_of}
use Rattle.mission_model.specs.declared.counts.Counts.{Counts}
use Rattle.record_text.specs.CountsReading.{counts_of}
use Rattle.record_text.proofs.CountsLaws.{counts_of-pairs}
use Rattle.record_text.proofs.mark_cursor.read_counts.Goals as goal

pub returns-clause-value : goal.returns-clause-value
returns-clause-value c =
    counts_of-pairs c.with_cells.result c.with_cells.ensures.cells ∙ ap (λ (counts : Counts). counts_of (pairs_of counts)) c.with_cells.ensures.same ∙ ap counts_of c.read_pairs.ensures.value
