use Rattle.dataman_layout.proofs.Spelled.{mark_spelled}
use Rattle.dataman_layout.proofs.mark.decode_mark_one.Goals as goal

pub returns-clause-bytes : goal.returns-clause-bytes
returns-clause-bytes c = mark_spelled 16 c.mark_of.result c.args.bytes.now c.fits-bytes c.mark_of.ensures.found
