use Rattle.std.proofs.lemmas.Iterator.Adapters.{position_from-zero}
use Rattle.first_text.specs.Spans.{text_of}
use Rattle.first_script.specs.Plans.{is_end}
use Rattle.first_script.proofs.plans.end_among.Goals as goal

pub loop-place-init : goal.loop-place-init
loop-place-init c = position_from-zero (λ line. is_end (text_of c.args.text.now line)) c.args.lines.now
