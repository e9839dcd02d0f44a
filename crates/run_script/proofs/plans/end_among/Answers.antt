use Rattle.std.proofs.lemmas.Iterator.Adapters.{position_from-zero}
use Rattle.nav_text.specs.Spans.{text_of}
use Rattle.run_script.specs.Plans.{is_end}
use Rattle.run_script.proofs.plans.end_among.Goals as goal

pub loop-place-init : goal.loop-place-init
loop-place-init c = position_from-zero (λ line. is_end (text_of c.args.text.now line)) c.args.lines.now
