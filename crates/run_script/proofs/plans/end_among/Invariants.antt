use Rattle.std.proofs.Common.{◌≡◌, drop}
use Rattle.std.specs.Prelude.{position}
use Rattle.std.specs.List.{position_from}
use Rattle.nav_text.specs.Spans.{text_of}
use Rattle.run_script.specs.Plans.{is_end}
use Rattle.run_script.proofs.plans.end_among.Given as goal

abbrev pub invariant-loop-place : goal.invariant-loop-place
invariant-loop-place l = position (λ line. is_end (text_of l.text line)) l.lines ≡ position_from (λ line. is_end (text_of l.text line)) l.place (drop l.place l.lines)
