use Rattle.nav_text.specs.Lines.{is_line_feed}
use Rattle.nav_text.proofs.Places.{first_is}
use Rattle.nav_text.proofs.lines.first_line_feed.Goals as goal

pub returns : goal.returns
returns c = first_is is_line_feed c.args.text.now c.memchr.result c.memchr.ensures
