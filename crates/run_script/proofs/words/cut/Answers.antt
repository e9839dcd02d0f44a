use Rattle.std.proofs.Common.{◌≡◌, ◌∙◌, ap, arith, sym, length, inl, inr, get_or, []}
use Rattle.std.proofs.lemmas.List.{get_or_past}
use Rattle.std.proofs.lemmas.Bool.{cases_lt}
use Rattle.nav_text.specs.Spans.{text_of}
use Rattle.nav_text.specs.Words.{words_in}
use Rattle.run_script.proofs.Cutting.{cut_of}
use Rattle.run_script.proofs.words.cut.Goals as goal

pub returns : goal.returns
returns c = cut_of c.args.text.now c.args.line c.first_words-count.new.places c.first_words-count.result c.first_words-count.ensures.count c.first_words-count.ensures.places
